-- The tests of a line as the code makes them, and a turn of the judging. Assumes nothing.
use Rattle.std.proofs.Common.{◌≡◌, refl, sym, ap, ◌∙◌, ℕ, suc, ◌+◌, ◌-◌, ◌<◌, ◌≤◌, Bool, true, false, not, List, [], ◌∷◌, length, take, drop, Option, Some, None, MatchOption, MatchResult, Result, Ok, Err, OnOk, arith}
use Rattle.std.proofs.lemmas.List.{take_rest}
use Rattle.std.specs.Option.{is_some}
use Rattle.std.specs.Result.{is_ok}
use borrow.Author.Tests.{eq-eqb, ne_eqb, lt-ltb, le-ltb}
use Rattle.std.proofs.Common.{length-take}
use Rattle.standard.specs.Base.{◌then◌else◌}
use Rattle.list_spec.specs.Lines.{TAB, before, count, Line, lines_of, chars_of, name_of, names_of, among}
use Rattle.list_spec.specs.ListCall.{is_known, used_before, fault_in, fault_of, fault, first_fault, fault_of_list, kept, options_of}
use Rattle.list_spec.proofs.Parts.{count_none, count_one}
use Rattle.list_spec.proofs.Faults.{named_known}
use Rattle.list_spec.proofs.Turns.{lines_at, lines_end}
use Rattle.list.specs.declared.fault.Fault.{Fault}
use Rattle.list.specs.declared.fault.FaultyLine.{FaultyLine}
use Rattle.list.specs.declared.fault.Fault.TheVariants.{NotOneTab, UnknownName, UsedName}
use Rattle.list.specs.Faults.{number_of, refusal_of}
use Rattle.list.specs.Walking.{line_with, InText, name_fault}

pub number_pos : (f : Fault) → 0 < number_of f
number_pos NotOneTab = omega arith
number_pos UnknownName = omega arith
number_pos UsedName = omega arith

pub on_ok : {T E : Type 0} (P : Type 0) (r : Result T E) → P → OnOk r P
on_ok P (Ok x) h = h
on_ok P (Err e) h = tt

-- an answer that is none of the errors
pub ok_at : {T : Type 0} (r : Result T Fault) (P : Type 0) → OnOk r P → is_ok r ≡ true → (refusal_of r ≡ 0) × P
ok_at (Ok x) P h e = (refl, h)
ok_at (Err f) P h e = absurd (cc)

-- an error e that was made of the fault of a line n
pub told : {T : Type 0} (r : Result T Fault) (e : FaultyLine) (n : ℕ) (post : Fault → Type 0) → MatchResult r (λ x. Err e ≡ Ok x) post →
    ((f : Fault) → post f → e ≡ record { line = n; fault = f }) → (refusal_of r ≡ number_of e.fault) × (e.line ≡ n)
told (Ok x) e n post m h = absurd (cc)
told (Err f) e n post m h = let d = h f m in (ap (λ (e : FaultyLine). number_of e.fault) (sym d), ap (λ (e : FaultyLine). e.line) d)

-- a search that found, and one that did not
pub found_below : (r : Option ℕ) (b m : ℕ) → MatchOption r (b ≡ m) (λ i. (i ≡ b) × (i < m)) → true ≡ is_some r → b < m
found_below (Some i) b m h g = omega arith
found_below None b m h g = absurd (cc)

pub found_none : (r : Option ℕ) (b m : ℕ) → MatchOption r (b ≡ m) (λ i. (i ≡ b) × (i < m)) → false ≡ is_some r → b ≡ m
found_none (Some i) b m h g = absurd (cc)
found_none None b m h g = h

-- A line with one tab, behind a name x that is not empty: only the name is left to judge.
pub record Named (text names : List ℕ) (l : Line) (x : List ℕ) : Type 0 where
  pub name : x ≡ name_of text l
  pub long : 0 < length x
  pub judges : name_fault text names l.start x ≡ fault_of text names l

-- the line n from a on with the characters cs, of which there are some
module _ (text names : List ℕ) (n a : ℕ) (cs : List ℕ) (s : InText text (line_with n a cs) cs) (h : 0 < length cs) where
  abbrev l : Line
  l = line_with n a cs

  pub some : l.start < l.stop
  some = omega arith

  inner : fault_of text names l ≡ fault_in text names l
  unfolding fault_of
  inner = simp (lt-ltb l.start l.stop some)

  not_one : (count TAB cs ≡ 1 → ⊥) → fault_in text names l ≡ 16
  unfolding fault_in
  not_one m = rw (sym s.are) (simp (ne_eqb (count TAB cs) 1 m))

  pub fault_none : before TAB cs ≡ length cs → 16 ≡ fault_of text names l
  fault_none q = sym (inner ∙ not_one (λ m. omega (arith, m, count_none TAB cs q)))

  -- the first tab stands behind k characters
  module _ (k : ℕ) (e : k ≡ before TAB cs) (kz : k < length cs) where
    abbrev rest : List ℕ
    rest = take (length cs - (k + 1)) (drop (k + 1) cs)

    again : count TAB cs ≡ suc (count TAB rest)
    again =
        let z : suc (before TAB cs) ≡ k + 1 = omega arith in
        count_one TAB cs (omega arith) ∙ ap (λ (i : ℕ). suc (count TAB (drop i cs))) z ∙ ap (λ (r : List ℕ). suc (count TAB r)) (sym (take_rest cs (k + 1)))

    pub fault_several : before TAB rest < length rest → 16 ≡ fault_of text names l
    fault_several q = sym (inner ∙ not_one (λ m. omega (arith, m, again, count_one TAB rest q)))

    -- and it is the only one
    module _ (q : before TAB rest ≡ length rest) where
      one : count TAB (chars_of text l) ≡ 1
      one = ap (count TAB) (sym s.are) ∙ omega (arith, again, count_none TAB rest q)

      name : take k cs ≡ name_of text l
      unfolding name_of
      name = rw (sym s.are, e)

      pub fault_nameless : k ≡ 0 → 17 ≡ fault_of text names l
      unfolding fault_in is_known
      fault_nameless i =
          let w : name_of text l ≡ [] = sym name ∙ ap (λ (i : ℕ). take i cs) i in
          sym (inner ∙ simp (eq-eqb (count TAB (chars_of text l)) 1 one, w))

      pub named : (k ≡ 0 → ⊥) → Named text names l (take k cs)
      unfolding fault_in name_fault
      named i = record {
        name = name;
        long = long;
        judges = sym (inner ∙ simp (eq-eqb (count TAB (chars_of text l)) 1 one, sym name, named_known names (take k cs) long)
            (judge (among (take k cs) (names_of names)) (used_before text a (take k cs) (lines_of text))));
      }
        where
          long : 0 < length (take k cs)
          long = omega (arith, i, length-take k cs)

          judge : (b c : Bool) → ◌≡◌ {A = ℕ} (not b then 17 else c then 18 else 0) (b then (c then 18 else 0) else 17)
          judge true c = refl
          judge false c = refl

-- What is judged from here on is what is judged of the whole: k options stand before.
pub record Judges (text names : List ℕ) (ls : List Line) (k : ℕ) : Type 0 where
  pub same : first_fault text names ls ≡ fault_of_list text names
  pub number : k + length (kept ls) ≡ length (options_of text)

module _ (text names : List ℕ) (l : Line) (ls : List Line) (k : ℕ) (j : Judges text names (l ∷ ls) k) where
  pub judged_empty : l.stop ≤ l.start → Judges text names ls k
  unfolding first_fault fault_of kept
  judged_empty h = record {
    same = simp (le-ltb l.start l.stop h) at j.same;
    number = simp (le-ltb l.start l.stop h) at j.number;
  }

  module _ (h : l.start < l.stop) where
    pub judged_on : 0 ≡ fault_of text names l → Judges text names ls (k + 1)
    unfolding first_fault kept
    judged_on e = record {
      same = simp (sym e) at j.same;
      number = omega (arith, simp (lt-ltb l.start l.stop h) at j.number);
    }

    pub judged_fault : (f : ℕ) → 0 < f → f ≡ fault_of text names l → fault_of_list text names ≡ fault f l.number
    unfolding first_fault
    judged_fault f p e = sym (simp (sym e, ne_eqb f 0 (λ z. omega arith)) at j.same)

-- no line is left
pub judged_none : (text names : List ℕ) (n a k : ℕ) → length text ≤ a → Judges text names (lines_at text n a) k →
    (fault_of_list text names ≡ fault 0 0) × (k ≡ length (options_of text))
unfolding first_fault kept
judged_none text names n a k h j =
    let e : lines_at text n a ≡ [] = lines_end text n a h in
    (sym (rw e at j.same), omega (arith, rw e at j.number))
