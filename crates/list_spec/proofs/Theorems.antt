-- The promises of specs/Statements.antt. Assumes nothing.
use mathlib.Core.Path.{◌≡◌, refl, sym, ap, ◌∙◌}
use mathlib.Core.Logic.{◌⊎◌, ⊎_elim}
use mathlib.Core.Bool.{Bool, true, false}
use mathlib.Core.List.Memᴰ
use mathlib.Core.List.{List, [], ◌∷◌, Memᴰ}
use Prim.Native.Nat.{ℕ, zero, suc, ◌+◌, ◌-◌, ◌*◌, ◌/◌, ◌≤◌, ◌<◌}
use native.Mathlib.Omega.{arith}
use lib.Dec.{ltb, eqb}
use lib.ListN.{length, take, drop, length-append, length-drop}
use lib.Seq.{length-slice, length-take-le, get_or-drop, get_or-take}
use borrow.Author.Tests.{eq-eqb, ne_eqb, lt-ltb, le-ltb, eqb-true, eqb-false, ltb-true, ltb-false}
use Rattle.standard.specs.Base.{◌then◌else◌}
use Rattle.list_spec.specs.Lines.{TAB, before, count, Line, line, lines_of, chars_of, name_of}
use Rattle.list_spec.specs.ListCall.{Fault, kept, cells_of, cells, fault_of_list, options_of}
use Rattle.list_spec.specs.ListCall.{Outcome, listed, refuse, hand_out, list_call}
use Rattle.list_spec.specs.Spans.{span_at}
use Rattle.list_spec.specs.Statements.{Faultless, Exactly, AtFault, FirstFault, Rising, Ascending, Places, Handed}
use Rattle.list_spec.specs.Statements.{Joined, met, Walked}
use Rattle.list_spec.proofs.Parts.{before_le, before_at, count_none, name_part}
use Rattle.list_spec.proofs.Turns.{lines_at, lines_end}
use Rattle.list_spec.proofs.Lies.{end, stop, low, by_lines, next, all_lie, rising, joined_whole}
use Rattle.list_spec.proofs.Faults.{faultless, no_fault, first_fault_lem, one_of_three}

-- five cells an option
pub cells_length : (text : List ℕ) (ls : List Line) → length (cells text ls) ≡ 5 * length ls
unfolding cells cells_of
cells_length text [] = omega arith
cells_length text (l ∷ ls) = omega (arith, cells_length text ls)

-- the call, by its two tests
module _ (text names room : List ℕ) where
  abbrev f : Fault
  f = fault_of_list text names

  abbrev many : ℕ
  many = length (options_of text)

  pub at_fault : (f.refusal ≡ 0 → ⊥) → list_call text names room ≡ refuse f.refusal f.line room
  unfolding list_call
  at_fault n = simp (ne_eqb f.refusal 0 n)

  pub no_room : f.refusal ≡ 0 → length room / 5 < many → list_call text names room ≡ refuse 7 0 room
  unfolding list_call
  no_room n h = simp (eq-eqb f.refusal 0 n, lt-ltb (length room / 5) many h)

  pub handed_out : f.refusal ≡ 0 → many ≤ length room / 5 → list_call text names room ≡ hand_out text room
  unfolding list_call
  handed_out n h = simp (eq-eqb f.refusal 0 n, le-ltb (length room / 5) many h)

  pub fits : many ≤ length room / 5 → length (cells text (options_of text)) ≤ length room
  fits h = omega (arith, cells_length text (options_of text))

  -- what holds of the three outcomes holds of the call's
  by_outcome : (P : Outcome → Type 0) → ((f.refusal ≡ 0 → ⊥) → P (refuse f.refusal f.line room)) →
      (f.refusal ≡ 0 → length room / 5 < many → P (refuse 7 0 room)) →
      (f.refusal ≡ 0 → many ≤ length room / 5 → P (hand_out text room)) → P (list_call text names room)
  by_outcome P one two three = go (eqb f.refusal 0) refl (ltb (length room / 5) many) refl
    where
      go : (b : Bool) → eqb f.refusal 0 ≡ b → (c : Bool) → ltb (length room / 5) many ≡ c → P (list_call text names room)
      go false b c d = let n = eqb-false f.refusal 0 b in rw (at_fault n) (one n)
      go true b true d =
          let n = eqb-true f.refusal 0 b in
          let h = ltb-true (length room / 5) many d in rw (no_room n h) (two n h)
      go true b false d =
          let n = eqb-true f.refusal 0 b in
          let h = ltb-false (length room / 5) many d in rw (handed_out n h) (three n h)

  pub exactly : Exactly text names room
  exactly = record {
    accepted = λ g h. ap (λ (o : Outcome). o.answer) (handed_out (no_fault text names g) h);
    too_small = λ g h. ap (λ (o : Outcome). o.answer) (no_room (no_fault text names g) h);
    only_then = by_outcome (λ o. o.answer.refusal ≡ 0 → Faultless text names × (many ≤ length room / 5))
        (λ n z. absurd (n z)) (λ n h z. absurd (omega arith)) (λ n h z. (faultless text names n, h));
    untouched = by_outcome (λ o. (o.answer.refusal ≡ 0 → ⊥) → o.room ≡ room)
        (λ n z. refl) (λ n h z. refl) (λ n h z. absurd (z refl));
    room_kept = by_outcome (λ o. length o.room ≡ length room) (λ n. refl) (λ n h. refl) (λ n h.
        let out = cells text (options_of text) in
        length-append out (drop (length out) room) ∙ omega (arith, fits h, length-drop (length out) room));
  }

  pub faulty : (f.refusal ≡ 0 → ⊥) → AtFault text names (listed 0 f.line f.refusal)
  faulty n =
      let g = first_fault_lem text names n in
      let l = all_lie text g.line g.there in
      record {
        line = g.line;
        there = g.there;
        number = g.number;
        fault = g.fault;
        first = g.none_before;
        within = l.below;
        counted = sym g.number ∙ l.counted;
        behind = l.behind;
      }

  not_faultless : (Faultless text names → ⊥) → f.refusal ≡ 0 → ⊥
  not_faultless g z = g (faultless text names z)

  pub first_at_fault : FirstFault text names room
  first_at_fault = record {
    faulty = λ g. rw (at_fault (not_faultless g)) (faulty (not_faultless g));
    named = λ g. rw (at_fault (not_faultless g)) (one_of_three text names (not_faultless g));
  }

-- the lines that are kept
kept_in : (ms : List Line) (l : Line) → Memᴰ l (kept ms) → Memᴰ l ms × (l.start < l.stop)
unfolding kept
kept_in [] l i = absurd (Memᴰ.not-nil i)
kept_in (m ∷ ms) l i = go (ltb m.start m.stop) refl i (kept_in ms l)
  where
    go : (b : Bool) → ltb m.start m.stop ≡ b → Memᴰ l (b then m ∷ kept ms else kept ms) →
        (Memᴰ l (kept ms) → Memᴰ l ms × (l.start < l.stop)) → Memᴰ l (m ∷ ms) × (l.start < l.stop)
    go true e i r =
        ⊎_elim (λ p. (Memᴰ.head p, rw p (ltb-true m.start m.stop e))) (λ j. (Memᴰ.tail (r j).0, (r j).1))
        (Memᴰ.cases_cons i)
    go false e i r = (Memᴰ.tail (r i).0, (r i).1)

ascending_less : (s t : ℕ) (ls : List Line) → s ≤ t → Ascending t ls → Ascending s ls
unfolding Ascending
ascending_less s t [] h a = tt
ascending_less s t (l ∷ ls) h a = (omega (arith, a.0), a.1)

kept_ascending : (n s : ℕ) (ms : List Line) → Rising n s ms → Ascending s (kept ms)
unfolding kept Rising Ascending
kept_ascending n s [] r = tt
kept_ascending n s (l ∷ ls) r = go (ltb l.start l.stop) (kept_ascending (n + 1) (l.stop + 1) ls r.3)
  where
    go : (b : Bool) → Ascending (l.stop + 1) (kept ls) → Ascending s (b then l ∷ kept ls else kept ls)
    go true a = (r.1, a)
    go false a = ascending_less s (l.stop + 1) (kept ls) (omega (arith, r.1, r.2)) a

in_kept : (ms : List Line) (l : Line) → Memᴰ l ms → l.start < l.stop → Memᴰ l (kept ms)
unfolding kept
in_kept [] l i h = absurd (Memᴰ.not-nil i)
in_kept (m ∷ ms) l i h = go (ltb m.start m.stop) refl (Memᴰ.cases_cons i) (λ j. in_kept ms l j h)
  where
    go : (b : Bool) → ltb m.start m.stop ≡ b → (l ≡ m) ⊎ Memᴰ l ms → (Memᴰ l ms → Memᴰ l (kept ms)) →
        Memᴰ l (b then m ∷ kept ms else kept ms)
    go true e i r = ⊎_elim (λ p. Memᴰ.head p) (λ j. Memᴰ.tail (r j)) i
    go false e i r =
        ⊎_elim (λ p. absurd (omega (arith, ltb-false m.start m.stop e, ap (λ (o : Line). o.start) p, ap (λ (o : Line). o.stop) p)))
        r i

module _ (text names : List ℕ) where
  places : Faultless text names → (l : Line) → Memᴰ l (options_of text) → Places text l (l.start + before TAB (chars_of text l))
  unfolding name_of
  places f l i =
      let k = kept_in (lines_of text) l i in
      let r = f l k.0 k.1 in
      let cs = chars_of text l in
      let t = before TAB cs in
      let w : l.stop ≤ length text = (all_lie text l k.0).within in
      let s : length cs ≡ l.stop - l.start = length-slice l.start l.stop text w in
      let b : t < length cs = less (eqb t (length cs)) refl r.one_tab in
      let n : length (take t cs) ≡ t = length-take-le t cs (omega arith) in
      let o : 0 < length (take t cs) = r.named in
      record {
        name = omega arith;
        value = omega arith;
        within = w;
        tab = sym (get_or-drop l.start (take l.stop text) t 0 ∙ get_or-take l.stop text (l.start + t) 0 (omega arith)) ∙
            before_at TAB cs b;
        same = name_part text l.number l.start l.stop (l.start + t) (omega arith) w refl;
      }
    where
      cs : List ℕ
      cs = chars_of text l

      less : (b : Bool) → eqb (before TAB cs) (length cs) ≡ b → count TAB cs ≡ 1 → before TAB cs < length cs
      less true e c = absurd (omega (arith, count_none TAB cs (eqb-true (before TAB cs) (length cs) e)))
      less false e c = omega (arith, eqb-false (before TAB cs) (length cs) e, before_le TAB cs)

  pub handed : Handed text names
  handed = record {
    order = rising text;
    once = kept_ascending 1 0 (lines_of text) (rising text);
    five = cells_length text (options_of text);
    kept_lines = kept_in (lines_of text);
    all_kept = in_kept (lines_of text);
    places = places;
  }

module _ (text : List ℕ) where
  pub joined_lines : Joined text
  joined_lines = record {
    whole = joined_whole text;
    no_line_feed = λ l i. (all_lie text l i).no_line_feed;
    no_carriage_return = λ l i. (all_lie text l i).no_carriage_return;
    none_behind = λ l i. (all_lie text l i).below;
  }

  -- the record's walk
  met_from : (k n a : ℕ) → length text ≤ a + k → (j : ℕ) → length text ≤ a + j → met j text n a ≡ lines_at text n a
  unfolding met span_at
  met_from = by_lines text (λ n a. (j : ℕ) → length text ≤ a + j → met j text n a ≡ lines_at text n a) last on
    where
      last : (n a : ℕ) → length text ≤ a → (j : ℕ) → length text ≤ a + j → met j text n a ≡ lines_at text n a
      last n a h zero g = sym (lines_end text n a h)
      last n a h (suc j) g = simp (le-ltb a (length text) h) (sym (lines_end text n a h))

      on : (n a : ℕ) → a < length text →
          ((j : ℕ) → length text ≤ end text a + 1 + j → met j text (n + 1) (end text a + 1) ≡ lines_at text (n + 1) (end text a + 1)) →
          (j : ℕ) → length text ≤ a + j → met j text n a ≡ lines_at text n a
      on n a h r zero g = absurd (omega arith)
      on n a h r (suc j) g =
          simp (lt-ltb a (length text) h) (ap (λ (ls : List Line). line n a (stop text a) ∷ ls) (r j (omega (arith, low text a h)))) ∙
          sym (next text n a h)

  pub walked : Walked text
  unfolding span_at
  walked = record {
    lines = met_from (length text) 1 0 (omega arith) (length text) (omega arith);
    on = λ a h. simp (lt-ltb a (length text) h) (omega (arith, low text a h));
    end = λ a h. simp (le-ltb a (length text) h);
  }
