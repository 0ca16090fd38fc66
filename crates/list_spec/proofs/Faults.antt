-- The faults of the lines as facts: what a line without a fault has, and the first line at fault. Assumes nothing.
use mathlib.Core.Path.{◌≡◌, refl, sym, ap, ◌∙◌}
use mathlib.Core.Logic.{◌⊎◌, inl, inr, ⊎_elim}
use mathlib.Core.Bool.{Bool, true, false, not, true≢false}
use mathlib.Core.List.Memᴰ
use mathlib.Core.List.{List, [], ◌∷◌, Memᴰ}
use Prim.Native.Nat.{ℕ, ◌+◌, ◌≤◌, ◌<◌}
use native.Mathlib.Omega.{arith}
use lib.Dec.{ltb, eqb}
use lib.ListN.{length}
use borrow.Author.Tests.{eq-eqb, lt-ltb, eqb-true, eqb-false, ltb-true}
use Rattle.standard.specs.Base.{◌then◌else◌}
use Rattle.list_spec.specs.Lines.{TAB, count, same, Line, lines_of, chars_of, name_of, names_of, among}
use Rattle.list_spec.specs.ListCall.{is_known, used_before, fault_in, fault_of, Fault, fault, first_fault, fault_of_list}
use Rattle.list_spec.specs.Statements.{Right, Faultless, Rising}
use Rattle.list_spec.proofs.Parts.{same_true, same_refl}
use Rattle.list_spec.proofs.Lies.{rising}

-- one of the names, as a test and as a fact
among_in : (x : List ℕ) (ys : List (List ℕ)) → among x ys ≡ true → Memᴰ x ys
unfolding among
among_in x [] h = absurd (true≢false (sym h))
among_in x (y ∷ ys) h = go (same y x) refl h (among_in x ys)
  where
    go : (b : Bool) → same y x ≡ b → (b then true else among x ys) ≡ true → (among x ys ≡ true → Memᴰ x ys) → Memᴰ x (y ∷ ys)
    go true e h r = Memᴰ.head (sym (same_true y x e))
    go false e h r = Memᴰ.tail (r h)

in_among : (x : List ℕ) (ys : List (List ℕ)) → Memᴰ x ys → among x ys ≡ true
unfolding among
in_among x [] h = absurd (Memᴰ.not-nil h)
in_among x (y ∷ ys) h = go (same y x) refl (Memᴰ.cases_cons h) (in_among x ys)
  where
    go : (b : Bool) → same y x ≡ b → (x ≡ y) ⊎ Memᴰ x ys → (Memᴰ x ys → among x ys ≡ true) →
        (b then true else among x ys) ≡ true
    go true e h r = refl
    go false e h r = ⊎_elim (λ p. absurd (true≢false (sym (same_refl x) ∙ ap (λ (l : List ℕ). same l x) p ∙ e))) (λ m. r m) h

-- used before, as a test and as a fact
module _ (text : List ℕ) (to : ℕ) (x : List ℕ) where
  used_none : (ms : List Line) → used_before text to x ms ≡ false →
      (m : Line) → Memᴰ m ms → m.start < to → name_of text m ≡ x → ⊥
  unfolding used_before
  used_none [] h m i s e = Memᴰ.not-nil i
  used_none (l ∷ ls) h m i s e =
      ⊎_elim
      (λ p.
      let t : ltb l.start to ≡ true = lt-ltb l.start to (omega (arith, ap (λ (o : Line). o.start) p)) in
      let u : same (name_of text l) x ≡ true =
      ap (λ (o : Line). same (name_of text o) x) (sym p) ∙ ap (λ (z : List ℕ). same z x) e ∙ same_refl x in
      true≢false (simp (t, u) at h))
      (λ j. used_none ls (go (ltb l.start to) (same (name_of text l) x) h) m j s e)
      (Memᴰ.cases_cons i)
    where
      go : (b c : Bool) → (b then (c then true else used_before text to x ls) else used_before text to x ls) ≡ false →
          used_before text to x ls ≡ false
      go true true h = absurd (true≢false h)
      go true false h = h
      go false c h = h

  none_used : (ms : List Line) → ((m : Line) → Memᴰ m ms → m.start < to → name_of text m ≡ x → ⊥) →
      used_before text to x ms ≡ false
  unfolding used_before
  none_used [] f = refl
  none_used (l ∷ ls) f =
      go (ltb l.start to) refl (same (name_of text l) x) refl (none_used ls (λ m i. f m (Memᴰ.tail i)))
    where
      go : (b : Bool) → ltb l.start to ≡ b → (c : Bool) → same (name_of text l) x ≡ c → used_before text to x ls ≡ false →
          (b then (c then true else used_before text to x ls) else used_before text to x ls) ≡ false
      go true p true q r = absurd (f l (Memᴰ.head refl) (ltb-true l.start to p) (same_true (name_of text l) x q))
      go true p false q r = r
      go false p c q r = r

-- a known name, as a test and as facts
known_named : (names x : List ℕ) → is_known names x ≡ true → (0 < length x) × (among x (names_of names) ≡ true)
unfolding is_known
known_named names [] h = absurd (true≢false (sym h))
known_named names (c ∷ cs) h = (omega arith, h)

pub named_known : (names x : List ℕ) → 0 < length x → is_known names x ≡ among x (names_of names)
unfolding is_known
named_known names [] h = absurd (omega arith)
named_known names (c ∷ cs) h = refl

-- The three tests of a line: none of them finds a fault; or the fault is one of three.
abbrev judge : Bool → Bool → Bool → ℕ
judge a b c = not a then 16 else not b then 17 else c then 18 else 0

passes : (a b c : Bool) → judge a b c ≡ 0 → (a ≡ true) × (b ≡ true) × (c ≡ false)
passes true true false h = (refl, refl, refl)
passes true true true h = absurd (omega arith)
passes true false c h = absurd (omega arith)
passes false b c h = absurd (omega arith)

abbrev pub OneOfThree : ℕ → Type 0
OneOfThree r = (r ≡ 16) ⊎ (r ≡ 17) ⊎ (r ≡ 18)

fails : (a b c : Bool) → (judge a b c ≡ 0 → ⊥) → OneOfThree (judge a b c)
fails true true false h = absurd (h refl)
fails true true true h = inr (inr refl)
fails true false c h = inr (inl refl)
fails false b c h = inl refl

module _ (text names : List ℕ) where
  right_of : (l : Line) → fault_in text names l ≡ 0 → Right text names l
  unfolding fault_in
  right_of l h =
      let t = passes (eqb (count TAB (chars_of text l)) 1) (is_known names (name_of text l))
      (used_before text l.start (name_of text l) (lines_of text)) h in
      let k = known_named names (name_of text l) t.1 in
      record {
        one_tab = eqb-true (count TAB (chars_of text l)) 1 t.0;
        named = k.0;
        known = among_in (name_of text l) (names_of names) k.1;
        fresh = used_none text l.start (name_of text l) (lines_of text) t.2;
      }

  none_of : (l : Line) → Right text names l → fault_in text names l ≡ 0
  unfolding fault_in
  none_of l r =
      let x = name_of text l in
      simp (
        eq-eqb (count TAB (chars_of text l)) 1 r.one_tab,
        named_known names x r.named ∙ in_among x (names_of names) r.known,
        none_used text l.start x (lines_of text) r.fresh,
      )

  three_of : (l : Line) → (fault_of text names l ≡ 0 → ⊥) → OneOfThree (fault_of text names l)
  unfolding fault_of fault_in
  three_of l = go (ltb l.start l.stop)
    where
      go : (b : Bool) → ((b then fault_in text names l else 0) ≡ 0 → ⊥) → OneOfThree (b then fault_in text names l else 0)
      go true h = fails (eqb (count TAB (chars_of text l)) 1) (is_known names (name_of text l))
          (used_before text l.start (name_of text l) (lines_of text)) h
      go false h = absurd (h refl)

  -- no fault in a list of lines is no fault in any of them
  first_none : (ms : List Line) → (first_fault text names ms).refusal ≡ 0 → (l : Line) → Memᴰ l ms → fault_of text names l ≡ 0
  unfolding first_fault
  first_none [] h l i = absurd (Memᴰ.not-nil i)
  first_none (m ∷ ms) h l i = ⊎_elim (λ p. ap (fault_of text names) p ∙ here f refl h) (λ j. first_none ms (rest f refl h) l j)
      (Memᴰ.cases_cons i)
    where
      f : Bool
      f = eqb (fault_of text names m) 0

      here : (b : Bool) → eqb (fault_of text names m) 0 ≡ b →
          (b then first_fault text names ms else fault (fault_of text names m) m.number).refusal ≡ 0 → fault_of text names m ≡ 0
      here true e h = eqb-true (fault_of text names m) 0 e
      here false e h = h

      rest : (b : Bool) → eqb (fault_of text names m) 0 ≡ b →
          (b then first_fault text names ms else fault (fault_of text names m) m.number).refusal ≡ 0 →
          (first_fault text names ms).refusal ≡ 0
      rest true e h = h
      rest false e h = absurd (eqb-false (fault_of text names m) 0 e h)

  none_first : (ms : List Line) → ((l : Line) → Memᴰ l ms → fault_of text names l ≡ 0) → (first_fault text names ms).refusal ≡ 0
  unfolding first_fault
  none_first [] f = refl
  none_first (m ∷ ms) f =
      simp (eq-eqb (fault_of text names m) 0 (f m (Memᴰ.head refl))) (none_first ms (λ l i. f l (Memᴰ.tail i)))

  pub faultless : (fault_of_list text names).refusal ≡ 0 → Faultless text names
  unfolding fault_of
  faultless h l i g = right_of l (simp (lt-ltb l.start l.stop g) at (first_none (lines_of text) h l i))

  pub no_fault : Faultless text names → (fault_of_list text names).refusal ≡ 0
  unfolding fault_of
  no_fault f = none_first (lines_of text) (λ l i. go l i (ltb l.start l.stop) refl)
    where
      go : (l : Line) → Memᴰ l (lines_of text) → (b : Bool) → ltb l.start l.stop ≡ b → (b then fault_in text names l else 0) ≡ 0
      go l i true e = none_of l (f l i (ltb-true l.start l.stop e))
      go l i false e = refl

  -- The first line at fault among lines in their order.
  pub record First (ms : List Line) (f : Fault) : Type 0 where
    pub line : Line
    pub there : Memᴰ line ms
    pub number : line.number ≡ f.line
    pub fault : fault_of text names line ≡ f.refusal
    pub none_before : (m : Line) → Memᴰ m ms → m.start < line.start → fault_of text names m ≡ 0

  behind : (n s : ℕ) (ms : List Line) → Rising n s ms → (m : Line) → Memᴰ m ms → s ≤ m.start
  unfolding Rising
  behind n s [] r m i = absurd (Memᴰ.not-nil i)
  behind n s (l ∷ ls) r m i =
      ⊎_elim (λ e. omega (arith, r.1, ap (λ (o : Line). o.start) e))
      (λ j. omega (arith, r.1, r.2, behind (n + 1) (l.stop + 1) ls r.3 m j))
      (Memᴰ.cases_cons i)

  first_of : (n s : ℕ) (ms : List Line) → Rising n s ms → ((first_fault text names ms).refusal ≡ 0 → ⊥) → First ms (first_fault text names ms)
  unfolding first_fault Rising
  first_of n s [] r h = absurd (h refl)
  first_of n s (l ∷ ls) r h = go (eqb (fault_of text names l) 0) refl (first_of (n + 1) (l.stop + 1) ls r.3) h
    where
      found : (b : Bool) → Fault
      found b = b then first_fault text names ls else fault (fault_of text names l) l.number

      go : (b : Bool) → eqb (fault_of text names l) 0 ≡ b →
          (((first_fault text names ls).refusal ≡ 0 → ⊥) → First ls (first_fault text names ls)) →
          ((found b).refusal ≡ 0 → ⊥) → First (l ∷ ls) (found b)
      go true e rest h =
          let f = rest h in
          record {
            line = f.line;
            there = Memᴰ.tail f.there;
            number = f.number;
            fault = f.fault;
            none_before = λ m i o. ⊎_elim (λ p. ap (fault_of text names) p ∙ eqb-true (fault_of text names l) 0 e)
                (λ j. f.none_before m j o) (Memᴰ.cases_cons i);
          }
      go false e rest h = record {
        line = l;
        there = Memᴰ.head refl;
        number = refl;
        fault = refl;
        none_before = λ m i o. ⊎_elim (λ p. absurd (omega (arith, o, ap (λ (k : Line). k.start) p)))
            (λ j. absurd (omega (arith, o, r.2, behind (n + 1) (l.stop + 1) ls r.3 m j))) (Memᴰ.cases_cons i);
      }

  pub first_fault_lem : ((fault_of_list text names).refusal ≡ 0 → ⊥) → First (lines_of text) (fault_of_list text names)
  first_fault_lem = first_of 1 0 (lines_of text) (rising text)

  pub one_of_three : ((fault_of_list text names).refusal ≡ 0 → ⊥) → OneOfThree (fault_of_list text names).refusal
  one_of_three h =
      let f = first_fault_lem h in
      rw f.fault at (three_of f.line (λ z. h (sym f.fault ∙ z)))
