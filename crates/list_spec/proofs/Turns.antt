-- The lines of a text one by one: the line that begins at a place, and the lines behind it. Assumes nothing.
use mathlib.Core.Path.{◌≡◌, refl, sym, ap, ◌∙◌}
use mathlib.Core.Bool.{Bool, true, false}
use mathlib.Core.List.{List, [], ◌∷◌}
use Prim.Native.Nat.{ℕ, zero, suc, ◌+◌, ◌-◌, ◌≤◌, ◌<◌}
use native.Mathlib.Omega.{arith}
use lib.Dec.{eqb}
use lib.ListN.{length, drop, get_or, length-drop, drop_of_length-le}
use lib.Seq.{get_or-drop, drop-drop}
use borrow.Author.Tests.{eq-eqb, ne_eqb, lt-ltb, le-ltb, eqb-true, eqb-false}
use Rattle.standard.specs.Base.{◌then◌else◌}
use Rattle.list_spec.specs.Lines.{LF, CR, before, Line, line, lines_from}
use Rattle.list_spec.specs.Spans.{end_at, stop_at}
use Rattle.list_spec.proofs.Parts.{slice_all, before_le}

-- Is the character in front of the place k a carriage return? cr says so of the one in front of the list.
cr_at : Bool → List ℕ → ℕ → Bool
cr_at cr l zero = cr
cr_at cr [] (suc k) = cr
cr_at cr (c ∷ cs) (suc k) = cr_at (eqb c CR) cs k

cr_at_get_d : (cr : Bool) (l : List ℕ) (k : ℕ) → k < length l → cr_at cr l (suc k) ≡ eqb (get_or l k 0) CR
unfolding cr_at
cr_at_get_d cr [] k h = absurd (omega arith)
cr_at_get_d cr (c ∷ cs) zero h = refl
cr_at_get_d cr (c ∷ cs) (suc k) h = cr_at_get_d (eqb c CR) cs k (omega arith)

module _ (n s : ℕ) where
  -- the line n from s on, closed k characters behind p, and the lines behind it
  abbrev cut : Bool → List ℕ → ℕ → ℕ → List Line
  cut cr l p k =
      line n s (cr_at cr l k then (p + k) - 1 else p + k) ∷ lines_from (n + 1) (p + k + 1) (p + k + 1) false (drop (suc k) l)

  lines_cut : (l : List ℕ) (p : ℕ) (cr : Bool) → before LF l < length l → lines_from n s p cr l ≡ cut cr l p (before LF l)
  unfolding lines_from before cr_at
  lines_cut [] p cr h = absurd (omega arith)
  lines_cut (c ∷ cs) p cr h = go (eqb c LF) (lines_cut cs (p + 1) (eqb c CR)) h
    where
      go : (b : Bool) → (before LF cs < length cs → lines_from n s (p + 1) (eqb c CR) cs ≡ cut (eqb c CR) cs (p + 1) (before LF cs)) →
          (b then 0 else suc (before LF cs)) < suc (length cs) →
          (b then line n s (cr then p - 1 else p) ∷ lines_from (n + 1) (p + 1) (p + 1) false cs else lines_from n s (p + 1) (eqb c CR) cs) ≡
          cut cr (c ∷ cs) p (b then 0 else suc (before LF cs))
      go true r h =
          let z : p ≡ p + 0 = omega arith in
          ap (λ (i : ℕ). line n s (cr then i - 1 else i) ∷ lines_from (n + 1) (i + 1) (i + 1) false cs) z
      go false r h =
          let k = before LF cs in
          let z : p + 1 + k ≡ p + suc k = omega arith in
          r (omega arith) ∙
          ap (λ (i : ℕ). line n s (cr_at (eqb c CR) cs k then i - 1 else i) ∷ lines_from (n + 1) (i + 1) (i + 1) false (drop (suc k) cs)) z

  -- a last line without its line feed
  lines_open : (l : List ℕ) (p : ℕ) (cr : Bool) → s ≤ p → s < p + length l → before LF l ≡ length l →
      lines_from n s p cr l ≡ line n s (p + length l) ∷ []
  unfolding lines_from before
  lines_open [] p cr g i h =
      let z : p ≡ p + 0 = omega arith in simp (lt-ltb s p (omega arith)) (ap (λ (e : ℕ). line n s e ∷ []) z)
  lines_open (c ∷ cs) p cr g i h = go (eqb c LF) (lines_open cs (p + 1) (eqb c CR)) h
    where
      go : (b : Bool) → (s ≤ p + 1 → s < p + 1 + length cs → before LF cs ≡ length cs →
          lines_from n s (p + 1) (eqb c CR) cs ≡ line n s (p + 1 + length cs) ∷ []) →
          (b then 0 else suc (before LF cs)) ≡ suc (length cs) →
          (b then line n s (cr then p - 1 else p) ∷ lines_from (n + 1) (p + 1) (p + 1) false cs else lines_from n s (p + 1) (eqb c CR) cs) ≡
          line n s (p + suc (length cs)) ∷ []
      go true r h = absurd (omega arith)
      go false r h =
          let z : p + 1 + length cs ≡ p + suc (length cs) = omega arith in
          r (omega arith) (omega arith) (omega arith) ∙ ap (λ (e : ℕ). line n s e ∷ []) z

-- The lines that begin at a place: a text's are those from 0 on, numbered from 1.
abbrev pub lines_at : List ℕ → ℕ → ℕ → List Line
lines_at text n a = lines_from n a a false (drop a text)

-- none are left at the end
pub lines_end : (text : List ℕ) (n a : ℕ) → length text ≤ a → lines_at text n a ≡ []
unfolding lines_from
lines_end text n a h = rw (drop_of_length-le text h) (simp (le-ltb a a (omega arith)))

-- the line at the place a, whose line feed or end is at q, and the lines behind it
module _ (text : List ℕ) (a q : ℕ) (h : a < length text) (e : q ≡ end_at text a) where
  pub at_end : q ≡ a + before LF (drop a text)
  unfolding end_at
  at_end = e ∙ ap (λ (l : List ℕ). a + before LF l) (slice_all a text)

  pub inside : length (drop a text) ≡ length text - a
  inside = length-drop a text

  pub end_low : a ≤ q
  end_low = omega (arith, at_end)

  pub end_high : q ≤ length text
  end_high = omega (arith, at_end, inside, before_le LF (drop a text))

  -- the carriage return is the one that `stop_at` looks at
  dropped : (q ≡ length text → ⊥) → (cr_at false (drop a text) (before LF (drop a text)) then q - 1 else q) ≡ stop_at text a q
  unfolding cr_at stop_at
  dropped n = go (before LF (drop a text)) at_end (before_le LF (drop a text))
    where
      go : (j : ℕ) → q ≡ a + j → j ≤ length (drop a text) → (cr_at false (drop a text) j then q - 1 else q) ≡ stop_at text a q
      go zero z g = simp (ne_eqb q (length text) n, eq-eqb q a (omega arith))
      go (suc j) z g =
          let w : q - 1 ≡ a + j = omega arith in
          let v : get_or (drop a text) j 0 ≡ get_or text (q - 1) 0 = get_or-drop a text j 0 ∙ ap (λ (i : ℕ). get_or text i 0) (sym w) in
          simp (ne_eqb q (length text) n, ne_eqb q a (omega arith), cr_at_get_d false (drop a text) j (omega (arith, inside)), v)

  pub turn : (n z : ℕ) → z ≡ stop_at text a q → lines_at text n a ≡ line n a z ∷ lines_at text (n + 1) (q + 1)
  unfolding stop_at
  turn n z g = go (eqb q (length text)) refl
    where
      go : (b : Bool) → eqb q (length text) ≡ b → lines_at text n a ≡ line n a z ∷ lines_at text (n + 1) (q + 1)
      go true b =
          let q-end : q ≡ length text = eqb-true q (length text) b in
          let stop : stop_at text a q ≡ q = simp b in
          let w : a + length (drop a text) ≡ z = omega (arith, inside, g, stop) in
          lines_open n a (drop a text) a false (omega arith) (omega (arith, inside)) (omega (arith, inside, at_end)) ∙
          rw (w, lines_end text (n + 1) (q + 1) (omega arith))
      go false b =
          let k = before LF (drop a text) in
          let open-end : q ≡ length text → ⊥ = eqb-false q (length text) b in
          let to-q : a + k ≡ q = sym at_end in
          let w : a + suc k ≡ q + 1 = omega (arith, at_end) in
          lines_cut n a (drop a text) a false (omega (arith, inside, at_end, before_le LF (drop a text), open-end)) ∙
          rw (to-q, drop-drop (suc k) a text, w, dropped open-end, sym g)
