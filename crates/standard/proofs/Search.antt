-- The law of the search, over any table, passed-over stretch, side and code point: one induction. Assumes nothing.
use mathlib.Core.Path.{◌≡◌, refl, ap}
use mathlib.Core.Bool.{Bool, true, false, ◌&&◌, not}
use mathlib.Core.List.{List, [], ◌∷◌}
use mathlib.Core.Option.{Option, some, none}
use Prim.Native.Nat.{ℕ, zero, suc, ◌+◌, ◌≤◌, ◌<◌}
use native.Mathlib.Omega.{arith}
use lib.Dec.{eqb}
use lib.ListN.{length, get_or}
use borrow.Author.Tests.{eqb-true, eq-eqb, not-true}
use Rattle.standard.specs.Base.{◌then◌else◌, mapped}
use Rattle.standard.specs.Indexes.{index_code_point}
use Rattle.standard.specs.Search.{PassedOver, passed, Side, first, last, either, search_from, search, searching}
use Rattle.standard.specs.Search.{Counts, Sound, Nearer, SearchRule}
use Rattle.standard.proofs.Tests.{and_both}

-- A cell that is hit at a pointer.
abbrev hit : PassedOver → ℕ → ℕ → ℕ → Bool
hit over c p x = not (passed over p) && (mapped x && eqb x c)

-- The pointer p, counted from n, is hit.
record Hit (over : PassedOver) (c n : ℕ) (index : List ℕ) (p : ℕ) : Type 0 where
  k : ℕ
  place : p ≡ n + k
  inside : k < length index
  hits : hit over c p (get_or index k 0) ≡ true

module _ {over : PassedOver} {c n x : ℕ} {index : List ℕ} where
  now : hit over c n x ≡ true → Hit over c n (x ∷ index) n
  now h = record { k = 0; place = omega arith; inside = omega arith; hits = h }

  later : {p : ℕ} → Hit over c (suc n) index p → Hit over c n (x ∷ index) p
  later h = record { k = suc h.k; place = omega (arith, h.place); inside = omega (arith, h.inside); hits = h.hits }

  -- a pointer that is hit is the one in front, or is hit behind it
  apart : {A : Type 0} {p : ℕ} → Hit over c n (x ∷ index) p → (p ≡ n → hit over c n x ≡ true → A) → (Hit over c (suc n) index p → A) → A
  apart {A} {p} h f g = go h.k h.place h.inside h.hits
    where
      go : (k : ℕ) → p ≡ n + k → k < suc (length index) → hit over c p (get_or (x ∷ index) k 0) ≡ true → A
      go zero e i t = let q : p ≡ n = omega arith in f q (rw q at t)
      go (suc k) e i t = g (record { k = k; place = omega arith; inside = omega arith; hits = t })

at_least : {over : PassedOver} {c n : ℕ} {index : List ℕ} {p : ℕ} → Hit over c n index p → n ≤ p
at_least h = omega (arith, h.place)

-- What a search from n must answer.
abbrev Answers : Side → PassedOver → ℕ → ℕ → List ℕ → Option ℕ → Type 0
Answers side over c n index (some p) = Hit over c n index p × ((q : ℕ) → Hit over c n index q → Nearer side p q)
Answers side over c n index none = (q : ℕ) → Hit over c n index q → ⊥

clash : {A : Type 0} {b : Bool} → b ≡ true → b ≡ false → A
clash p q = let z : ◌≡◌ {A = ℕ} 0 1 = cc in absurd (omega arith)

module _ (over : PassedOver) (c n x : ℕ) (index : List ℕ) where
  step : (side : Side) (b : Bool) → hit over c n x ≡ b → (o : Option ℕ) → Answers side over c (suc n) index o →
      Answers side over c n (x ∷ index) (either side (b then some n else none) o)
  step first true e o a = (now e, λ q h. at_least h)
  step first false e none a = λ q h. apart h (λ _ t. clash t e) (a q)
  step first false e (some p) a = (later a.0, λ q h. apart h (λ _ t. clash t e) (a.1 q))
  step last b e (some p) a = (later a.0, λ q h. apart h (λ z t. let l : suc n ≤ p = at_least a.0 in omega arith) (a.1 q))
  step last true e none a = (now e, λ q h. apart h (λ z t. omega arith) (λ g. absurd (a q g)))
  step last false e none a = λ q h. apart h (λ _ t. clash t e) (a q)

answers : (side : Side) (over : PassedOver) (c n : ℕ) (index : List ℕ) → Answers side over c n index (search_from side over n index c)
unfolding search_from
answers side over c n [] = λ q h. omega (arith, h.inside)
answers side over c n (x ∷ index) =
    step over c n x index side (hit over c n x) refl (search_from side over (suc n) index c) (answers side over c (suc n) index)

code_hit : (x c : ℕ) → ◌≡◌ {A = Option ℕ} (mapped x then some x else none) (some c) → mapped x && eqb x c ≡ true
code_hit x c h = go (mapped x) h
  where
    go : (t : Bool) → ◌≡◌ {A = Option ℕ} (t then some x else none) (some c) → t && eqb x c ≡ true
    go true e = eq-eqb x c (cc)
    go false e = let z : ◌≡◌ {A = ℕ} 0 1 = cc in absurd (omega arith)

-- Hits are the pointers that count.
module _ {over : PassedOver} {index : List ℕ} {c p : ℕ} where
  counts : Hit over c 0 index p → Counts over index c p
  unfolding index_code_point
  counts h =
      let x = get_or index p 0 in
      let q : h.k ≡ p = omega (arith, h.place) in
      let t : hit over c p x ≡ true = rw q at h.hits in
      let u = and_both (not (passed over p)) (mapped x && eqb x c) t in
      let v = and_both (mapped x) (eqb x c) u.1 in
      record {
        inside = omega (arith, h.inside);
        searched = not-true (passed over p) u.0;
        code = rw v.0 (ap some (eqb-true x c v.1));
      }

  counted : Counts over index c p → Hit over c 0 index p
  unfolding index_code_point
  counted h = record { k = p; place = omega arith; inside = h.inside; hits = rw (h.searched, code_hit (get_or index p 0) c h.code) }

pub search_rule : (side : Side) (over : PassedOver) (index : List ℕ) (c : ℕ) → SearchRule side over index c
search_rule side over index c = record {
  found = λ p h. counts (some_answer p h).0;
  nearest = λ p q h g. (some_answer p h).1 q (counted g);
  missing = λ h q g. let a : Answers side over c 0 index none = rw h at (answers side over c 0 index) in a q (counted g);
}
  where
    some_answer : (p : ℕ) → search side over index c ≡ some p → Answers side over c 0 index (some p)
    some_answer p h = rw h at (answers side over c 0 index)

pub plain_sound : (index : List ℕ) → Sound (searching index) index
plain_sound index = record { sound = λ side over c. (search_rule side over index c).found }
