-- Searching and comparing characters. Assumes nothing.
use Rattle.std.proofs.Common.{◌≡◌, refl, sym, ℕ, suc, ◌+◌, ◌<◌, Bool, true, false, cond, ◌&&◌, List, [], ◌∷◌, length, Option, Some, None, MatchOption, arith}
use Rattle.std.proofs.lemmas.List.Recursion.{is_position_or_len}
use Rattle.std.specs.List.{position, position_or_len}
use Rattle.std.specs.Cmp.Lexicographic.{pointwise}
use lib.Dec.{eqb, ltb}
use borrow.Author.Tests.{ltb-true, ltb-false}
use Rattle.standard.specs.Base.{◌then◌else◌}
use Rattle.list_spec.specs.Lines.{before, same}
use Rattle.list_spec.proofs.Parts.{before_le}

-- what is in front of x
before_position : (x : ℕ) (s : List ℕ) → before x s ≡ position_or_len (λ c. eqb c x) s
unfolding before
before_position x s = is_position_or_len (before x) (λ c. eqb c x) refl (λ c cs. step (eqb c x) (before x cs)) s
  where
    step : (b : Bool) (n : ℕ) → (b then 0 else suc n) ≡ cond b 0 (1 + n)
    step true n = refl
    step false n = omega arith

pub found : (x : ℕ) (s : List ℕ) (r : Option ℕ) → r ≡ position (λ c. eqb c x) s →
    MatchOption r (before x s ≡ length s) (λ i. (i ≡ before x s) × (i < length s))
found x s r e = rw (e, sym (before_position x s)) (go (ltb (before x s) (length s)) refl)
  where
    go : (b : Bool) → ltb (before x s) (length s) ≡ b →
        MatchOption (cond b (Some (before x s)) None) (before x s ≡ length s) (λ i. (i ≡ before x s) × (i < length s))
    go true h = (refl, ltb-true (before x s) (length s) h)
    go false h = omega (arith, before_le x s, ltb-false (before x s) (length s) h)

-- the same characters
pub same_is : (xs ys : List ℕ) → pointwise eqb xs ys ≡ same xs ys
unfolding same
same_is [] [] = refl
same_is [] (y ∷ ys) = refl
same_is (x ∷ xs) [] = refl
same_is (x ∷ xs) (y ∷ ys) = go (eqb x y) (same_is xs ys)
  where
    go : (b : Bool) → pointwise eqb xs ys ≡ same xs ys → (b && pointwise eqb xs ys) ≡ (b then same xs ys else false)
    go true h = h
    go false h = refl
