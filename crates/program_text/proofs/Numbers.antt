-- The digits of numbers, and how many there are. Assumes nothing.
use mathlib.Core.Path.{◌≡◌, refl}
use mathlib.Core.Logic.{◌⊎◌}
use mathlib.Core.List.{[], ◌∷◌, ◌++◌}
use Prim.Native.Nat.{ℕ, zero, suc, ◌-◌, ◌/◌, ◌%◌, ◌≤◌, ◌<◌}
use native.Mathlib.Omega.{arith}
use lib.Dec.{eqb}
use lib.ListN.{length, length-append}
use borrow.Author.Tests.{eq-eqb, ne_eqb}
use Rattle.standard.proofs.Tests.{split}
use Rattle.program_text.specs.Lines.{digit, digits, count}

less_one : (m : ℕ) → suc m - 1 ≡ m
less_one m = omega arith

module _ (b : ℕ) where
  -- No digit may be written, or none is owed and the number has none.
  pub no_digit : (most least n : ℕ) → (most ≡ 0) ⊎ ((least ≡ 0) × (n ≡ 0)) → digits b most least n ≡ []
  unfolding digits
  no_digit zero least n h = refl
  no_digit (suc most) zero n h = let e : n ≡ 0 = omega arith in rw (eq-eqb n 0 e)
  no_digit (suc most) (suc least) n h = absurd (omega arith)

  -- The last digit stands behind the others: one is owed, or the number has one.
  pub last : (most least n : ℕ) → 0 < most → (least ≡ 0 → n ≡ 0 → ⊥) →
      digits b most least n ≡ digits b (most - 1) (least - 1) (n / b) ++ (digit (n % b) ∷ [])
  unfolding digits
  last zero least n p h = absurd (omega arith)
  last (suc most) zero n p h = rw (ne_eqb n 0 (h refl), less_one most)
  last (suc most) (suc least) n p h = rw (less_one most, less_one least)

  few : (k fuel n : ℕ) → k ≤ fuel → length (digits b fuel k n) ≤ fuel
  unfolding digits
  few k zero n h = omega arith
  few zero (suc fuel) n h = split (eqb n 0) (λ e. rw e (omega arith))
      (λ e. rw (e, length-append) (omega (arith, few zero fuel (n / b) (omega arith))))
  few (suc k) (suc fuel) n h = rw length-append (omega (arith, few k fuel (n / b) (omega arith)))

pub count_few : (n : ℕ) → length (count n) ≤ 20
count_few n = few 10 1 20 n (omega arith)

pub hexadecimal_few : (c : ℕ) → length (digits 16 8 4 c) ≤ 8
hexadecimal_few c = few 16 4 8 c (omega arith)
