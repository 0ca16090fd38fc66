-- The pointer of gb18030's four bytes, by their ranges, and the pointers that no range has. Assumes nothing.
use mathlib.Core.Path.{◌≡◌, sym, subst, ◌∙◌}
use mathlib.Core.Bool.{Bool, true, false, ◌&&◌, ◌||◌, and-false}
use Prim.Native.Nat.{ℕ, ◌≤◌}
use native.Mathlib.Omega.{arith}
use lib.Dec.{T, ltb}
use borrow.Author.Tests.{ltb-false}
use Rattle.standard.specs.Base.{within}
use Rattle.standard.specs.Sequences.Gb18030.{gb18030_four_pointer}
use Rattle.standard.proofs.Tests.{split}
use Rattle.layouts.specs.Fours.{no_four, four_pointer}

module _ (b c d e : ℕ) where
  pub four_in : within 0x81 b 0xFE ≡ true → within 0x30 c 0x39 ≡ true → within 0x81 d 0xFE ≡ true → within 0x30 e 0x39 ≡ true →
      four_pointer b c d e ≡ gb18030_four_pointer b c d e
  unfolding four_pointer
  four_in h i j k = rw (h, i, j, k)

  pub first_out : within 0x81 b 0xFE ≡ false → four_pointer b c d e ≡ no_four
  unfolding four_pointer
  first_out h = rw h

  pub second_out : within 0x30 c 0x39 ≡ false → four_pointer b c d e ≡ no_four
  unfolding four_pointer
  second_out h = rw (h, and-false (within 0x81 b 0xFE))

  pub third_out : within 0x81 d 0xFE ≡ false → four_pointer b c d e ≡ no_four
  unfolding four_pointer
  third_out h = rw (h, and-false (within 0x81 b 0xFE && within 0x30 c 0x39))

  pub fourth_out : within 0x30 e 0x39 ≡ false → four_pointer b c d e ≡ no_four
  unfolding four_pointer
  fourth_out h = rw (h, and-false (within 0x81 b 0xFE && within 0x30 c 0x39 && within 0x81 d 0xFE))

  -- bytes that have a pointer are in their ranges
  pub four_ranges : four_pointer b c d e ≤ 1237575 →
      (within 0x81 b 0xFE ≡ true) × (within 0x30 c 0x39 ≡ true) × (within 0x81 d 0xFE ≡ true) × (within 0x30 e 0x39 ≡ true)
  four_ranges h =
      split (within 0x81 b 0xFE) (λ p. split (within 0x30 c 0x39) (λ q. split (within 0x81 d 0xFE) (λ r. split (within 0x30 e 0x39)
      (λ s. (p, q, r, s)) (λ f. none (fourth_out f))) (λ f. none (third_out f))) (λ f. none (second_out f))) (λ f. none (first_out f))
    where
      none : {A : Type 0} → four_pointer b c d e ≡ no_four → A
      none z = absurd (omega (arith, h, z))

-- the pointers that no range has
module _ (p : ℕ) where
  pub told : within 39420 p 188999 || ltb 1237575 p ≡ false → p ≤ 1237575
  told h = split (ltb 1237575 p)
      (λ t. absurd (not_or (within 39420 p 188999) (ltb 1237575 p) h t))
      (λ f. ltb-false 1237575 p f)
    where
      not_or : (a b : Bool) → a || b ≡ false → b ≡ true → ⊥
      not_or true b e t = subst T e tt
      not_or false b e t = subst T (sym t ∙ e) tt
