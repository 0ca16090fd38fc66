-- UTF-16, leaf by leaf. Assumes nothing.
use mathlib.Core.Path.{◌≡◌, ◌∙◌}
use mathlib.Core.Bool.{Bool, true, false}
use mathlib.Core.List.{List, ◌∷◌}
use Prim.Native.Nat.{ℕ, zero, suc, ◌+◌, ◌-◌, ◌*◌, ◌≤◌, ◌<◌}
use native.Mathlib.Omega.{arith}
use lib.ListN.{take}
use Rattle.standard.specs.Sequence.{more, scalar, bad}
use Rattle.standard.specs.Sequences.Utf16.{utf16, utf16_unit, utf16_pair, unit}
use Rattle.standard.proofs.Tests.{under, above, in_range}
use Rattle.sequences.proofs.Leaves.{one_more, no_more}

-- a code unit
pub unit_be : (be : Bool) (b c : ℕ) → be ≡ true → unit be b c ≡ b * 256 + c
unfolding unit
unit_be be b c h = rw h

pub unit_le : (be : Bool) (b c : ℕ) → be ≡ false → unit be b c ≡ c * 256 + b
unfolding unit
unit_le be b c h = rw h

-- a unit after a leading surrogate
module _ (lead u : ℕ) where
  pub pair_under : u < 0xDC00 → utf16_pair lead u ≡ bad 2
  pair_under h = rw (under 0xDC00 u 0xDFFF h)

  pub pair_above : 0xDFFF < u → utf16_pair lead u ≡ bad 2
  pair_above h = rw (above 0xDC00 u 0xDFFF h)

  pub pair_trail : 0xDC00 ≤ u → u ≤ 0xDFFF → utf16_pair lead u ≡ scalar 4 (0x10000 + (lead - 0xD800) * 1024 + (u - 0xDC00))
  pair_trail h g = rw (in_range 0xDC00 u 0xDFFF h g)

-- a leading surrogate and no whole unit
lead_short : (be : Bool) (u n d e : ℕ) (xs : List ℕ) → 0xD800 ≤ u → u ≤ 0xDBFF → n < 2 → utf16_unit be u (take n (d ∷ e ∷ xs)) ≡ more
lead_short be u zero d e xs h g k = rw (under 0xDC00 u 0xDFFF (omega arith), in_range 0xD800 u 0xDBFF h g)
lead_short be u (suc zero) d e xs h g k = rw (under 0xDC00 u 0xDFFF (omega arith), in_range 0xD800 u 0xDBFF h g)
lead_short be u (suc (suc n)) d e xs h g k = absurd (omega arith)

-- a unit, by its range
module _ (be : Bool) (n b c d e : ℕ) (xs : List ℕ) where
  pub utf_16_short : n < 2 → utf16 be (b ∷ take (n - 1) (c ∷ d ∷ e ∷ xs)) ≡ more
  unfolding utf16
  utf_16_short h = rw (no_more (n - 1) (c ∷ d ∷ e ∷ xs) (omega arith))

  module _ (u : ℕ) (i : u ≡ unit be b c) (h : 2 ≤ n) where
    utf_unit : utf16 be (b ∷ take (n - 1) (c ∷ d ∷ e ∷ xs)) ≡ utf16_unit be u (take (n - 2) (d ∷ e ∷ xs))
    unfolding utf16
    utf_unit = let z : n - 2 ≡ n - 1 - 1 = omega arith in rw (one_more (n - 1) c (d ∷ e ∷ xs) (omega arith), z, i)

    pub utf_16_low : u < 0xD800 → utf16 be (b ∷ take (n - 1) (c ∷ d ∷ e ∷ xs)) ≡ scalar 2 u
    utf_16_low g = utf_unit ∙ rw (under 0xDC00 u 0xDFFF (omega arith), under 0xD800 u 0xDBFF g)

    pub utf_16_high : 0xDFFF < u → utf16 be (b ∷ take (n - 1) (c ∷ d ∷ e ∷ xs)) ≡ scalar 2 u
    utf_16_high g = utf_unit ∙ rw (above 0xDC00 u 0xDFFF g, above 0xD800 u 0xDBFF (omega arith))

    pub utf_16_trail : 0xDBFF < u → u ≤ 0xDFFF → utf16 be (b ∷ take (n - 1) (c ∷ d ∷ e ∷ xs)) ≡ bad 2
    utf_16_trail g k = utf_unit ∙ rw (in_range 0xDC00 u 0xDFFF g k)

    module _ (g : 0xD800 ≤ u) (k : u ≤ 0xDBFF) where
      pub utf_16_wait : n < 4 → utf16 be (b ∷ take (n - 1) (c ∷ d ∷ e ∷ xs)) ≡ more
      utf_16_wait w = utf_unit ∙ lead_short be u (n - 2) d e xs g k (omega arith)

      pub utf_16_pair : 4 ≤ n → utf16 be (b ∷ take (n - 1) (c ∷ d ∷ e ∷ xs)) ≡ utf16_pair u (unit be d e)
      utf_16_pair w = utf_unit ∙ rw (under 0xDC00 u 0xDFFF (omega arith), in_range 0xD800 u 0xDBFF g k, one_more (n - 2) d (e ∷ xs) (omega arith), one_more (n - 2 - 1) e xs (omega arith))
