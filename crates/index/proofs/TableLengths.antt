-- The lengths of lent tables, by the tests of an encoding number. Assumes nothing.
use mathlib.Core.Path.{◌≡◌, refl}
use mathlib.Core.Bool.{◌&&◌}
use Prim.Native.Nat.{ℕ, ◌≤◌, ◌<◌, ◌%◌}
use native.Mathlib.Omega.{arith}
use lib.Dec.{eqb, leb}
use borrow.Author.Tests.{eqb-true, eqb-false}
use Rattle.standard.specs.Encodings.{family, traits, second_fits}
use Rattle.standard.proofs.Families.{by_family, family_single_byte, family_gb18030}
use Rattle.standard.proofs.Tests.{split}

module _ (e : ℕ) where
  -- the cells of the first table
  pub first_utf8 : e ≡ 0 → 0 ≡ (traits (family e)).first
  unfolding family traits
  first_utf8 h = rw h

  pub first_windows_1252 : e ≡ 21 → 0 ≡ (traits (family e)).first
  unfolding family traits
  first_windows_1252 h = rw h

  pub first_single : (e ≡ 0 → ⊥) → (e ≡ 21 → ⊥) → e ≤ 28 → 128 ≡ (traits (family e)).first
  unfolding traits
  first_single f g h = rw (family_single_byte e f g h)

  pub first_gb18030 : 28 < e → e ≤ 30 → 23940 ≡ (traits (family e)).first
  unfolding traits
  first_gb18030 h g = rw (family_gb18030 e h g)

  pub first_big5 : e ≡ 31 → 19782 ≡ (traits (family e)).first
  unfolding family traits
  first_big5 h = rw h

  pub first_euc_kr : e ≡ 35 → 23940 ≡ (traits (family e)).first
  unfolding family traits
  first_euc_kr h = rw h

  pub first_jis0208 : 31 < e → e ≤ 34 → 11280 ≡ (traits (family e)).first
  unfolding family traits
  first_jis0208 h g = split (eqb e 32)
      (λ a. rw (eqb-true e 32 a))
      (λ a. split (eqb e 33)
      (λ b. rw (eqb-true e 33 b))
      (λ b. let q : e ≡ 34 = omega (arith, eqb-false e 32 a, eqb-false e 33 b) in rw q))

  pub first_none : 35 < e → 0 ≡ (traits (family e)).first
  unfolding traits
  first_none h = by_family (λ f. 0 ≡ (traits f).first) e (record {
    c0 = λ q. absurd (omega arith);
    c21 = λ q. absurd (omega arith);
    c1_28 = λ l k n. absurd (omega arith);
    c29_30 = λ l k. absurd (omega arith);
    c31 = λ q. absurd (omega arith);
    c32 = λ q. absurd (omega arith);
    c33 = λ q. absurd (omega arith);
    c34 = λ q. absurd (omega arith);
    c35 = λ q. absurd (omega arith);
    c36 = λ q. refl;
    c37 = λ q. refl;
    c38 = λ q. refl;
    c39 = λ l. refl;
  })

  -- the second table
  pub second_ranges : (size : ℕ) → 28 < e → e ≤ 30 → (eqb (size % 2) 0 && leb size 414) ≡ second_fits (traits (family e)).second size
  unfolding traits
  second_ranges size h g = rw (family_gb18030 e h g)

  pub second_jis0212 : (size : ℕ) → e ≡ 32 → eqb size 8836 ≡ second_fits (traits (family e)).second size
  unfolding family traits
  second_jis0212 size h = rw h

  pub second_none : (size : ℕ) → (e ≡ 29 → ⊥) → (e ≡ 30 → ⊥) → (e ≡ 32 → ⊥) → eqb size 0 ≡ second_fits (traits (family e)).second size
  unfolding traits
  second_none size f g h = by_family (λ f. eqb size 0 ≡ second_fits (traits f).second size) e (record {
    c0 = λ q. refl;
    c21 = λ q. refl;
    c1_28 = λ l k n. refl;
    c29_30 = λ l k. absurd (omega arith);
    c31 = λ q. refl;
    c32 = λ q. absurd (h q);
    c33 = λ q. refl;
    c34 = λ q. refl;
    c35 = λ q. refl;
    c36 = λ q. refl;
    c37 = λ q. refl;
    c38 = λ q. refl;
    c39 = λ l. refl;
  })

-- What `first_cells` and `second_fits` need, arm by arm.
pub ruleset first_lengths = (first_utf8, first_windows_1252, first_single, first_gb18030, first_big5, first_jis0208, first_euc_kr, first_none)

pub ruleset second_lengths = (second_ranges, second_jis0212, second_none)
