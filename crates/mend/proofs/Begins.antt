-- What an encoding is refused with, and the cells of its table. Assumes nothing.
use mathlib.Core.Path.{◌≡◌, refl}
use Prim.Native.Nat.{ℕ, ◌≤◌, ◌<◌}
use native.Mathlib.Omega.{arith}
use borrow.Author.Tests.{ne_eqb, le-leb, lt-leb}
use Rattle.standard.specs.Encodings.{family, traits}
use Rattle.standard.proofs.Families.{by_family}
use Rattle.mend_spec.specs.Mended.{encoding_refusal, cells_of}

module _ (e : ℕ) where
  pub nine : e ≡ 36 → encoding_refusal e ≡ 9
  unfolding encoding_refusal
  nine h = rw h

  pub thirty_five : e ≡ 35 → encoding_refusal e ≡ 4
  unfolding encoding_refusal
  thirty_five h = rw h

  pub low : e ≤ 28 → encoding_refusal e ≡ 0
  unfolding encoding_refusal
  low h = let l : e < 29 = omega arith in rw (ne_eqb e 36 (λ z. omega arith), lt-leb 29 e l, ne_eqb e 35 (λ z. omega arith))

  pub middle : 29 ≤ e → e ≤ 32 → encoding_refusal e ≡ 4
  unfolding encoding_refusal
  middle h k = rw (ne_eqb e 36 (λ z. omega arith), le-leb 29 e h, le-leb e 32 k)

  pub high : (e ≡ 36 → ⊥) → (e ≡ 35 → ⊥) → 32 < e → encoding_refusal e ≡ 0
  unfolding encoding_refusal
  high n m h = rw (ne_eqb e 36 n, lt-leb e 32 h, le-leb 29 e (omega arith), ne_eqb e 35 m)

  -- the cells
  pub cells_above : 36 < e → 0 ≡ cells_of e
  unfolding traits
  cells_above h = by_family (λ f. 0 ≡ (traits f).first) e (record {
    c0 = λ z. refl;
    c21 = λ z. refl;
    c1_28 = λ l u n. absurd (omega arith);
    c29_30 = λ l u. absurd (omega arith);
    c31 = λ z. absurd (omega arith);
    c32 = λ z. absurd (omega arith);
    c33 = λ z. absurd (omega arith);
    c34 = λ z. absurd (omega arith);
    c35 = λ z. absurd (omega arith);
    c36 = λ z. refl;
    c37 = λ z. refl;
    c38 = λ z. refl;
    c39 = λ l. refl;
  })

  pub cells_0 : e ≡ 0 → 0 ≡ cells_of e
  unfolding family traits
  cells_0 h = rw h

  pub cells_21 : e ≡ 21 → 0 ≡ cells_of e
  unfolding family traits
  cells_21 h = rw h

  pub cells_128 : (e ≡ 0 → ⊥) → (e ≡ 21 → ⊥) → e ≤ 28 → 128 ≡ cells_of e
  unfolding traits
  cells_128 h k l = by_family (λ f. 128 ≡ (traits f).first) e (record {
    c0 = λ z. absurd (h z);
    c21 = λ z. absurd (k z);
    c1_28 = λ a b n. refl;
    c29_30 = λ a b. absurd (omega arith);
    c31 = λ z. absurd (omega arith);
    c32 = λ z. absurd (omega arith);
    c33 = λ z. absurd (omega arith);
    c34 = λ z. absurd (omega arith);
    c35 = λ z. absurd (omega arith);
    c36 = λ z. absurd (omega arith);
    c37 = λ z. absurd (omega arith);
    c38 = λ z. absurd (omega arith);
    c39 = λ a. absurd (omega arith);
  })

  pub cells_33_34 : 33 ≤ e → e ≤ 34 → 11280 ≡ cells_of e
  unfolding traits
  cells_33_34 h k = by_family (λ f. 11280 ≡ (traits f).first) e (record {
    c0 = λ z. absurd (omega arith);
    c21 = λ z. absurd (omega arith);
    c1_28 = λ l u n. absurd (omega arith);
    c29_30 = λ l u. absurd (omega arith);
    c31 = λ z. absurd (omega arith);
    c32 = λ z. absurd (omega arith);
    c33 = λ z. refl;
    c34 = λ z. refl;
    c35 = λ z. absurd (omega arith);
    c36 = λ z. absurd (omega arith);
    c37 = λ z. absurd (omega arith);
    c38 = λ z. absurd (omega arith);
    c39 = λ l. absurd (omega arith);
  })
