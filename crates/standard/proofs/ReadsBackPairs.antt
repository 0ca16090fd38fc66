-- The law of one scalar for EUC-JP and Shift_JIS. Assumes nothing.
use mathlib.Core.Path.{◌≡◌, refl}
use mathlib.Core.Bool.{Bool, true, false, ◌||◌}
use mathlib.Core.List.{List, [], ◌∷◌, ◌++◌}
use Prim.Native.Nat.{ℕ, ◌+◌, ◌-◌, ◌≤◌, ◌<◌}
use native.Mathlib.Omega.{arith}
use lib.Dec.{ltb, leb, eqb, lit≤}
use lib.ListN.{length}
use borrow.Author.Tests.{ltb-true, leb-false, eqb-true, le-ltb, le-leb, lt-leb, ne_eqb}
use Rattle.standard.specs.Base.{◌then◌else◌, within}
use Rattle.standard.specs.Encodings.{Tables}
use Rattle.standard.specs.Handlers.{ascii}
use Rattle.standard.specs.Machine.{Result, tokens}
use Rattle.standard.specs.Sequence.{Next, scalar}
use Rattle.standard.specs.Layouts.{pair_code, euc_jp_layout, shift_jis_layout}
use Rattle.standard.specs.Sequences.EucJp.{euc_jp}
use Rattle.standard.specs.Sequences.ShiftJis.{shift_jis}
use Rattle.standard.specs.Search.{passed, first, Lookup, Sound}
use Rattle.standard.specs.Encoders.Pairs.{minus}
use Rattle.standard.specs.Encoders.EucJp.{jis0208_over, euc_jp_encode}
use Rattle.standard.specs.Encoders.ShiftJis.{shift_jis_over, shift_jis_encode}
use Rattle.standard.specs.Images.{jp_image}
use Rattle.standard.proofs.Tests.{split, choose, or_case, within_low, within_high, under, above, in_range, not_zero}
use Rattle.standard.proofs.Layouts.{euc_jp-regular, shift_jis-regular, shift_jis-low, shift_jis-no_kana}
use Rattle.standard.proofs.UserRows.{shift_jis-indexed}
use Rattle.standard.proofs.ReadsBack.{ReadsBack, by_bytes, no_bytes, ReadsPairs, by_lookup}

-- outside a range
outside : {A : Type 0} (l p h : ℕ) → within l p h ≡ false → (p < l → A) → (h < p → A) → A
outside l p h e f g = split (leb l p) (λ u. g (leb-false p h (rw u at e))) (λ u. f (leb-false l p u))

-- and so outside a smaller one
narrower : (l k p h : ℕ) → l ≤ k → within l p h ≡ false → within k p h ≡ false
narrower l k p h i e = outside l p h e (λ a. under k p h (omega arith)) (λ a. above k p h a)

self_image : (c : ℕ) → (c ≡ 0xA5 → ⊥) → (c ≡ 0x203E → ⊥) → (c ≡ 0x2212 → ⊥) → jp_image c ≡ c
self_image c p q r = rw (ne_eqb c 0xA5 p, ne_eqb c 0x203E q, ne_eqb c 0x2212 r)

-- The steps of both: what is written directly, U+00A5, U+203E, half-width katakana, and what a pointer gives.
by_steps : (n : List ℕ → Next) (c : ℕ) (direct : Bool) (kana : List ℕ) {r : Result} →
    ((b : ℕ) (ys : List ℕ) → ltb b 0x80 ≡ true → n (b ∷ ys) ≡ scalar 1 b) →
    (direct ≡ true → (c ≤ 0x80) × ((ys : List ℕ) → n (c ∷ ys) ≡ scalar 1 c)) →
    (within 0xFF61 c 0xFF9F ≡ true → (ys : List ℕ) → n (kana ++ ys) ≡ scalar (length kana) c) → ReadsBack n (minus c) r →
    ReadsBack n (jp_image c) (
    direct then tokens (c ∷ []) else
    eqb c 0xA5 then tokens (0x5C ∷ []) else
    eqb c 0x203E then tokens (0x7E ∷ []) else
    within 0xFF61 c 0xFF9F then tokens kana else r)
by_steps n c direct kana low self katakana pointed =
    choose (ReadsBack n (jp_image c)) direct
    (λ d.
    let small : c ≤ 0x80 = (self d).0 in
    rw (self_image c (λ z. omega arith) (λ z. omega arith) (λ z. omega arith)) (by_bytes (c ∷ []) (self d).1))
    (λ d.
    choose (ReadsBack n (jp_image c)) (eqb c 0xA5) (λ y. rw y (by_bytes (0x5C ∷ []) (λ ys. low 0x5C ys refl))) (λ y.
    choose (ReadsBack n (jp_image c)) (eqb c 0x203E) (λ o. rw (y, o) (by_bytes (0x7E ∷ []) (λ ys. low 0x7E ys refl))) (λ o.
    choose (ReadsBack n (jp_image c)) (within 0xFF61 c 0xFF9F)
    (λ k.
    let large : 0xFF61 ≤ c = within_low 0xFF61 c 0xFF9F k in
    rw (self_image c (λ z. omega arith) (λ z. omega arith) (λ z. omega arith)) (by_bytes kana (katakana k)))
    (λ k. rw (y, o) pointed))))

-- the number of a half-width katakana, and back
module _ (c : ℕ) (h : within 0xFF61 c 0xFF9F ≡ true) where
  kana_byte : within 0xA1 (c - 0xFF61 + 0xA1) 0xDF ≡ true
  kana_byte = in_range 0xA1 (c - 0xFF61 + 0xA1) 0xDF (omega arith) (omega (arith, within_high 0xFF61 c 0xFF9F h))

  kana_back : 0xFF61 - 0xA1 + (c - 0xFF61 + 0xA1) ≡ c
  kana_back = omega (arith, within_low 0xFF61 c 0xFF9F h)

-- Of at most 11,280 cells of jis0208 those that are searched stand in its 94 rows.
pub jis0208_row : (n p : ℕ) → n ≤ 11280 → p < n → passed jis0208_over p ≡ false → p < 8836
jis0208_row n p h i o = outside 8836 p 11279 o (λ a. a) (λ a. absurd (omega arith))

module _ (t : Tables) (n : length t.first ≤ 11280) {look : Lookup} (S : Sound look t.first) (c : ℕ) where
  euc_jp-pairs : ReadsPairs (euc_jp t) euc_jp_layout jis0208_over t.first
  unfolding euc_jp pair_code
  euc_jp-pairs = record {
    regular = euc_jp-regular;
    in_rows = λ p i o. jis0208_row (length t.first) p n i o;
    pairs = λ b c p ys l r e _.
        let low : 0xA1 ≤ b = within_low 0xA1 b 0xFE l in
        rw (le-ltb b 0x80 (omega arith), ne_eqb b 0x8E (λ z. omega arith), ne_eqb b 0x8F (λ z. omega arith), l, r, e);
  }

  pub euc_jp-back : ReadsBack (euc_jp t) (jp_image c) (euc_jp_encode look c)
  unfolding euc_jp_encode euc_jp
  euc_jp-back = by_steps (euc_jp t) c (ascii c) (0x8E ∷ (c - 0xFF61 + 0xA1) ∷ [])
      (λ b ys h. rw h)
      (λ h. (omega (arith, ltb-true c 0x80 h), λ ys. rw h))
      (λ h ys. rw (kana_byte c h, kana_back c h, not_zero 0xFF61 c 0xFF9F (lit≤ tt) h))
      (by_lookup euc_jp-pairs S first (minus c) (no_bytes (minus c)))

  -- the passed-over stretch covers the user rows
  shift_jis-pairs : ReadsPairs (shift_jis t) shift_jis_layout shift_jis_over t.first
  unfolding shift_jis pair_code
  shift_jis-pairs = record {
    regular = shift_jis-regular;
    in_rows = λ p i o. omega arith;
    pairs = λ b c p ys l r e o.
        let indexed = shift_jis-indexed t.first b c (λ _. rw e (narrower 8272 8836 p 10715 (lit≤ tt) o)) in
        rw (lt-leb b 0x80 (shift_jis-low b l), shift_jis-no_kana b l, l, indexed, l, r, e);
  }

  pub shift_jis-back : ReadsBack (shift_jis t) (jp_image c) (shift_jis_encode look c)
  unfolding shift_jis_encode shift_jis
  shift_jis-back = by_steps (shift_jis t) c (ascii c || eqb c 0x80) ((c - 0xFF61 + 0xA1) ∷ [])
      (λ b ys h. rw (le-leb b 0x80 (omega (arith, ltb-true b 0x80 h))))
      (λ h.
      let small : c ≤ 0x80 =
      or_case (ascii c) (eqb c 0x80) h (λ e. omega (arith, ltb-true c 0x80 e)) (λ e. omega (arith, eqb-true c 0x80 e)) in
      (small, λ ys. rw (le-leb c 0x80 small)))
      (λ h ys. rw (lt-leb (c - 0xFF61 + 0xA1) 0x80 (omega arith), kana_byte c h, kana_back c h))
      (by_lookup shift_jis-pairs S first (minus c) (no_bytes (minus c)))
