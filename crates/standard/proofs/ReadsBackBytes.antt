-- The law of one scalar for UTF-8, the single-byte encodings and x-user-defined. Assumes nothing.
use mathlib.Core.Path.{◌≡◌, refl, sym}
use mathlib.Core.Bool.{Bool, true, false, not}
use mathlib.Core.List.{List, [], ◌∷◌}
use mathlib.Core.Option.{Option, some, none}
use Prim.Native.Nat.{ℕ, ◌+◌, ◌-◌, ◌*◌, ◌/◌, ◌%◌, ◌≤◌, ◌<◌}
use native.Mathlib.Omega.{arith}
use native.Mathlib.Nat.{div-div-eq-div-mul}
use lib.Dec.{ltb, leb, eqb}
use borrow.Author.Tests.{ltb-false, leb-true, leb-false, eqb-true, le-ltb, ne_eqb, not-true}
use Rattle.standard.specs.Base.{◌then◌else◌, within, is_scalar}
use Rattle.standard.specs.Machine.{tokens}
use Rattle.standard.specs.Search.{none_over, first, Lookup, Sound}
use Rattle.standard.specs.Encoders.Utf8.{utf8_following, utf8_bytes, utf8_encode}
use Rattle.standard.specs.Encoders.SingleByte.{or_error_with, single_byte_encode}
use Rattle.standard.specs.Encoders.UserDefined.{user_defined_encode}
use Rattle.standard.specs.Sequence.{scalar}
use Rattle.standard.specs.Sequences.Utf8.{utf8, utf8_low, utf8_high}
use Rattle.standard.specs.Sequences.SingleByte.{single_byte}
use Rattle.standard.specs.Sequences.UserDefined.{user_defined}
use Rattle.standard.proofs.Tests.{split, choose, and_left, and_right, within_low, in_range, above}
use Rattle.standard.proofs.ReadsBack.{ReadsBack, by_bytes, no_bytes, cell_of_lem}

-- UTF-8: the range of the second byte
low : (b c : ℕ) → 0x80 ≤ c → (b ≡ 0xE0 → 0xA0 ≤ c) → (b ≡ 0xF0 → 0x90 ≤ c) → utf8_low b ≤ c
unfolding utf8_low
low b c h f g = go (eqb b 0xE0) (eqb b 0xF0) refl refl
  where
    go : (t u : Bool) → eqb b 0xE0 ≡ t → eqb b 0xF0 ≡ u → (t then 0xA0 else u then 0x90 else 0x80) ≤ c
    go true u p q = f (eqb-true b 0xE0 p)
    go false true p q = g (eqb-true b 0xF0 q)
    go false false p q = h

high : (b c : ℕ) → c ≤ 0xBF → (b ≡ 0xED → c ≤ 0x9F) → (b ≡ 0xF4 → c ≤ 0x8F) → c ≤ utf8_high b
unfolding utf8_high
high b c h f g = go (eqb b 0xED) (eqb b 0xF4) refl refl
  where
    go : (t u : Bool) → eqb b 0xED ≡ t → eqb b 0xF4 ≡ u → c ≤ (t then 0x9F else u then 0x8F else 0xBF)
    go true u p q = f (eqb-true b 0xED p)
    go false true p q = g (eqb-true b 0xF4 q)
    go false false p q = h

-- sequences of one to four bytes
module _ (ys : List ℕ) where
  one_byte : (b : ℕ) → ltb b 0x80 ≡ true → utf8 (b ∷ ys) ≡ scalar 1 b
  unfolding utf8
  one_byte b h = rw h

  two_bytes : (b c u : ℕ) → 0xC2 ≤ b → b ≤ 0xDF → 0x80 ≤ c → c ≤ 0xBF → (b - 0xC0) * 64 + (c - 0x80) ≡ u → utf8 (b ∷ c ∷ ys) ≡ scalar 2 u
  unfolding utf8
  two_bytes b c u p q r s e = rw (le-ltb b 0x80 (omega arith), in_range 0xC2 b 0xDF p q, in_range 0x80 c 0xBF r s, e)

  three_bytes : (b c d u : ℕ) → 0xE0 ≤ b → b ≤ 0xEF → utf8_low b ≤ c → c ≤ utf8_high b → 0x80 ≤ d → d ≤ 0xBF →
      (b - 0xE0) * 4096 + (c - 0x80) * 64 + (d - 0x80) ≡ u →
      utf8 (b ∷ c ∷ d ∷ ys) ≡ scalar 3 u
  unfolding utf8
  three_bytes b c d u p q l h r s e =
      rw (
        le-ltb b 0x80 (omega arith),
        above 0xC2 b 0xDF (omega arith),
        in_range 0xE0 b 0xEF p q,
        in_range (utf8_low b) c (utf8_high b) l h,
        in_range 0x80 d 0xBF r s,
        e,
      )

  four_bytes : (b c d f u : ℕ) → 0xF0 ≤ b → b ≤ 0xF4 → utf8_low b ≤ c → c ≤ utf8_high b → 0x80 ≤ d → d ≤ 0xBF → 0x80 ≤ f → f ≤ 0xBF →
      (b - 0xF0) * 262144 + (c - 0x80) * 4096 + (d - 0x80) * 64 + (f - 0x80) ≡ u → utf8 (b ∷ c ∷ d ∷ f ∷ ys) ≡ scalar 4 u
  unfolding utf8
  four_bytes b c d f u p q l h r s v w e =
      rw (
        le-ltb b 0x80 (omega arith),
        above 0xC2 b 0xDF (omega arith),
        above 0xE0 b 0xEF p,
        in_range 0xF0 b 0xF4 p q,
        in_range (utf8_low b) c (utf8_high b) l h,
        in_range 0x80 d 0xBF r s,
        in_range 0x80 f 0xBF v w,
        e,
      )

-- no surrogate begins with ED and a byte above 9F
no_surrogate : (c : ℕ) → within 0xD800 c 0xDFFF ≡ false → c / 4096 + 0xE0 ≡ 0xED → 0x80 + c / 64 % 64 ≤ 0x9F
no_surrogate c gap e = split (leb 0xD800 c)
    (λ h. let up : 0xDFFF < c = leb-false c 0xDFFF (rw h at gap) in omega arith)
    (λ h. let down : c < 0xD800 = leb-false 0xD800 c h in omega arith)

-- a shift by 12 or 18 bits, by 6 at a time
twelve : (c : ℕ) → c / 4096 ≡ c / 64 / 64
twelve c = sym (div-div-eq-div-mul c 64 64)

eighteen : (c : ℕ) → c / 262144 ≡ c / 4096 / 64
eighteen c = sym (div-div-eq-div-mul c 4096 64)

-- the bytes of a scalar of each length
module _ (c : ℕ) where
  two_front : 0x80 ≤ c → c ≤ 0x7FF → ReadsBack utf8 c (tokens (utf8_bytes 1 0xC0 c))
  unfolding utf8_bytes utf8_following
  two_front p q = by_bytes (utf8_bytes 1 0xC0 c) (λ ys.
      two_bytes ys _ _ c (omega arith) (omega arith) (omega arith) (omega arith) (omega arith))

  three_front : 0x7FF < c → c ≤ 0xFFFF → within 0xD800 c 0xDFFF ≡ false → ReadsBack utf8 c (tokens (utf8_bytes 2 0xE0 c))
  unfolding utf8_bytes utf8_following
  three_front p q gap = by_bytes (utf8_bytes 2 0xE0 c) (λ ys. three_bytes ys _ _ _ c (omega arith) (omega arith)
      (low _ _ (omega arith) (λ e. omega arith) (λ e. omega arith)) (high _ _ (omega arith) (no_surrogate c gap) (λ e. omega arith))
      (omega arith) (omega arith) (omega (arith, twelve c)))

  four_front : 0xFFFF < c → c ≤ 0x10FFFF → ReadsBack utf8 c (tokens (utf8_bytes 3 0xF0 c))
  unfolding utf8_bytes utf8_following
  four_front p q = by_bytes (utf8_bytes 3 0xF0 c) (λ ys. four_bytes ys _ _ _ _ c (omega arith) (omega arith)
      (low _ _ (omega (arith, eighteen c)) (λ e. omega (arith, eighteen c)) (λ e. omega (arith, eighteen c)))
      (high _ _ (omega arith) (λ e. omega (arith, eighteen c)) (λ e. omega (arith, eighteen c)))
      (omega arith) (omega arith) (omega arith) (omega arith) (omega (arith, twelve c, eighteen c)))

  utf8_front : c ≤ 0x10FFFF → within 0xD800 c 0xDFFF ≡ false → ReadsBack utf8 c (utf8_encode c)
  unfolding utf8_encode
  utf8_front top gap =
      choose (ReadsBack utf8 c) (ltb c 0x80) (λ h. by_bytes (c ∷ []) (λ ys. one_byte ys c h)) (λ h.
      choose (ReadsBack utf8 c) (leb c 0x7FF) (λ g. two_front (ltb-false c 0x80 h) (leb-true c 0x7FF g)) (λ g.
      choose (ReadsBack utf8 c) (leb c 0xFFFF) (λ k. three_front (leb-false c 0x7FF g) (leb-true c 0xFFFF k) gap)
      (λ k. four_front (leb-false c 0xFFFF k) top)))

  pub utf8_back : is_scalar c ≡ true → ReadsBack utf8 c (utf8_encode c)
  utf8_back s = utf8_front
      (leb-true c 0x10FFFF (and_left (leb c 0x10FFFF) (not (within 0xD800 c 0xDFFF)) s))
      (not-true (within 0xD800 c 0xDFFF) (and_right (leb c 0x10FFFF) (not (within 0xD800 c 0xDFFF)) s))

-- single-byte: the cell of any sound look-up
pub single_byte-back : (index : List ℕ) {look : Lookup} → Sound look index → (c : ℕ) →
    ReadsBack (single_byte index) c (single_byte_encode look c)
unfolding single_byte_encode single_byte
single_byte-back index {look} S c =
    choose (ReadsBack (single_byte index) c) (ltb c 0x80) (λ h. by_bytes (c ∷ []) (λ ys. rw h)) (λ h. go (look first none_over c) refl)
  where
    go : (o : Option ℕ) → look first none_over c ≡ o → ReadsBack (single_byte index) c (or_error_with o c)
    go none e = no_bytes c
    go (some p) e =
        let back : p + 0x80 - 0x80 ≡ p = omega arith in
        let x = cell_of_lem index p c (S.sound first none_over c p e).code in
        by_bytes ((p + 0x80) ∷ []) (λ ys. rw (le-ltb (p + 0x80) 0x80 (omega arith), back, x.0, ne_eqb c 0 (λ z. omega (arith, x.1))))

pub user_defined-back : (c : ℕ) → ReadsBack user_defined c (user_defined_encode c)
unfolding user_defined_encode user_defined
user_defined-back c =
    choose (ReadsBack user_defined c) (ltb c 0x80) (λ h. by_bytes (c ∷ []) (λ ys. rw h)) (λ h.
    choose (ReadsBack user_defined c) (within 0xF780 c 0xF7FF)
    (λ g.
    let least : 0xF780 ≤ c = within_low 0xF780 c 0xF7FF g in
    let back : 0xF780 + (c - 0xF780 + 0x80 - 0x80) ≡ c = omega arith in
    by_bytes ((c - 0xF780 + 0x80) ∷ []) (λ ys. rw (le-ltb (c - 0xF780 + 0x80) 0x80 (omega arith), back)))
    (λ g. no_bytes c))
