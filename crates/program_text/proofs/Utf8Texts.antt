-- The bytes of scalars in UTF-8, written one after another. Assumes nothing.
use mathlib.Core.Path.{◌≡◌, refl, sym, ap, ◌∙◌}
use mathlib.Core.List.{List, [], ◌∷◌, ◌++◌, append_assoc, append-nil}
use Prim.Native.Nat.{ℕ, ◌+◌, ◌*◌, ◌/◌, ◌%◌, ◌≤◌, ◌<◌}
use native.Mathlib.Numerals.{add-one}
use native.Mathlib.Omega.{arith}
use lib.Dec.{ltb, leb}
use lib.ListN.{length, take, get_or, length-append}
use lib.Seq.{take-suc}
use borrow.Author.Tests.{lt-ltb, le-ltb, le-leb, lt-leb, ltb-true, ltb-false, leb-true, leb-false}
use Rattle.standard.specs.Encoders.Utf8.{utf8_following, utf8_bytes, utf8_encode}
use Rattle.standard.proofs.Tests.{split}
use Rattle.program_text.specs.Places.{Put}
use Rattle.program_text.specs.Utf8.{utf8_one, utf8}
use Rattle.program_text.proofs.Texts.{same, then_put}

-- the bytes of a scalar, by its size
module _ (c : ℕ) where
  pub one : c < 0x80 → c ∷ [] ≡ utf8_one c
  unfolding utf8_encode
  one h = rw (le-leb c 0x10FFFF (omega arith), lt-ltb c 0x80 h)

  pub two : 0x80 ≤ c → c ≤ 0x7FF → (s : ℕ) → s ≡ 0x80 + c % 64 → (c / 64 + 0xC0) ∷ s ∷ [] ≡ utf8_one c
  unfolding utf8_encode utf8_bytes utf8_following
  two h g s e = let f : s ≡ 0x80 + c / 1 % 64 = omega arith in rw (le-leb c 0x10FFFF (omega arith), le-ltb c 0x80 h, le-leb c 0x7FF g, f)

  pub three : 0x7FF < c → c ≤ 0xFFFF → (s t : ℕ) → s ≡ 0x80 + c / 64 % 64 → t ≡ 0x80 + c % 64 → (c / 4096 + 0xE0) ∷ s ∷ t ∷ [] ≡ utf8_one c
  unfolding utf8_encode utf8_bytes utf8_following
  three h g s t e d = let f : t ≡ 0x80 + c / 1 % 64 = omega arith in
      rw (le-leb c 0x10FFFF (omega arith), le-ltb c 0x80 (omega arith), lt-leb c 0x7FF h, le-leb c 0xFFFF g, e, f)

  pub four : 0xFFFF < c → c ≤ 0x10FFFF → (s t u : ℕ) → s ≡ 0x80 + c / 4096 % 64 → t ≡ 0x80 + c / 64 % 64 → u ≡ 0x80 + c % 64 →
      (c / 262144 + 0xF0) ∷ s ∷ t ∷ u ∷ [] ≡ utf8_one c
  unfolding utf8_encode utf8_bytes utf8_following
  four h g s t u e d k = let f : u ≡ 0x80 + c / 1 % 64 = omega arith in
      rw (le-leb c 0x10FFFF g, le-ltb c 0x80 (omega arith), lt-leb c 0x7FF (omega arith), lt-leb c 0xFFFF h, e, d, f)

  above : 0x10FFFF < c → utf8_one c ≡ []
  above h = rw (lt-leb c 0x10FFFF h)

  -- at most four bytes
  one_few : length (utf8_one c) ≤ 4
  one_few = split (leb c 0x10FFFF)
      (λ i. split (ltb c 0x80)
      (λ h. omega (arith, ap length (one (ltb-true c 0x80 h))))
      (λ h. split (leb c 0x7FF)
      (λ g. omega (arith, ap length (two (ltb-false c 0x80 h) (leb-true c 0x7FF g) (0x80 + c % 64) refl)))
      (λ g. split (leb c 0xFFFF)
      (λ f. omega (arith, ap length (three (leb-false c 0x7FF g) (leb-true c 0xFFFF f) (0x80 + c / 64 % 64) (0x80 + c % 64) refl refl)))
      (λ f. omega (
        arith,
        ap length
            (four (leb-false c 0xFFFF f) (leb-true c 0x10FFFF i) (0x80 + c / 4096 % 64) (0x80 + c / 64 % 64) (0x80 + c % 64) refl refl refl),
      )))))
      (λ i. omega (arith, ap length (above (leb-false c 0x10FFFF i))))

pub utf8_few : (cs : List ℕ) → length (utf8 cs) ≤ 4 * length cs
unfolding utf8
utf8_few [] = omega arith
utf8_few (c ∷ cs) = rw length-append (omega (arith, one_few c, utf8_few cs))

pub utf8_append : (cs ds : List ℕ) → utf8 (cs ++ ds) ≡ utf8 cs ++ utf8 ds
unfolding utf8
utf8_append [] ds = refl
utf8_append (c ∷ cs) ds = ap (λ (l : List ℕ). utf8_one c ++ l) (utf8_append cs ds) ∙ sym (append_assoc (utf8_one c) (utf8 cs) (utf8 ds))

-- one scalar more
pub put_scalar : (cs : List ℕ) (i : ℕ) → i < length cs → {room : List ℕ} {at o o' : ℕ} {a a' : List ℕ} →
    Put room at (utf8 (take i cs)) o a → Put a o (utf8_one (get_or cs i 0)) o' a' → Put room at (utf8 (take (i + 1) cs)) o' a'
unfolding utf8
put_scalar cs i h p q =
    let c = get_or cs i 0 in
    let e : utf8 (take i cs) ++ utf8_one c ≡ utf8 (take (i + 1) cs) =
    sym (ap (λ (n : ℕ). utf8 (take n cs)) (add-one i) ∙ ap utf8 (take-suc cs i 0 h) ∙ utf8_append (take i cs) (c ∷ []) ∙
    ap (λ (l : List ℕ). utf8 (take i cs) ++ l) (append-nil (utf8_one c))) in
    same e (then_put p q)
