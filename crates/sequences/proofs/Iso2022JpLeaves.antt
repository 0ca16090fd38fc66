-- ISO-2022-JP, leaf by leaf. Assumes nothing.
use mathlib.Core.Path.{◌≡◌, refl}
use mathlib.Core.Bool.{Bool, true, false, ◌||◌}
use mathlib.Core.List.{List, [], ◌∷◌}
use Prim.Native.Nat.{ℕ, ◌+◌, ◌-◌, ◌≤◌, ◌<◌}
use native.Mathlib.Omega.{arith}
use lib.Dec.{leb, eqb}
use lib.ListN.{take}
use borrow.Author.Tests.{ne_eqb, eq-eqb}
use Rattle.standard.specs.Base.{◌then◌else◌, within}
use Rattle.standard.specs.Encodings.{Tables}
use Rattle.standard.specs.Layouts.{leads, pair_code, iso2022_jp_layout}
use Rattle.standard.specs.Sequence.{Shift, Next, text, error, more, item, shift}
use Rattle.standard.specs.Sequences.Iso2022Jp.{iso2022_jp, escaped, escape_next, byte_out, katakana_out, trail_next}
use Rattle.sequences.proofs.Leaves.{one_more, no_more}

-- the output state that an escape chooses
module _ (c d : ℕ) where
  pub chosen_none : (c ≡ 0x28 → ⊥) → (c ≡ 0x24 → ⊥) → escaped c d ≡ 4
  unfolding escaped
  chosen_none h g = rw (ne_eqb c 0x28 h, ne_eqb c 0x24 g)

  pub chosen_24_other : c ≡ 0x24 → (d ≡ 0x40 → ⊥) → (d ≡ 0x42 → ⊥) → escaped c d ≡ 4
  unfolding escaped
  chosen_24_other h g k = rw (h, ne_eqb d 0x40 g, ne_eqb d 0x42 k)

module _ (d : ℕ) where
  pub chosen_28_other : (d ≡ 0x42 → ⊥) → (d ≡ 0x4A → ⊥) → (d ≡ 0x49 → ⊥) → escaped 0x28 d ≡ 4
  unfolding escaped
  chosen_28_other h g k = rw (ne_eqb d 0x42 h, ne_eqb d 0x4A g, ne_eqb d 0x49 k)

-- what a byte gives
abbrev pub byte_item : ℕ → ℕ → Next
byte_item s b = item 1 (shift s false) (byte_out s b)

module _ (s b : ℕ) where
  pub byte_kana : s ≡ 2 → byte_item s b ≡ item 1 (shift 2 false) (katakana_out b)
  unfolding byte_out
  byte_kana h = rw h

  pub byte_none : (s ≡ 2 → ⊥) → leb 0x80 b || eqb b 0x0E || eqb b 0x0F ≡ true → byte_item s b ≡ item 1 (shift s false) error
  unfolding byte_out
  byte_none h g = rw (ne_eqb s 2 h, g)

  module _ (g : leb 0x80 b || eqb b 0x0E || eqb b 0x0F ≡ false) where
    pub byte_roman : (x : ℕ) → x ≡ (eqb b 0x5C then 0xA5 else eqb b 0x7E then 0x203E else b) → s ≡ 1 → byte_item s b ≡ item 1 (shift 1 false) (text (x ∷ []))
    unfolding byte_out
    byte_roman x e h = rw (h, g, e) (go (eqb b 0x5C) (eqb b 0x7E))
      where
        go : (u v : Bool) →
            ◌≡◌ {A = Next}
            (item 1 (shift 1 false) (u then text (0xA5 ∷ []) else v then text (0x203E ∷ []) else text (b ∷ [])))
            (item 1 (shift 1 false) (text ((u then 0xA5 else v then 0x203E else b) ∷ [])))
        go true v = refl
        go false true = refl
        go false false = refl

    pub byte_self : (s ≡ 2 → ⊥) → (s ≡ 1 → ⊥) → byte_item s b ≡ item 1 (shift s false) (text (b ∷ []))
    unfolding byte_out
    byte_self h k = rw (ne_eqb s 2 h, g, ne_eqb s 1 k)

pub kana_some : (b : ℕ) → within 0x21 b 0x5F ≡ true → katakana_out b ≡ text ((0xFF61 - 0x21 + b) ∷ [])
kana_some b h = rw h

pub kana_none : (b : ℕ) → within 0x21 b 0x5F ≡ false → katakana_out b ≡ error
kana_none b h = rw h

-- a lead and a trail byte
module _ (t : List ℕ) (b c : ℕ) where
  pub trail_1b : c ≡ 0x1B → trail_next t b c ≡ item 1 (shift 3 false) error
  trail_1b h = rw h

  module _ (h : c ≡ 0x1B → ⊥) (x : ℕ) (e : x ≡ pair_code iso2022_jp_layout t b c) where
    pub trail_null : x ≡ 0 → trail_next t b c ≡ item 2 (shift 3 false) error
    trail_null g = rw (ne_eqb c 0x1B h, ← e, g)

    pub trail_some : (x ≡ 0 → ⊥) → trail_next t b c ≡ item 2 (shift 3 false) (text (x ∷ []))
    trail_some g = rw (ne_eqb c 0x1B h, ← e, ne_eqb x 0 g)

-- the first byte
module _ (t : Tables) (s : Shift) (n b c d : ℕ) (xs : List ℕ) where
  module _ (h : b ≡ 0x1B) where
    pub iso_2022_jp_1b_wait : n < 2 → iso2022_jp t s (b ∷ take (n - 1) (c ∷ d ∷ xs)) ≡ more
    unfolding iso2022_jp
    iso_2022_jp_1b_wait g = rw (h, no_more (n - 1) (c ∷ d ∷ xs) (omega arith))

    pub iso_2022_jp_1b : 2 ≤ n → iso2022_jp t s (b ∷ take (n - 1) (c ∷ d ∷ xs)) ≡ escape_next s c (take (n - 2) (d ∷ xs))
    unfolding iso2022_jp
    iso_2022_jp_1b g = let z : n - 2 ≡ n - 1 - 1 = omega arith in rw (h, one_more (n - 1) c (d ∷ xs) (omega arith), z)

  module _ (h : b ≡ 0x1B → ⊥) where
    pub iso_2022_jp_byte : (s.state ≡ 3 → ⊥) → iso2022_jp t s (b ∷ take (n - 1) (c ∷ d ∷ xs)) ≡ byte_item s.state b
    unfolding iso2022_jp
    iso_2022_jp_byte g = rw (ne_eqb b 0x1B h, ne_eqb s.state 3 g)

    module _ (g : s.state ≡ 3) where
      pub iso_2022_jp_bad : leads iso2022_jp_layout b ≡ false → iso2022_jp t s (b ∷ take (n - 1) (c ∷ d ∷ xs)) ≡ item 1 (shift 3 false) error
      unfolding iso2022_jp
      iso_2022_jp_bad k = rw (ne_eqb b 0x1B h, eq-eqb s.state 3 g, k)

      module _ (k : leads iso2022_jp_layout b ≡ true) where
        pub iso_2022_jp_wait : n < 2 → iso2022_jp t s (b ∷ take (n - 1) (c ∷ d ∷ xs)) ≡ more
        unfolding iso2022_jp
        iso_2022_jp_wait w = rw (ne_eqb b 0x1B h, eq-eqb s.state 3 g, k, no_more (n - 1) (c ∷ d ∷ xs) (omega arith))

        pub iso_2022_jp_pair : 2 ≤ n → iso2022_jp t s (b ∷ take (n - 1) (c ∷ d ∷ xs)) ≡ trail_next t.first b c
        unfolding iso2022_jp
        iso_2022_jp_pair w = rw (ne_eqb b 0x1B h, eq-eqb s.state 3 g, k, one_more (n - 1) c (d ∷ xs) (omega arith))
