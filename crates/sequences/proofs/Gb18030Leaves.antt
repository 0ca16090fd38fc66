-- gb18030, leaf by leaf. Assumes nothing.
use mathlib.Core.Path.{◌≡◌, refl, ◌∙◌}
use mathlib.Core.Bool.{true, false, ◌||◌, and-false}
use mathlib.Core.List.{List, [], ◌∷◌}
use Prim.Native.Nat.{ℕ, suc, ◌+◌, ◌-◌, ◌*◌, ◌/◌, ◌≤◌, ◌<◌}
use native.Mathlib.Omega.{arith}
use lib.Dec.{ltb, leb, lit≤}
use lib.ListN.{length, take, drop, get_or, length-drop}
use lib.Seq.{drop-cons}
use borrow.Author.Tests.{ltb-true, ltb-false, le-ltb, lt-ltb, lt-leb, ne_eqb}
use Rattle.standard.specs.Base.{◌then◌else◌, within, mapped}
use Rattle.standard.specs.Encodings.{Tables}
use Rattle.standard.specs.Layouts.{leads, pair_code, gb18030_layout}
use Rattle.standard.specs.Sequence.{more, await, scalar, bad, code, pair}
use Rattle.standard.specs.Sequences.Gb18030.{gb18030, gb18030_range, gb18030_four_code, gb18030_four_pointer, gb18030_third, gb18030_second}
use Rattle.standard.proofs.Tests.{split, within_low, not_ascii}
use Rattle.sequences.proofs.Leaves.{one_more, no_more}

-- the code point of a pointer
module _ (r : List ℕ) (p : ℕ) where
  pub four_gap : within 39420 p 188999 || ltb 1237575 p ≡ true → gb18030_four_code r p ≡ 0
  unfolding gb18030_four_code
  four_gap h = rw h

  pub four_7457 : p ≡ 7457 → gb18030_four_code r p ≡ 0xE7C7
  unfolding gb18030_four_code
  four_7457 h = rw h

  module _ (h : within 39420 p 188999 || ltb 1237575 p ≡ false) (g : p ≡ 7457 → ⊥) (x : ℕ) (e : x ≡ gb18030_range r p 0) where
    pub four_past : 0x10FFFF < x → gb18030_four_code r p ≡ 0
    unfolding gb18030_four_code
    four_past k = rw (h, ne_eqb p 7457 g, ← e, lt-leb x 0x10FFFF k, and-false (leb 0x80 x))

    pub four_mapped : mapped x ≡ true → gb18030_four_code r p ≡ x
    unfolding gb18030_four_code
    four_mapped k = rw (h, ne_eqb p 7457 g, ← e, k)

    pub four_unmapped : mapped x ≡ false → gb18030_four_code r p ≡ 0
    unfolding gb18030_four_code
    four_unmapped k = rw (h, ne_eqb p 7457 g, ← e, k)

-- the ranges, pair after pair
module _ (r : List ℕ) (p : ℕ) where
  pub range_step : (i f : ℕ) → i * 2 + 1 < length r → gb18030_range (drop (i * 2) r) p f ≡
      gb18030_range (drop ((i + 1) * 2) r) p (leb (get_or r (i * 2) 0) p then get_or r (i * 2 + 1) 0 + (p - get_or r (i * 2) 0) else f)
  unfolding gb18030_range
  range_step i f h =
      let e : i * 2 + 1 ≡ suc (i * 2) = omega arith in
      let g : (i + 1) * 2 ≡ suc (suc (i * 2)) = omega arith in
      rw (drop-cons r (i * 2) 0 (omega arith), drop-cons r (suc (i * 2)) 0 (omega arith), g, e)

  pub range_end : (i f : ℕ) → length r / 2 ≤ i → gb18030_range (drop (i * 2) r) p f ≡ f
  unfolding gb18030_range
  range_end i f h = go (drop (i * 2) r) (omega (arith, length-drop (i * 2) r))
    where
      go : (l : List ℕ) → length l ≤ 1 → gb18030_range l p f ≡ f
      go [] n = refl
      go (a ∷ []) n = refl
      go (a ∷ b ∷ l) n = absurd (omega arith)

-- the third byte and the fourth
module _ (r : List ℕ) (n b c d e : ℕ) (xs : List ℕ) where
  pub third_other : within 0x81 d 0xFE ≡ false → gb18030_third r b c d (take (n - 3) (e ∷ xs)) ≡ bad 1
  third_other h = rw h

  module _ (h : within 0x81 d 0xFE ≡ true) where
    pub third_wait : n < 4 → gb18030_third r b c d (take (n - 3) (e ∷ xs)) ≡ more
    third_wait g = rw (h, no_more (n - 3) (e ∷ xs) (omega arith))

    module _ (g : 4 ≤ n) where
      pub fourth_other : within 0x30 e 0x39 ≡ false → gb18030_third r b c d (take (n - 3) (e ∷ xs)) ≡ bad 1
      fourth_other k = rw (h, one_more (n - 3) e xs (omega arith), k)

      pub fourth_digit : within 0x30 e 0x39 ≡ true → gb18030_third r b c d (take (n - 3) (e ∷ xs)) ≡ code 4 (gb18030_four_code r (gb18030_four_pointer b c d e))
      fourth_digit k = rw (h, one_more (n - 3) e xs (omega arith), k)

-- the first byte and the second
module _ (t : Tables) (n b c d e : ℕ) (xs : List ℕ) where
  pub gb18030_ascii : b < 0x80 → gb18030 t (b ∷ take (n - 1) (c ∷ d ∷ e ∷ xs)) ≡ scalar 1 b
  unfolding gb18030
  gb18030_ascii h = rw (lt-ltb b 0x80 h)

  pub gb18030_80 : b ≡ 0x80 → gb18030 t (b ∷ take (n - 1) (c ∷ d ∷ e ∷ xs)) ≡ scalar 1 0x20AC
  unfolding gb18030
  gb18030_80 h = rw h

  pub gb18030_bad : 0x80 < b → leads gb18030_layout b ≡ false → gb18030 t (b ∷ take (n - 1) (c ∷ d ∷ e ∷ xs)) ≡ bad 1
  unfolding gb18030
  gb18030_bad h g = rw (le-ltb b 0x80 (omega arith), ne_eqb b 0x80 (λ z. omega arith), g)

pub gb18030_led : (t : Tables) (b : ℕ) (xs : List ℕ) → leads gb18030_layout b ≡ true → gb18030 t (b ∷ xs) ≡ await xs (λ c xs. gb18030_second t b c xs)
unfolding gb18030
gb18030_led t b xs g = let l = within_low 0x81 b 0xFE g in rw (not_ascii 0x81 b 0xFE (lit≤ tt) g, ne_eqb b 0x80 (λ z. omega arith), g)

module _ (t : Tables) (n b c d e : ℕ) (xs : List ℕ) (g : leads gb18030_layout b ≡ true) where
  led : gb18030 t (b ∷ take (n - 1) (c ∷ d ∷ e ∷ xs)) ≡ await (take (n - 1) (c ∷ d ∷ e ∷ xs)) (λ c xs. gb18030_second t b c xs)
  led = gb18030_led t b (take (n - 1) (c ∷ d ∷ e ∷ xs)) g

  short : n < 2 → gb18030 t (b ∷ take (n - 1) (c ∷ d ∷ e ∷ xs)) ≡ more
  short w = led ∙ rw (no_more (n - 1) (c ∷ d ∷ e ∷ xs) (omega arith))

  pub gb18030_pair : within 0x30 c 0x39 ≡ false → gb18030 t (b ∷ take (n - 1) (c ∷ d ∷ e ∷ xs)) ≡ (ltb n 2 then more else pair c (pair_code gb18030_layout t.first b c))
  gb18030_pair f = split (ltb n 2)
      (λ u. rw u (short (ltb-true n 2 u)))
      (λ u. let v = ltb-false n 2 u in rw u (led ∙ rw (one_more (n - 1) c (d ∷ e ∷ xs) (omega arith), f)))

  module _ (f : within 0x30 c 0x39 ≡ true) where
    pub gb18030_wait : n < 3 → gb18030 t (b ∷ take (n - 1) (c ∷ d ∷ e ∷ xs)) ≡ more
    gb18030_wait w = split (ltb n 2) (λ u. short (ltb-true n 2 u))
        (λ u. let v = ltb-false n 2 u in led ∙ rw (one_more (n - 1) c (d ∷ e ∷ xs) (omega arith), f, no_more (n - 1 - 1) (d ∷ e ∷ xs) (omega arith)))

    pub gb18030_third_lem : 3 ≤ n → gb18030 t (b ∷ take (n - 1) (c ∷ d ∷ e ∷ xs)) ≡ gb18030_third t.second b c d (take (n - 3) (e ∷ xs))
    gb18030_third_lem w =
        let z : n - 3 ≡ n - 1 - 1 - 1 = omega arith in
        led ∙ rw (one_more (n - 1) c (d ∷ e ∷ xs) (omega arith), f, one_more (n - 1 - 1) d (e ∷ xs) (omega arith), z)
