-- The law of a layout, over any divisor and offsets, and what holds of every pair's code point. Assumes nothing.
use mathlib.Core.Path.{◌≡◌, refl}
use mathlib.Core.Bool.{Bool, true, false, ◌||◌, and-false}
use mathlib.Core.List.{List}
use Prim.Native.Nat.{ℕ, ◌+◌, ◌-◌, ◌*◌, ◌/◌, ◌%◌, ◌≤◌, ◌<◌}
use native.Mathlib.Omega.{arith}
use native.Mathlib.Nat.{div-add-mod', div-lt_iff_lt-mul, mod-lt, mul-le-mul}
use lib.Dec.{ltb, lit≤}
use borrow.Author.Tests.{ltb-true, ltb-false, lt-ltb, le-ltb}
use Rattle.standard.specs.Base.{◌then◌else◌, within}
use Rattle.standard.specs.Sequence.{cell}
use Rattle.standard.specs.Layouts.{Offset, one, two, placed, number, ranges, Layout, leads, trails, pointer_of, pair_code, TwoBytes, gb18030_layout, big5_layout, euc_jp_layout, iso2022_jp_layout, shift_jis_layout, euc_kr_layout}
use Rattle.standard.proofs.Tests.{split, or_case, within_low, within_high, under, above, in_range}

-- an offset for n numbers: there are some, on both sides of the gap, and the second offset is not the smaller one
abbrev pub Proper : Offset → ℕ → Type 0
Proper (one low) n = 1 ≤ n
Proper (two gap low high) n = (1 ≤ gap) × (gap ≤ n) × (low ≤ high)

pub record Regular (y : Layout) : Type 0 where
  pub rows : Proper y.lead y.rows
  pub columns : Proper y.trail y.divisor

-- the byte of number 0
abbrev pub least : Offset → ℕ
least (one low) = low
least (two gap low high) = low

or_right : (a b : Bool) → b ≡ true → a || b ≡ true
or_right true b h = refl
or_right false b h = h

-- a number's byte is one of its numbers, and has this number
number_placed : (o : Offset) (m n : ℕ) → Proper o m → number o (placed o n) ≡ n
number_placed (one low) m n h = omega arith
number_placed (two gap low high) m n h = split (ltb n gap)
    (λ e. let l : n < gap = ltb-true n gap e in rw (e, lt-ltb (n + low) (gap + low) (omega arith)) (omega arith))
    (λ e. let l : gap ≤ n = ltb-false n gap e in rw (e, le-ltb (n + high) (gap + low) (omega (arith, h.2))) (omega arith))

placed_fits : (o : Offset) (m n : ℕ) → n < m → ranges o m (placed o n) ≡ true
placed_fits (one low) m n h = in_range low (n + low) (m + low - 1) (omega arith) (omega arith)
placed_fits (two gap low high) m n h = split (ltb n gap)
    (λ e. let l : n < gap = ltb-true n gap e in rw (e, in_range low (n + low) (gap + low - 1) (omega arith) (omega arith)))
    (λ e.
    let l : gap ≤ n = ltb-false n gap e in
    rw e (or_right (within low (n + high) (gap + low - 1)) _ (in_range (gap + high) (n + high) (m + high - 1) (omega arith) (omega arith))))

-- the number of one of n bytes is below n
pub number_below : (o : Offset) (n b : ℕ) → Proper o n → ranges o n b ≡ true → number o b < n
number_below (one low) n b h r = omega (arith, within_high low b (n + low - 1) r)
number_below (two gap low high) n b h r = or_case (within low b (gap + low - 1)) (within (gap + high) b (n + high - 1)) r
    (λ e. let k = within_high low b (gap + low - 1) e in rw (lt-ltb b (gap + low) (omega (arith, k, h.0))) (omega (arith, k, h.0, h.1)))
    (λ e.
    let j = within_low (gap + high) b (n + high - 1) e in
    let k = within_high (gap + high) b (n + high - 1) e in
    rw (le-ltb b (gap + low) (omega (arith, j, h.2))) (omega (arith, k, h.0, h.1)))

pub divisor_real : (y : Layout) → Regular y → 1 ≤ y.divisor
divisor_real y r = go y.trail r.columns
  where
    go : (o : Offset) → Proper o y.divisor → 1 ≤ y.divisor
    go (one low) h = h
    go (two gap low high) h = omega (arith, h.0, h.1)

-- There and back: a pointer into the rows has two bytes that give it; two bytes have a pointer into the rows.
pub two_bytes_lem : (y : Layout) (p : ℕ) → Regular y → p < y.rows * y.divisor → TwoBytes y p
unfolding pointer_of
two_bytes_lem y p r h = let d = divisor_real y r in record {
  lead_fits = placed_fits y.lead y.rows (p / y.divisor) ((div-lt_iff_lt-mul d).1 h);
  trail_fits = placed_fits y.trail y.divisor (p % y.divisor) (mod-lt p d);
  back =
      rw (number_placed y.lead y.rows (p / y.divisor) r.rows, number_placed y.trail y.divisor (p % y.divisor) r.columns)
      (div-add-mod' p y.divisor);
}

module _ (y : Layout) (b c : ℕ) (r : Regular y) (l : leads y b ≡ true) where
  pub row_below : number y.lead b * y.divisor + y.divisor ≤ y.rows * y.divisor
  row_below =
      let i : number y.lead b + 1 ≤ y.rows = omega (arith, number_below y.lead y.rows b r.rows l) in
      let d : y.divisor ≤ y.divisor = omega arith in
      omega (arith, mul-le-mul i d)

  pub pointer_below : trails y c ≡ true → pointer_of y b c < y.rows * y.divisor
  unfolding pointer_of
  pointer_below t = omega (arith, row_below, number_below y.trail y.divisor c r.columns t)

-- the code point after a lead
pub pair_led : (y : Layout) (index : List ℕ) (b c : ℕ) → leads y b ≡ true → pair_code y index b c ≡ (trails y c then cell index (pointer_of y b c) else 0)
unfolding pair_code
pair_led y index b c h = rw h

-- two bytes with a code point are a lead and a trail
pub pair_found : (y : Layout) (index : List ℕ) (b c : ℕ) → (pair_code y index b c ≡ 0 → ⊥) → (leads y b ≡ true) × (trails y c ≡ true)
unfolding pair_code
pair_found y index b c n =
    split (leads y b) (λ l. split (trails y c) (λ t. (l, t)) (λ t. absurd (n (rw (t, and-false (leads y b)))))) (λ l. absurd (n (rw l)))

-- a byte below the least has no number, and is no trail
pub ranges_under : (o : Offset) (n b : ℕ) → Proper o n → b < least o → ranges o n b ≡ false
ranges_under (one low) n b h g = under low b (n + low - 1) g
ranges_under (two gap low high) n b h g = rw (under low b (gap + low - 1) g, under (gap + high) b (n + high - 1) (omega (arith, g, h.2)))

pub pair_under : (y : Layout) (index : List ℕ) (b c : ℕ) → Regular y → c < least y.trail → pair_code y index b c ≡ 0
unfolding pair_code
pair_under y index b c r h = rw (ranges_under y.trail y.divisor c r.columns h, and-false (leads y b))

-- a lead of Shift_JIS is no byte that stands for one scalar
module _ (b : ℕ) (p : leads shift_jis_layout b ≡ true) where
  pub shift_jis-low : 0x81 ≤ b
  shift_jis-low = or_case (within 0x81 b 0x9F) (within 0xE0 b 0xFC) p (λ e. within_low 0x81 b 0x9F e) (λ e. omega (arith, within_low 0xE0 b 0xFC e))

  pub shift_jis-no_kana : within 0xA1 b 0xDF ≡ false
  shift_jis-no_kana = or_case (within 0x81 b 0x9F) (within 0xE0 b 0xFC) p
      (λ e. under 0xA1 b 0xDF (omega (arith, within_high 0x81 b 0x9F e))) (λ e. above 0xA1 b 0xDF (omega (arith, within_low 0xE0 b 0xFC e)))

-- the six layouts
pub gb18030_regular : Regular gb18030_layout
gb18030_regular = record { rows = lit≤ tt; columns = (lit≤ tt, lit≤ tt, lit≤ tt) }

pub big5_regular : Regular big5_layout
big5_regular = record { rows = lit≤ tt; columns = (lit≤ tt, lit≤ tt, lit≤ tt) }

pub euc_jp-regular : Regular euc_jp_layout
euc_jp-regular = record { rows = lit≤ tt; columns = lit≤ tt }

pub iso_2022_jp_regular : Regular iso2022_jp_layout
iso_2022_jp_regular = record { rows = lit≤ tt; columns = lit≤ tt }

pub shift_jis-regular : Regular shift_jis_layout
shift_jis-regular = record { rows = (lit≤ tt, lit≤ tt, lit≤ tt); columns = (lit≤ tt, lit≤ tt, lit≤ tt) }

pub euc_kr-regular : Regular euc_kr_layout
euc_kr-regular = record { rows = lit≤ tt; columns = lit≤ tt }
