-- The layouts of the writers of pairs with their numbers: what holds for each of the six holds for every encoding number. Assumes nothing.
use mathlib.Core.Path.{◌≡◌, refl, sym, ◌∙◌}
use mathlib.Core.Bool.{false}
use Prim.Native.Nat.{ℕ, ◌+◌, ◌*◌, ◌/◌, ◌%◌, ◌≤◌, ◌<◌}
use native.Mathlib.Omega.{arith}
use lib.Dec.{ltb, leb, eqb}
use borrow.Author.Tests.{ltb-true, ltb-false, leb-true, leb-false, eqb-true, eqb-false, lt-leb, ne_eqb}
use Rattle.standard.specs.Base.{within}
use Rattle.standard.specs.Layouts.{Layout, two, placed, trail_of}
use Rattle.standard.specs.Layouts.{gb18030_layout, big5_layout, euc_jp_layout, iso2022_jp_layout, shift_jis_layout, euc_kr_layout}
use Rattle.standard.specs.Search.{passed, pass_over}
use Rattle.standard.proofs.Tests.{split, within_low, within_high, in_range, under, above, out_above}
use Rattle.layouts.specs.Rows.{cells, layout_of}
use Rattle.pair_writers.specs.Pairs.{low_of, high_of, cells_of, floor_of, pair_number}

-- by layout, the pointers that are passed over, the table's cells, and the least number of two bytes
module _ (P : Layout → ℕ → ℕ → ℕ → ℕ → Type 0)
    (gb18030 : P gb18030_layout 1 0 23940 0x8000)
    (big5 : P big5_layout 0 5023 19782 0x8000)
    (euc-jp : P euc_jp_layout 8836 11279 11280 0x8000)
    (iso-2022-jp : P iso2022_jp_layout 8836 11279 11280 256)
    (shift-jis : P shift_jis_layout 8272 10715 11280 0x8000)
    (euc-kr : P euc_kr_layout 1 0 23940 0x8000) where
  pub by_shape : (e : ℕ) → P (layout_of e) (low_of e) (high_of e) (cells_of e) (floor_of e)
  unfolding layout_of
  by_shape e =
      split (leb e 30) (λ t. let l = leb-true e 30 t in rw (t, ne_eqb e 33 (λ z. omega arith)) gb18030) (λ t.
      split (eqb e 31) (λ u. rw (eqb-true e 31 u) big5) (λ u.
      split (eqb e 32) (λ v. rw (eqb-true e 32 v) euc-jp) (λ v.
      split (eqb e 33) (λ w. rw (eqb-true e 33 w) iso-2022-jp) (λ w.
      split (eqb e 34) (λ x. rw (eqb-true e 34 x) shift-jis) (λ x.
      let l : 34 < e = omega (arith, leb-false e 30 t, eqb-false e 31 u, eqb-false e 32 v, eqb-false e 33 w, eqb-false e 34 x) in
      rw (t, u, v, w, x, lt-leb e 33 (omega arith), lt-leb e 34 l) euc-kr)))))

-- A byte has at least the lower offset.
two_low : (gap low high k : ℕ) → low ≤ high → low ≤ placed (two gap low high) k
two_low gap low high k h = split (ltb k gap) (λ t. rw t (omega arith)) (λ t. rw t (omega arith))

two_high : (gap low high k n : ℕ) → low ≤ high → k + high < n → placed (two gap low high) k < n
two_high gap low high k n h l = split (ltb k gap) (λ t. rw t (omega arith)) (λ t. rw t l)

-- a number of two bytes is not below the floor, and its parts are the bytes
pub number_least : (e q : ℕ) → floor_of e ≤ pair_number (layout_of e) q
number_least e q = by_shape (λ y low high n floor. floor ≤ pair_number y q)
    (omega arith)
    (omega arith)
    (omega arith)
    (omega arith)
    (omega (arith, two_low 0x1F 0x81 0xC1 (q / 188) (omega arith)))
    (omega arith)
    e

pub trail_below : (e q : ℕ) → trail_of (layout_of e) q < 256
trail_below e q = by_shape (λ y low high n floor. trail_of y q < 256)
    (two_high 0x3F 0x40 0x41 (q % 190) 256 (omega arith) (omega arith))
    (two_high 0x3F 0x40 0x62 (q % 157) 256 (omega arith) (omega arith))
    (omega arith)
    (omega arith)
    (two_high 0x3F 0x40 0x41 (q % 188) 256 (omega arith) (omega arith))
    (omega arith)
    e

pub floor_real : (e : ℕ) → 256 ≤ floor_of e
floor_real e = by_shape (λ y low high n floor. 256 ≤ floor) (omega arith) (omega arith) (omega arith) (omega arith) (omega arith) (omega arith) e

-- in a row all pointers have one lead, each the trail of its column
pub same_row : (e r j : ℕ) → j < (layout_of e).divisor → (r * (layout_of e).divisor + j) / (layout_of e).divisor ≡ r * (layout_of e).divisor / (layout_of e).divisor
same_row e r j = by_shape (λ y low high n floor. j < y.divisor → (r * y.divisor + j) / y.divisor ≡ r * y.divisor / y.divisor)
    (λ h. omega arith) (λ h. omega arith) (λ h. omega arith) (λ h. omega arith) (λ h. omega arith) (λ h. omega arith) e

pub same_column : (e r j : ℕ) → j < (layout_of e).divisor → (r * (layout_of e).divisor + j) % (layout_of e).divisor ≡ j % (layout_of e).divisor
same_column e r j = by_shape (λ y low high n floor. j < y.divisor → (r * y.divisor + j) % y.divisor ≡ j % y.divisor)
    (λ h. omega arith) (λ h. omega arith) (λ h. omega arith) (λ h. omega arith) (λ h. omega arith) (λ h. omega arith) e

-- a row is passed over as a whole, or not at all
within_alike : (low high p j w : ℕ) → j < w → (p < low → p + w ≤ low) → (p ≤ high → p + w ≤ high + 1) →
    within low (p + j) high ≡ within low p high
within_alike low high p j w h f g = split (within low p high)
    (λ t. rw t (in_range low (p + j) high (omega (arith, within_low low p high t)) (omega (arith, g (within_high low p high t)))))
    (λ t. rw t (split (ltb p low)
    (λ u. under low (p + j) high (omega (arith, f (ltb-true p low u))))
    (λ u. above low (p + j) high (omega (arith, out_above low p high t (ltb-false p low u))))))

none_within : (p : ℕ) → within 1 p 0 ≡ false
none_within p = split (ltb p 1) (λ u. under 1 p 0 (ltb-true p 1 u)) (λ u. above 1 p 0 (ltb-false p 1 u))

pub row_alike : (e r j : ℕ) → j < (layout_of e).divisor →
    passed (pass_over (low_of e) (high_of e)) (r * (layout_of e).divisor + j) ≡ passed (pass_over (low_of e) (high_of e)) (r * (layout_of e).divisor)
row_alike e r j = by_shape (λ y low high n floor. j < y.divisor → within low (r * y.divisor + j) high ≡ within low (r * y.divisor) high)
    (λ h. none_within (r * 190 + j) ∙ sym (none_within (r * 190)))
    (λ h. within_alike 0 5023 (r * 157) j 157 h (λ l. omega arith) (λ l. omega arith))
    (λ h. within_alike 8836 11279 (r * 94) j 94 h (λ l. omega arith) (λ l. omega arith))
    (λ h. within_alike 8836 11279 (r * 94) j 94 h (λ l. omega arith) (λ l. omega arith))
    (λ h. within_alike 8272 10715 (r * 188) j 188 h (λ l. omega arith) (λ l. omega arith))
    (λ h. none_within (r * 190 + j) ∙ sym (none_within (r * 190)))
    e

-- the rows of a table, of which those that are not passed over have leads
pub row_inside : (e r : ℕ) → r < cells_of e / (layout_of e).divisor → r * (layout_of e).divisor + (layout_of e).divisor ≤ cells_of e
row_inside e r = by_shape (λ y low high n floor. r < n / y.divisor → r * y.divisor + y.divisor ≤ n)
    (λ h. omega arith) (λ h. omega arith) (λ h. omega arith) (λ h. omega arith) (λ h. omega arith) (λ h. omega arith) e

pub rows_few : (e : ℕ) → cells_of e / (layout_of e).divisor ≤ 126
rows_few e = by_shape (λ y low high n floor. n / y.divisor ≤ 126) (omega arith) (omega arith) (omega arith) (omega arith) (omega arith) (omega arith) e

pub rows_all : (e : ℕ) → cells_of e / (layout_of e).divisor * (layout_of e).divisor ≡ cells_of e
rows_all e = by_shape (λ y low high n floor. n / y.divisor * y.divisor ≡ n) refl refl refl refl refl refl e

pub row_led : (e r : ℕ) → r < cells_of e / (layout_of e).divisor → passed (pass_over (low_of e) (high_of e)) (r * (layout_of e).divisor) ≡ false →
    r * (layout_of e).divisor < cells (layout_of e)
row_led e r = by_shape (λ y low high n floor. r < n / y.divisor → within low (r * y.divisor) high ≡ false → r * y.divisor < cells y)
    (λ h t. omega arith)
    (λ h t. omega arith)
    (λ h t. jis t h)
    (λ h t. jis t h)
    (λ h t. omega arith)
    (λ h t. omega arith)
    e
  where
    jis : within 8836 (r * 94) 11279 ≡ false → r < 120 → r * 94 < 8836
    jis t h = split (ltb (r * 94) 8836)
        (λ u. ltb-true (r * 94) 8836 u)
        (λ u. absurd (omega (arith, out_above 8836 (r * 94) 11279 t (ltb-false (r * 94) 8836 u))))

-- a column has a trail
pub column_led : (e j : ℕ) → j < (layout_of e).divisor → j < cells (layout_of e)
column_led e j = by_shape (λ y low high n floor. j < y.divisor → j < cells y)
    (λ h. omega arith) (λ h. omega arith) (λ h. omega arith) (λ h. omega arith) (λ h. omega arith) (λ h. omega arith) e

pub divisor_small : (e : ℕ) → (0 < (layout_of e).divisor) × ((layout_of e).divisor ≤ 190)
divisor_small e = by_shape (λ y low high n floor. (0 < y.divisor) × (y.divisor ≤ 190))
    (omega arith, omega arith) (omega arith, omega arith) (omega arith, omega arith) (omega arith, omega arith) (omega arith, omega arith)
    (omega arith, omega arith) e
