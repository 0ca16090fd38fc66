-- Rows and columns of an index by the bytes of a pair, with a number for none, and the bytes of a pointer. Contracts of functions inside
-- the library cite this. Assumes nothing.
use Rattle.std.specs.Prelude.{◌≡◌, ℕ, ◌*◌, leb, eqb}
use Rattle.standard.specs.Base.{◌then◌else◌}
use Rattle.standard.specs.Layouts.{Offset, number, ranges, Layout, lead_of, trail_of}
use Rattle.standard.specs.Layouts.{gb18030_layout, big5_layout, euc_jp_layout, iso2022_jp_layout, shift_jis_layout, euc_kr_layout}
use Rattle.layouts.specs.declared.Pair.{Pair}

-- no row or no column: past the end of every table
abbrev pub no_cell : ℕ
no_cell = 32768

-- where a byte of n numbers stands, `step` cells for each number
unfoldable pub place : Offset → ℕ → ℕ → ℕ → ℕ
place o n step b = ranges o n b then number o b * step else no_cell

abbrev pub row : Layout → ℕ → ℕ
row y b = place y.lead y.rows y.divisor b

abbrev pub column : Layout → ℕ → ℕ
column y c = place y.trail y.divisor 1 c

-- the layout of an encoding number, of those that have pairs
unfoldable pub layout_of : ℕ → Layout
layout_of e =
    leb e 30 then gb18030_layout else
    eqb e 31 then big5_layout else
    eqb e 32 then euc_jp_layout else
    eqb e 33 then iso2022_jp_layout else
    eqb e 34 then shift_jis_layout else
    euc_kr_layout

-- the cells of all rows
abbrev pub cells : Layout → ℕ
cells y = y.rows * y.divisor

-- A pair is the two bytes of a pointer.
pub record TheBytes (y : Layout) (p : ℕ) (r : Pair) : Type 0 where
  pub lead : r.lead ≡ lead_of y p
  pub trail : r.trail ≡ trail_of y p
