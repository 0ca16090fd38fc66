-- The rows and columns of the pairs that a run reads, by encoding number. Contracts of functions inside the library cite this. Assumes nothing.
use Rattle.std.specs.Prelude.{◌≡◌, Bool, false, ◌&&◌, List, ℕ, ◌+◌, ◌-◌, ◌*◌, ◌<◌, ltb, leb, eqb, length, get_or}
use Rattle.standard.specs.Base.{◌then◌else◌, within}
use Rattle.layouts.specs.Rows.{no_cell, layout_of}
use Rattle.layouts.specs.Rows.{row as row_in, column as column_in}

-- Leads that have no row: in Big5 88, which has pairs of two scalars; in Shift_JIS those of the user rows, which are not in the index.
unfoldable pub left_out : ℕ → ℕ → Bool
left_out encoding b = eqb encoding 31 then eqb b 0x88 else eqb encoding 34 then within 0xF0 b 0xF9 else false

unfoldable pub row : ℕ → ℕ → ℕ
row encoding b = left_out encoding b then no_cell else row_in (layout_of encoding) b

unfoldable pub column : ℕ → ℕ → ℕ
column encoding c = column_in (layout_of encoding) c

-- n cells from a place on hold steps from a number on, and the others what they held
unfoldable pub stepped : ℕ → ℕ → ℕ → ℕ → (ℕ → ℕ) → ℕ → ℕ
stepped at n first step f j = leb at j && ltb j (at + n) then (first + (j - at)) * step else f j

-- a table of 512 cells, by a function
pub record Holds (table : List ℕ) (f : ℕ → ℕ) : Type 0 where
  pub size : length table ≡ 512
  pub cells : (j : ℕ) → j < 512 → get_or table j 0 ≡ f j

-- a table of all rows, and after them all columns
pub record Laid (encoding : ℕ) (layout : List ℕ) : Type 0 where
  pub size : length layout ≡ 512
  pub rows : (b : ℕ) → b < 256 → get_or layout b 0 ≡ row encoding b
  pub columns : (c : ℕ) → c < 256 → get_or layout (256 + c) 0 ≡ column encoding c
