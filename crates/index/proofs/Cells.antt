-- The cell at a pointer. Assumes nothing.
use mathlib.Core.Path.{◌≡◌}
use mathlib.Core.Bool.{true, false}
use mathlib.Core.List.{List}
use Prim.Native.Nat.{ℕ, ◌≤◌}
use lib.ListN.{length, get_or, get_or-eq_default}
use Rattle.standard.specs.Base.{mapped}
use Rattle.standard.specs.Sequence.{cell}

pub cell_out : (table : List ℕ) (p : ℕ) → length table ≤ p → cell table p ≡ 0
unfolding cell
cell_out table p h = rw (get_or-eq_default table 0 h)

pub cell_mapped : (table : List ℕ) (p : ℕ) → mapped (get_or table p 0) ≡ true → cell table p ≡ get_or table p 0
unfolding cell
cell_mapped table p h = rw h

pub cell_unmapped : (table : List ℕ) (p : ℕ) → mapped (get_or table p 0) ≡ false → cell table p ≡ 0
unfolding cell
cell_unmapped table p h = rw h
