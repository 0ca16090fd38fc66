-- `slots::fill_row`. The loop's invariant: the cells of the row that have been taken are in their slots. Assumes nothing.
use Prim.Native.Nat.{ℕ, ◌+◌}
use mathlib.Core.Path.{◌≡◌}
use lib.ListN.{length}
use Rattle.pair_writers.specs.Pairs.{Row, Filled}
use Rattle.pair_writers.proofs.slots.fill_row.Given as goal

abbrev pub invariant-loop-c : goal.invariant-loop-c
invariant-loop-c l = (length l.slots ≡ 0x10000) ×
    ((e : ℕ) → Row e l.at l.width l.lead l.trails → Filled e l.table l.at l.initial.slots → Filled e l.table (l.at + length l.yielded) l.slots)
