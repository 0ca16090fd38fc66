-- `slots::fill_rows`. The loop's invariant: the cells of the first rows are in their slots. Assumes nothing.
use mathlib.Core.Path.{◌≡◌}
use Prim.Native.Nat.{◌*◌}
use lib.ListN.{length}
use Rattle.pair_writers.specs.Pairs.{Filled}
use Rattle.pair_writers.proofs.slots.fill_rows.Given as goal

abbrev pub invariant-loop-row : goal.invariant-loop-row
invariant-loop-row l = (length l.slots ≡ 0x10000) ×
    (Filled l.rows.encoding l.rows.table.now 0 l.initial.slots → Filled l.rows.encoding l.rows.table.now (l.row * l.rows.width) l.slots)
