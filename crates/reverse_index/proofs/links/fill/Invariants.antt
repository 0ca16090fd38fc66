-- `fill`. The loop's invariant: the index has the pointers from p on (`Chained`).
-- What falls: p. Assumes nothing.
use Rattle.reverse_index.proofs.Chains.{Chained}
use lib.ListN.{length}
use Prim.Native.Nat.{◌≤◌}
use Rattle.reverse_index.proofs.links.fill.Given as goal

abbrev pub invariant-loop-p : goal.invariant-loop-p
invariant-loop-p l = (l.p ≤ length l.table) × Chained l.table l.p l.index
