-- `search`. The loop's invariant: the pairs from `low` on, `count` of them, are among the ranges, and the one that decides is among these.
-- What falls at each turn, by half, is `count`. Assumes nothing.
use Prim.Native.Nat.{◌+◌, ◌/◌, ◌≤◌}
use lib.ListN.{length}
use Rattle.layouts.specs.Ranges.{Ascending}
use Rattle.layouts.proofs.RangeOrder.{Narrowed}
use Rattle.layouts.proofs.ranges.search.Given as goal

abbrev pub invariant-loop-count : goal.invariant-loop-count
invariant-loop-count l = (l.low + l.count ≤ length l.ranges / 2) × (Ascending l.back l.ranges → 2 ≤ length l.ranges → Narrowed l.back l.ranges l.x l.low l.count)

abbrev pub decreases-loop-count : goal.decreases-loop-count
decreases-loop-count l = l.count
