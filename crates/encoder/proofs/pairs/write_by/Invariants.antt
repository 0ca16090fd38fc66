-- `pairs::write_by`. The loop's invariant: the bytes of the i scalars before this one stand at the front of the room, the rest of the room is
-- as it was, s is the state after them, and the slots are right. What falls at each turn is the number of scalars left. Assumes nothing.
use mathlib.Core.Path.{◌≡◌}
use Prim.Native.Nat.{◌-◌}
use lib.ListN.{length}
use Rattle.reverse_index_spec.specs.ReverseIndex.{look_up}
use Rattle.pair_writers.specs.Pairs.{Ready}
use Rattle.encoder.specs.WriterCode.{pair_of, Running}
use Rattle.encoder.proofs.pairs.write_by.Given as goal

abbrev pub invariant-loop-i : goal.invariant-loop-i
invariant-loop-i l = Running (pair_of l.encoding (look_up l.table l.links) l.second) l.mode l.state l.scalars l.initial.room l.room l.i l.o l.s ×
    Ready l.encoding l.table l.links l.second l.slots × (length l.slots ≡ length l.initial.slots)

abbrev pub decreases-loop-i : goal.decreases-loop-i
decreases-loop-i l = length l.scalars - l.i
