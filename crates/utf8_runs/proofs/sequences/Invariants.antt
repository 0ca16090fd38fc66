use Prim.Native.Nat.{◌-◌, ◌*◌, ◌<◌}
use lib.ListN.{length}
use Rattle.standard.specs.Encodings.{UTF-8, no_tables}
use Rattle.standard.specs.Sequence.{plain}
use Rattle.runs.proofs.Running.{Going}
use Rattle.utf8_runs.proofs.sequences.Given as goal

-- The invariant: a run has come from the start to this place, and the room's length in bytes is a number of 64 bits.
-- The bytes that are left fall at each turn, by the width of what was read.
abbrev pub invariant-loop-i : goal.invariant-loop-i
invariant-loop-i l = (Going no_tables UTF-8 l.mode l.chunk l.from l.i plain plain l.place l.o l.initial.room l.room) × (length l.initial.room * 4 < 18446744073709551616)

abbrev pub decreases-loop-i : goal.decreases-loop-i
decreases-loop-i l = length l.chunk - l.i
