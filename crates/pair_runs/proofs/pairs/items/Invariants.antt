use mathlib.Core.Path.{◌≡◌}
use Prim.Native.Nat.{◌-◌, ◌*◌, ◌<◌}
use lib.ListN.{length}
use Rattle.standard.specs.Encodings.{family, lent}
use Rattle.standard.specs.Sequence.{plain}
use Rattle.runs.proofs.Running.{Going}
use Rattle.pair_runs.proofs.pairs.items.Given as goal

-- The invariant: a run has come from the start to this place, `last` is as long as at the start, and the room's length in bytes is
-- a number of 64 bits.
-- The bytes that are left fall at each turn, by the width of what was read.
abbrev pub invariant-loop-i : goal.invariant-loop-i
invariant-loop-i g l = (Going (lent l.t1 l.t2) (family l.encoding) l.mode l.chunk l.from l.i plain plain l.place l.o l.initial.room l.room) × (length l.last ≡ g.row.N) × (length l.initial.room * 4 < 18446744073709551616)

abbrev pub decreases-loop-i : goal.decreases-loop-i
decreases-loop-i g l = length l.chunk - l.i
