use Prim.Native.Nat.{◌-◌}
use lib.ListN.{length}
use Rattle.standard.specs.Encodings.{lent, ISO-2022-JP}
use Rattle.runs.specs.Run.{shift_at}
use Rattle.runs.proofs.Running.{Going}
use Rattle.iso_2022_jp_runs.proofs.sequences.Given as goal

-- The invariant: a run has come from the start to this place and this shift.
-- The bytes that are left fall at each turn, by the width of the sequence that ends it.
abbrev pub invariant-loop-state : goal.invariant-loop-state
invariant-loop-state l = Going (lent l.t1 l.t2) ISO-2022-JP l.mode l.chunk l.initial.p.at l.p.at (shift_at l.initial.p) (shift_at l.p) l.initial.p.written l.p.written l.initial.room l.room

abbrev pub decreases-loop-state : goal.decreases-loop-state
decreases-loop-state l = length l.chunk - l.p.at
