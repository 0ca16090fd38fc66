use Prim.Native.Nat.{◌-◌}
use mathlib.Core.List.{List}
use Prim.Native.Nat.{ℕ}
use lib.Dec.{eqb}
use lib.ListN.{length}
use Rattle.standard.specs.Encodings.{lent, ISO-2022-JP}
use Rattle.standard.specs.Sequence.{shift}
use Rattle.runs.specs.Run.{Ready}
use Rattle.runs.proofs.Running.{Going}
use Rattle.iso_2022_jp_runs.proofs.pairs.Given as goal

-- The invariant: a run has come from the start to this place, in the state of lead bytes, whatever the second table.
-- The bytes that are left fall by two at each turn.
abbrev pub invariant-loop-i : goal.invariant-loop-i
invariant-loop-i l = ((second : List ℕ) → Going (lent l.index second) ISO-2022-JP l.mode l.chunk l.from l.i (shift 3 (eqb l.flag 1)) (shift 3 (eqb l.f 1)) l.place l.o l.initial.room l.room) ×
    (Ready l.chunk l.i l.room l.o)

abbrev pub decreases-loop-i : goal.decreases-loop-i
decreases-loop-i l = length l.chunk - l.i
