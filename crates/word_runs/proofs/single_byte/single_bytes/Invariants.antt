use Prim.Native.Nat.{◌+◌, ◌-◌, ◌≤◌}
use lib.ListN.{length}
use Rattle.standard.specs.Encodings.{lent, single-byte}
use Rattle.standard.specs.Sequence.{plain}
use Rattle.runs.proofs.Running.{Going}
use Rattle.word_runs.proofs.single_byte.single_bytes.Given as goal

-- The invariant: a run has come from the start over k bytes.
abbrev pub invariant-loop-k : goal.invariant-loop-k
invariant-loop-k l =
    (Going (lent l.t1 l.t2) single-byte l.mode l.chunk l.from (l.from + l.k) plain plain l.place (l.place + l.k) l.initial.room l.room) × (l.k ≤ length l.chunk - l.from)
