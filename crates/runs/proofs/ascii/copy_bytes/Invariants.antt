use Rattle.runs.proofs.Stretches.{Copying}
use Rattle.runs.proofs.ascii.copy_bytes.Given as goal

-- The invariant: k of the n bytes are copied.
abbrev pub invariant-loop-k : goal.invariant-loop-k
invariant-loop-k l = Copying l.chunk l.from l.place l.k l.initial.room l.room
