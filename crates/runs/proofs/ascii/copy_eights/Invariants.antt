use Prim.Native.Nat.{◌*◌}
use Rattle.runs.proofs.Stretches.{Copying}
use Rattle.runs.proofs.ascii.copy_eights.Given as goal

-- The invariant: j times eight bytes below 80 are copied.
abbrev pub invariant-loop-j : goal.invariant-loop-j
invariant-loop-j l = Copying l.chunk l.from l.place (l.j * 8) l.initial.room l.room
