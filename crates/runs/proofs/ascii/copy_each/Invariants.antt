use Prim.Native.Nat.{◌-◌, ◌≤◌}
use lib.ListN.{length}
use Rattle.runs.proofs.Stretches.{Copying}
use Rattle.runs.proofs.ascii.copy_each.Given as goal

-- The invariant: k bytes below 80 are copied, of those that are left.
abbrev pub invariant-loop-k : goal.invariant-loop-k
invariant-loop-k l = (Copying l.chunk l.at l.o l.k l.initial.room l.room) × (l.k ≤ length l.chunk - l.at)
