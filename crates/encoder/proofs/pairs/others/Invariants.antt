-- `others`. The loop's invariant: at most one for each number before this one has been counted. Assumes nothing.
use Prim.Native.Nat.{◌≤◌}
use Rattle.encoder.proofs.pairs.others.Given as goal

abbrev pub invariant-loop-c : goal.invariant-loop-c
invariant-loop-c l = l.n ≤ l.c-index
