use Prim.Native.Nat.{ℕ}
use Rattle.pair_runs.specs.Layout.{stepped, Holds}
use Rattle.pair_runs.proofs.layout.lay.Given as goal

-- The invariant: the first k cells from the place on hold their steps, and the other cells what they held.
abbrev pub invariant-loop-k : goal.invariant-loop-k
invariant-loop-k l = (f : ℕ → ℕ) → Holds l.initial.layout f → Holds l.layout (stepped l.at l.k l.first l.step f)
