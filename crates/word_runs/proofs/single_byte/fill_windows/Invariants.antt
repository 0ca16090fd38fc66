use Prim.Native.Nat.{ℕ}
use lib.ListN.{get_or}
use Rattle.word_runs.proofs.ByteRuns.{Replaced}
use Rattle.word_runs.proofs.single_byte.fill_windows.Given as goal

-- The invariant: the table has the places of its cells, but for the first k irregular scalars from 80 on.
abbrev pub invariant-loop-k : goal.invariant-loop-k
invariant-loop-k l = Replaced (λ (j : ℕ). get_or l.cells j 0) l.k l.table
