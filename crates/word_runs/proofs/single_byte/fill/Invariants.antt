use mathlib.Core.Path.{◌≡◌}
use Prim.Native.Nat.{ℕ}
use lib.ListN.{get_or}
use Rattle.standard.specs.Base.{◌then◌else◌, mapped}
use Rattle.word_runs.specs.Bytes.{unmapped}
use Rattle.word_runs.proofs.ByteRuns.{Replaced}
use Rattle.word_runs.proofs.single_byte.fill.Given as goal

-- The invariant: the table has the places of its cells, but for the scalars of the first k bytes from 80 on.
abbrev pub invariant-loop-k : goal.invariant-loop-k
invariant-loop-k l = (l.other ≡ unmapped l.mode) × Replaced (λ (j : ℕ). mapped (get_or l.cells j 0) then get_or l.cells j 0 else unmapped l.mode) l.k l.table
