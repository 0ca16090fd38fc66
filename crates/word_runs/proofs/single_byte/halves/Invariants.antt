use mathlib.Core.Path.{◌≡◌}
use Prim.Native.Nat.{ℕ, ◌*◌, ◌<◌}
use lib.ListN.{length, get_or}
use Rattle.word_runs.proofs.single_byte.halves.Given as goal

-- The invariant: the first b cells stand in the upper half.
abbrev pub invariant-loop-b : goal.invariant-loop-b
invariant-loop-b l = (length l.high ≡ 256) × ((j : ℕ) → j < l.b → get_or l.high j 0 ≡ get_or l.table j 0 * 4294967296)
