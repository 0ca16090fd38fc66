use mathlib.Core.Path.{◌≡◌}
use Prim.Native.Nat.{ℕ, ◌<◌}
use lib.ListN.{length, get_or}
use Rattle.word_runs.proofs.single_byte.places.Given as goal

-- The invariant: each of the first b cells is its place.
abbrev pub invariant-loop-b : goal.invariant-loop-b
invariant-loop-b l = (length l.table ≡ 256) × ((j : ℕ) → j < l.b → get_or l.table j 0 ≡ j)
