use mathlib.Core.Path.{◌≡◌}
use Prim.Native.Nat.{ℕ, ◌<◌}
use lib.ListN.{get_or}
use Rattle.word_runs.specs.Units.{NoSurrogate, oriented}
use Rattle.word_runs.proofs.utf_16.all_clear.Given as goal

-- The invariant: where x is 0, none of the units so far is a surrogate.
abbrev pub invariant-loop-word : goal.invariant-loop-word
invariant-loop-word l = l.x ≡ 0 → (j : ℕ) → j < l.word-index → NoSurrogate (oriented l.be (get_or l.words j 0))
