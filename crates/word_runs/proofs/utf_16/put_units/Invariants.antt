use mathlib.Core.Path.{◌≡◌}
use Prim.Native.Nat.{ℕ}
use lib.ListN.{length, get_or}
use Rattle.word_runs.specs.Units.{values, oriented}
use Rattle.runs.specs.Run.{patch}
use Rattle.word_runs.proofs.utf_16.put_units.Given as goal

-- The invariant: the first k units are written.
abbrev pub invariant-loop-k : goal.invariant-loop-k
invariant-loop-k l = (length l.room ≡ length l.initial.room) × (l.room ≡ patch l.o (values (λ (j : ℕ). oriented l.be (get_or l.words j 0)) l.k) l.initial.room)
