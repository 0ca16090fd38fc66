use mathlib.Core.Path.{◌≡◌}
use Prim.Native.Nat.{ℕ, ◌*◌}
use lib.ListN.{length, get_or}
use Rattle.word_runs.specs.Bytes.{byte_of}
use Rattle.word_runs.specs.Units.{values}
use Rattle.runs.specs.Run.{patch}
use Rattle.word_runs.proofs.single_byte.put_words.Given as goal

-- The invariant: the scalars of the first t times sixteen words are written.
abbrev pub invariant-loop-t : goal.invariant-loop-t
invariant-loop-t l = (length l.room ≡ length l.initial.room) × (l.room ≡ patch l.o (values (λ (k : ℕ). get_or l.table (byte_of l.words k) 0) (l.t * 32)) l.initial.room)
