use mathlib.Core.Path.{◌≡◌}
use Prim.Native.Nat.{ℕ}
use lib.ListN.{length, get_or}
use Rattle.word_runs.specs.Bytes.{Through}
use Rattle.word_runs.proofs.single_byte.put_bytes.Given as goal

-- The invariant: k bytes are written through the table.
abbrev pub invariant-loop-k : goal.invariant-loop-k
invariant-loop-k l = (length l.room ≡ length l.initial.room) × Through (λ (b : ℕ). get_or l.table b 0) l.chunk l.from l.k l.place l.initial.room l.room
