use mathlib.Core.Path.{◌≡◌}
use lib.ListN.{length}
use Rattle.word_runs.specs.Bytes.{windows_scalar, Through}
use Rattle.word_runs.proofs.single_byte.windows_bytes.Given as goal

-- The invariant: the scalars of the first k bytes are written.
abbrev pub invariant-loop-k : goal.invariant-loop-k
invariant-loop-k l = (length l.room ≡ length l.initial.room) × Through windows_scalar l.chunk l.from l.k l.place l.initial.room l.room
