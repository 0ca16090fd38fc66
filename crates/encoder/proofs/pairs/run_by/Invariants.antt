-- `run_by`. The loop's invariant: a writing that stood at the first scalar has come to the one at the index, with the bytes of those between
-- written. Assumes nothing.
use mathlib.Core.Path.{◌≡◌}
use mathlib.Core.List.{List}
use Prim.Native.Nat.{ℕ, ◌≤◌}
use lib.ListN.{length}
use Rattle.standard.specs.Ones.{One}
use Rattle.encoder_spec.specs.Writing.{writing}
use Rattle.encoder.specs.WriterCode.{Stays, Space, Running}
use Rattle.encoder.proofs.pairs.run_by.Given as goal

abbrev pub invariant-loop-index : goal.invariant-loop-index
invariant-loop-index l = (l.index ≤ length l.scalars) × (l.written ≤ length l.room) × (length l.room ≡ length l.initial.room) ×
    ((one : ℕ → ℕ → One) (mode begin : ℕ) (first : List ℕ) → Stays l.encoding l.state l.slots one →
    Space (writing one mode begin l.scalars) first →
    Running one mode begin l.scalars first l.initial.room l.from l.place l.state →
    Running one mode begin l.scalars first l.room l.index l.written l.state)
