use mathlib.Core.Path.{◌≡◌}
use Prim.Native.Nat.{◌-◌, ◌≤◌, ◌<◌}
use lib.ListN.{length}
use Rattle.std.specs.Slice.Iter.{chunks_rest, chunks_size}
use Rattle.standard.specs.Encodings.{lent}
use Rattle.clean.specs.Checking.{checking}
use Rattle.clean.proofs.Walking.{Walked}
use Rattle.clean.proofs.walk.Given as goal

-- What was fed so far was not reported, and the answer is that of the rest, which is cut to fit the room.
abbrev pub invariant-loop-part : goal.invariant-loop-part
invariant-loop-part l =
    (length (chunks_rest l.part-iterator) ≤ 65536) × (length l.room ≡ length l.initial.room) × (3 < length l.initial.room) ×
    (chunks_size l.part-iterator ≡ length l.initial.room - 3) ×
    Walked (lent l.t1 l.t2) (checking l.encoding (lent l.t1 l.t2) l.bytes) (chunks_rest l.part-iterator) l.decoder
