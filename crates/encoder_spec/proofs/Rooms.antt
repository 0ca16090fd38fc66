-- Calls keep their room. Assumes nothing.
use mathlib.Core.Path.{◌≡◌, refl}
use mathlib.Core.Bool.{Bool, true, not}
use mathlib.Core.List.{List, ◌++◌}
use mathlib.Core.Option.{Option, some, none}
use Prim.Native.Nat.{ℕ, ◌≤◌}
use native.Mathlib.Omega.{arith}
use lib.Dec.{ltb}
use lib.ListN.{length, drop, length-append, length-drop}
use lib.Seq.{drop-append_seam}
use borrow.Author.Tests.{ltb-false}
use Rattle.standard.specs.Base.{scalars}
use Rattle.standard.specs.Encodings.{Tables}
use Rattle.standard.specs.Search.{Lookup, searching}
use Rattle.standard.specs.Writers.{Writer, writer_of, writer_fits}
use Rattle.standard.specs.Ones.{finish_bytes}
use Rattle.standard.proofs.Tests.{choose}
use Rattle.encoder_spec.specs.Writing.{Fault, Writing, writing}
use Rattle.encoder_spec.specs.Writer.{refuse, answer_of, write, one_by, write_by, call_by, writer_call, writer_finish}
use Rattle.encoder_spec.specs.Statements.{Kept, RoomKept}

-- a refused call leaves the room
left : (n s : ℕ) (room : List ℕ) → Kept room (refuse n s room)
left n s room = record { size = refl; behind = refl }

-- a writing that fits
write_keeps : (w : Writing) (room : List ℕ) → length w.bytes ≤ length room → Kept room (write w room)
write_keeps w room h = record {
  size = omega (arith, length-append w.bytes (drop (length w.bytes) room), length-drop (length w.bytes) room);
  behind = go w.unwritable;
}
  where
    after : List ℕ
    after = w.bytes ++ drop (length w.bytes) room

    go : (u : Option Fault) → let n = (answer_of (length w.bytes) w.state u).written in drop n after ≡ drop n room
    go none = drop-append_seam w.bytes (drop (length w.bytes) room)
    go (some f) = drop-append_seam w.bytes (drop (length w.bytes) room)

-- each answer of the call
writing_keeps : (look : Lookup) (right : Bool) (e m s : ℕ) (t : Tables) (cs room : List ℕ) → Kept room (call_by look right e m s t cs room)
unfolding call_by
writing_keeps look right e m s t cs room =
    choose (Kept room) (ltb 39 e) (λ _. left 2 s room) (λ _.
    choose (Kept room) (ltb 1 m) (λ _. left 3 s room) (λ _.
    choose (Kept room) (ltb 2 s) (λ _. left 5 s room) (λ _. go (writer_of e))))
  where
    go : (o : Option Writer) → Kept room (write_by look right o m s t cs room)
    go none = left 9 s room
    go (some w) =
        choose (Kept room) (writer_fits w t) (λ _.
        choose (Kept room) right (λ _.
        choose (Kept room) (ltb 16384 (length cs)) (λ _. left 8 s room) (λ _.
        choose (Kept room) (not (scalars cs)) (λ _. left 10 s room) (λ _.
        choose (Kept room) (ltb (length room) (length (writing (one_by w look t) m s cs).bytes)) (λ _. left 7 s room) (λ h.
        write_keeps (writing (one_by w look t) m s cs) room (ltb-false (length room) (length (writing (one_by w look t) m s cs).bytes) h)))))
        (λ _. left 15 s room))
        (λ _. left 4 s room)

finish_keeps : (s : ℕ) (room : List ℕ) → Kept room (writer_finish s room)
unfolding writer_finish
finish_keeps s room =
    choose (Kept room) (ltb 2 s) (λ _. left 5 s room) (λ _.
    choose (Kept room) (ltb (length room) (length (finish_bytes s))) (λ _. left 7 s room) (λ h.
    write_keeps (record { bytes = finish_bytes s; state = 0; unwritable = none }) room (ltb-false (length room) (length (finish_bytes s)) h)))

pub room_kept : RoomKept
unfolding writer_call
room_kept = record {
  by_writing = λ e m s t cs room. writing_keeps (searching t.first) true e m s t cs room;
  by_look_up = writing_keeps;
  by_finish = finish_keeps;
}
