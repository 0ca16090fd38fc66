-- `room::put`: the bytes are copied into their part of the room. Assumes nothing.
use Prim.Native.Nat.{◌+◌, ◌-◌}
use mathlib.Core.Path.{◌≡◌, sym, ap, ◌∙◌}
use lib.ListN.{length, drop, length-drop}
use lib.Seq.{length-take-le}
use native.Mathlib.Omega.{arith}
use Rattle.encoder.proofs.Rooms.{copied}
use Rattle.encoder.proofs.room.put.Goals as goal

pub returns : goal.returns
returns g c =
    let a = c.args in
    let k = g.row.N in
    let part : a.at + k - a.at ≡ k = omega arith in
    let filled = c.copy_from_slice.ensures in
    let long : length a.bytes ≡ k =
    omega (arith, ap length filled.after, filled.len, length-take-le (a.at + k - a.at) (drop a.at a.room.now) (omega (arith, length-drop a.at a.room.now)), part) in
    (ap (λ n. a.at + n) (sym long), copied a.room.now a.bytes _ a.at (a.at + k - a.at) (omega arith) filled.after (long ∙ sym part))
