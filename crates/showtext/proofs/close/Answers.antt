use Rattle.showtext.proofs.Buffers.{finished_fits, shown_few, closed_up}
use Prim.Native.Nat.{◌+◌, ◌≤◌}
use lib.ListN.{length}
use Rattle.standard.specs.Text.{bytes}
use native.Mathlib.Omega.{arith}
use mathlib.Core.Path.{◌∙◌}
use Rattle.showtext.proofs.close.Goals as goal
use Rattle.showtext.proofs.close.Goals.{After-show-s}

pub show-s-requires : goal.show-s-requires
show-s-requires c =
    let at-finish = c.finish-last in
    let f = finished_fits c.args.decoder c.args.room.now at-finish.ensures.0 at-finish.ensures.1 in
    (f.1, omega (arith, f.0, c.requires.0), omega (arith, f.0, c.requires.1))

-- the room has space for the last line
abbrev Room : After-show-s → Type 0
Room c = c.show-s.result.length + 25 ≤ length c.show-s.new.out

room_left : (c : After-show-s) → Room c
room_left c =
    let at-finish = c.finish-last in
    let f = finished_fits c.args.decoder c.args.room.now at-finish.ensures.0 at-finish.ensures.1 in
    omega (
      arith,
      f.0,
      c.requires.0,
      c.show-s.ensures.put.behind,
      c.show-s.auto.out,
      shown_few c.args.count at-finish.result.written at-finish.new.room,
    )

pub returns : goal.returns
unfolding bytes
returns c =
    let at-finish = c.finish-last in
    let at_end = c.put_number in
    closed_up c.args.decoder c.args.count c.args.room.now c.args.out.now
    at-finish.ensures.0 at-finish.ensures.1 c.show-s.ensures (at_end.ensures.put (room_left (goal.at.returns c).After-show-s)) (omega (arith, c.requires.0))
    (at_end.auto.out ∙ c.show-s.auto.out)
