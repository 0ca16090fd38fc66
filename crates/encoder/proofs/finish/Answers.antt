-- `finish`: 5, 7, or a return to ASCII. Assumes nothing.
use Rattle.encoder.proofs.Calls.{finish_5, finish_7, finish_writes}
use native.Mathlib.Omega.{arith}
use Rattle.encoder.proofs.finish.Goals as goal

pub returns-then-state-gt2 : goal.returns-then-state-gt2
returns-then-state-gt2 c = rw c.refused.ensures (finish_5 _ _ c.if-state-gt2.true)

pub returns-then-room-size : goal.returns-then-room-size
returns-then-room-size c = rw c.refused-then-room-size.ensures (finish_7 _ _ c.if-state-gt2.false (omega (arith, c.if-room-size.true, c.size.ensures.0)))

pub put-written-requires : goal.put-written-requires
put-written-requires c = omega (arith, c.if-room-size.false, c.size.ensures.0)

pub returns : goal.returns
returns c =
    finish_writes _ _ c.if-state-gt2.false (omega (arith, c.if-room-size.false, c.size.ensures.0)) _ _
    c.put-written.ensures.0 c.put-written.ensures.1
