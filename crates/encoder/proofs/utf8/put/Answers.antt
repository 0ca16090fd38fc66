-- `utf8::put`: one to four bytes, by the tests of the scalar. Assumes nothing.
use native.Mathlib.Omega.{arith}
use Rattle.encoder.proofs.Rooms.{same_list}
use Rattle.encoder.proofs.Scalars.{utf8_two_lem, utf8_three_lem, utf8_four_lem, utf8_two-length, utf8_three-length, utf8_four-length}
use Rattle.encoder.proofs.utf8.put.Goals as goal

pub put-requires-then-c-le2047 : goal.put-requires-then-c-le2047
put-requires-then-c-le2047 c =
    (omega arith, omega (arith, utf8_two-length c.args.c c.if-c-lt128.false c.if-c-le2047.true, c.requires.0))

pub returns-then-c-le2047 : goal.returns-then-c-le2047
returns-then-c-le2047 c =
    same_list _ c.args.at (utf8_two_lem c.args.c c.if-c-lt128.false c.if-c-le2047.true _ c.low-last.ensures) c.put-then-c-le2047.ensures

pub put-requires-then-c-le65535 : goal.put-requires-then-c-le65535
put-requires-then-c-le65535 c =
    (omega arith, omega (arith, utf8_three-length c.args.c c.if-c-le2047.false c.if-c-le65535.true, c.requires.0))

pub returns-then-c-le65535 : goal.returns-then-c-le65535
returns-then-c-le65535 c =
    same_list _ c.args.at (utf8_three_lem c.args.c c.if-c-le2047.false c.if-c-le65535.true _ _ c.low-third.ensures c.low-last.ensures)
    c.put-then-c-le65535.ensures

pub put-requires-2 : goal.put-requires-2
put-requires-2 c =
    (omega arith, omega (arith, utf8_four-length c.args.c c.if-c-le65535.false, c.requires.0))

pub returns : goal.returns
returns c =
    same_list _ c.args.at (utf8_four_lem c.args.c c.if-c-le65535.false _ _ _ c.low.ensures c.low-third.ensures c.low-last.ensures) c.put-2.ensures
