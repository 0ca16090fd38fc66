use Rattle.std.proofs.Common.{arith}
use Rattle.program_text.proofs.Texts.{same}
use Rattle.program_text.proofs.Utf8Texts.{one, two, three, four}
use Rattle.program_text.proofs.utf8.put_one.Goals as goal

pub returns-in-0-to-127 : goal.returns-in-0-to-127
returns-in-0-to-127 c = same (one c.args.c (omega arith)) c.put_bytes.ensures

pub returns-in-128-to-2047 : goal.returns-in-128-to-2047
returns-in-128-to-2047 c = same (two c.args.c (omega arith) (omega arith) _ c.low.ensures) c.put_bytes-in-128-to-2047.ensures

pub returns-in-2048-to-65535 : goal.returns-in-2048-to-65535
returns-in-2048-to-65535 c =
    same (three c.args.c (omega arith) (omega arith) _ _ c.low-in-2048-to-65535.ensures c.low-in-2048-to-65535-2.ensures)
    c.put_bytes-in-2048-to-65535.ensures

pub returns-in-65536-to-1114111 : goal.returns-in-65536-to-1114111
returns-in-65536-to-1114111 c =
    same (four c.args.c (omega arith) (omega arith) _ _ _ c.low-in-65536-to-1114111.ensures c.low-in-65536-to-1114111-2.ensures
    c.low-in-65536-to-1114111-3.ensures)
    c.put_bytes-in-65536-to-1114111.ensures
