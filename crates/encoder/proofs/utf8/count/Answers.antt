use native.Mathlib.Omega.{arith}
use lib.ListN.{get_or}
use Rattle.standard.specs.Encoders.Utf8.{utf8_encode}
use Rattle.encoder.specs.WriterCode.{utf8_of}
use Rattle.encoder.proofs.Counting.{counted_start, counted_end, counted_on, here_bytes, told_bytes}
use Rattle.encoder.proofs.Scalars.{utf8_tokens}
use Rattle.encoder.proofs.utf8.count.Goals as goal

pub loop-c-init : goal.loop-c-init
loop-c-init c = (omega arith, counted_start _ _ _ _)

pub loop-c-preserved : goal.loop-c-preserved
loop-c-preserved c =
    let inv = c.loop-c.invariant in
    let size = c.size-n.ensures in
    let here = here_bytes _ _ _ _ _ c.loop-c-test.true (told_bytes utf8_encode _ (utf8_tokens _)) in (
      omega (arith, inv.0, size.1),
      counted_on _ _ _ _ _ _ _ inv.1 0 (utf8_of (get_or c.args.scalars.now c.loop-c.c-index 0)) here _ size.0 (omega (arith, size.1)),
    )

pub returns : goal.returns
returns c = counted_end _ _ _ _ _ _ _ c.loop-c.invariant.1 c.loop-c-test.false
