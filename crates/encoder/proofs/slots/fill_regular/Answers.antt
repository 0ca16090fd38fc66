use Rattle.encoder.proofs.Filling.{regular_on}
use lib.ListN.{length-set}
use native.Mathlib.Omega.{arith}
use Rattle.encoder.proofs.slots.fill_regular.Goals as goal

pub loop-c-preserved : goal.loop-c-preserved
loop-c-preserved c =
    let inv = c.loop-c.invariant in
    (simp length-set inv.0, regular_on _ c.loop-c.c inv.0 (omega arith) c.loop-c-test.true inv.1)
