use Rattle.encoder.proofs.Filling.{filled_start, filled_on, filled_end}
use Rattle.encoder.proofs.slots.fill_table.Goals as goal

pub loop-p-init : goal.loop-p-init
loop-p-init c = filled_start _ _ c.requires.1

pub loop-p-preserved : goal.loop-p-preserved
loop-p-preserved c =
    filled_on _ _ _ _ c.requires.0 c.loop-p-test.true c.loop-p.invariant c.enter.ensures

pub returns : goal.returns
returns c = filled_end _ _ c.loop-p.p c.loop-p-test.false c.loop-p.invariant
