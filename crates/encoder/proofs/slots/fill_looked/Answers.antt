use Rattle.encoder.proofs.Filling.{looked_start}
use Rattle.encoder.proofs.slots.fill_looked.Goals as goal

pub loop-c-init : goal.loop-c-init
loop-c-init c = looked_start _ _ c.requires.1
