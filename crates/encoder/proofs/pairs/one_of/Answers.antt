-- `one_of`: ASCII, and the others. Assumes nothing.
use mathlib.Core.Path.{◌∙◌}
use Rattle.encoder.proofs.Filling.{pair_80}
use Rattle.encoder.proofs.pairs.one_of.Goals as goal

pub returns-then-c-lt128 : goal.returns-then-c-lt128
returns-then-c-lt128 c = c.ascii.ensures ∙ pair_80 _ _ _ _ c.if-c-lt128.true
