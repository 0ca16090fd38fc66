-- `windows_1252`: A0 to FF stand for themselves, the others are searched for among the irregular cells. Assumes nothing.
use mathlib.Core.Path.{◌∙◌}
use Rattle.encoder.proofs.Scalars.{windows_low, windows_self, windows_high}
use Rattle.standard.specs.Indexes.{irregular}
use Rattle.encoder.proofs.single_byte.windows_1252.Goals as goal

pub returns-then-c-lt160 : goal.returns-then-c-lt160
unfolding irregular
returns-then-c-lt160 c = c.searched.ensures ∙ windows_low c.args.c c.if-c-lt160.true

pub returns-then-c-le255 : goal.returns-then-c-le255
returns-then-c-le255 c = windows_self c.args.c c.if-c-lt160.false c.if-c-le255.true

pub returns : goal.returns
unfolding irregular
returns c = c.searched-2.ensures ∙ windows_high c.args.c c.if-c-le255.false
