use mathlib.Core.Path.{refl}
use Rattle.mend.proofs.Wrote.{finish_told, told_left, handed_left, wrote_by}
use Rattle.mend.proofs.mend_end.Goals as goal

pub write_step-requires : goal.write_step-requires
write_step-requires c = told_left c.finish-a.ensures (finish_told _ _ _ _)

pub returns : goal.returns
returns c = record { wrote = wrote_by (handed_left c.finish-a.ensures) refl c.write_step.ensures.wrote; few = c.write_step.ensures.few; sized = c.write_step.ensures.sized }
