-- `tables_fit`: as for reading, and the katakana cells. Assumes nothing.
use mathlib.Core.Path.{◌∙◌}
use Rattle.encoder.proofs.Calls.{fit_others}
use Rattle.encoder.proofs.refusals.tables_fit.Goals as goal

pub returns-then-encoding-ne33 : goal.returns-then-encoding-ne33
returns-then-encoding-ne33 c = c.tables_fit.ensures ∙ fit_others _ _ _ c.if-encoding-ne33.true
