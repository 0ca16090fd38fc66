use mathlib.Core.Path.{◌∙◌}
use Rattle.replacements.proofs.Scan.{any_is}
use Rattle.replacements.proofs.has_replacement.Goals as goal

pub returns : goal.returns
returns c = c.contains.ensures.value ∙ any_is c.args.scalars.now
