-- The group at the label's length, searched. Assumes nothing.
use Rattle.std.proofs.Common.{◌∙◌}
use Rattle.labels.proofs.LookUp.{group_none, group_some}
use Rattle.labels.proofs.look_up.Goals as goal

pub returns-in_err-get : goal.returns-in_err-get
returns-in_err-get c = c.from_residual.ensures ∙ group_none c.args.label.now c.args.groups.now _ c.get.ensures.lookup c.in_err-get.was

pub returns : goal.returns
returns c = c.seek.ensures ∙ group_some c.args.label.now c.args.groups.now _ c.get.ensures.lookup _ c.in_ok-get.was
