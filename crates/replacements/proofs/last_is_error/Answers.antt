use mathlib.Core.Path.{sym, ap, ◌∙◌}
use lib.Dec.{eqb}
use Rattle.standard.specs.Sequence.{shift}
use Rattle.standard.proofs.Families.{by_33}
use Rattle.sequences.specs.Code.{next_of}
use Rattle.replacements.proofs.Told.{last_waits, last_item}
use Rattle.replacements.proofs.last_is_error.Goals as goal

pub returns-in-Some : goal.returns-in-Some
returns-in-Some c =
    let a = c.args in
    c.is_error.ensures ∙
    last_item _ (shift a.state (eqb a.flag 1)) a.b c.in-Some.q (ap next_of (sym c.in-Some.is) ∙ c.next.ensures ∙ by_33 _ _ _)

pub returns-in-None : goal.returns-in-None
returns-in-None c =
    let a = c.args in
    last_waits _ (shift a.state (eqb a.flag 1)) a.b (ap next_of (sym c.in-None.is) ∙ c.next.ensures ∙ by_33 _ _ _)
