use Rattle.standard.proofs.Families.{by_33}
use mathlib.Core.Path.{sym, ap, ◌∙◌}
use lib.Dec.{eqb}
use Rattle.standard.specs.Sequence.{shift}
use Rattle.sequences.specs.Code.{next_of}
use Rattle.reading.proofs.Ends.{last_more, last_error, last_one}
use Rattle.reading.proofs.finish.last_scalar.Goals as goal

pub returns-in_default : goal.returns-in_default
returns-in_default c =
    let a = c.args in
    last_more _ (shift a.state (eqb a.flag 1)) a.b (ap next_of (sym c.in_default.is) ∙ c.next.ensures ∙ by_33 _ _ _)

pub returns-in-One : goal.returns-in-One
returns-in-One c =
    let a = c.args in
    last_one _ (shift a.state (eqb a.flag 1)) a.b c.in-Some.q (ap next_of (sym c.in-Some.is) ∙ c.next.ensures ∙ by_33 _ _ _) c.in-One.c c.in-One.is

pub returns-in_default-out : goal.returns-in_default-out
returns-in_default-out c =
    let a = c.args in
    last_error _ (shift a.state (eqb a.flag 1)) a.b c.in-Some.q (ap next_of (sym c.in-Some.is) ∙ c.next.ensures ∙ by_33 _ _ _) c.in_default-out.not-One
