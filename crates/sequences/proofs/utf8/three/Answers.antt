use mathlib.Core.Path.{sym, ◌∙◌}
use Rattle.standard.proofs.Tests.{within_low}
use Rattle.sequences.proofs.Utf8Leaves.{Right, right, three_short, three_wrong, three_good, second_least}
use native.Mathlib.Omega.{arith}
use Rattle.sequences.proofs.utf8.three.Goals as goal
use Rattle.sequences.proofs.utf8.three.Goals.{In-Right}

-- the three bytes
whole : (c : In-Right) → Right c.args.have c.args.b0 c.args.b1 c.args.b2
whole c = right _ _ _ _ (sym c.begun.ensures ∙ c.in-Right.is)

pub overflow_sub-b1 : goal.overflow_sub-b1
overflow_sub-b1 c =
    let a = c.args in
    omega (arith, second_least a.b0 a.b1 (whole (goal.at.overflow_sub-b1 c).In-Right).second)

pub overflow_sub-b2 : goal.overflow_sub-b2
overflow_sub-b2 c =
    let a = c.args in
    omega (arith, within_low 0x80 a.b2 0xBF (whole (goal.at.overflow_sub-b2 c).In-Right).third)

pub returns-in-Short : goal.returns-in-Short
returns-in-Short c =
    let a = c.args in
    λ xs. sym (three_short a.have a.b0 a.b1 a.b2 xs (sym c.begun.ensures ∙ c.in-Short.is))

pub returns-in-Wrong : goal.returns-in-Wrong
returns-in-Wrong c =
    let a = c.args in
    λ xs. c.wrong.ensures ∙ sym (three_wrong a.have a.b0 a.b1 a.b2 xs c.in-Wrong.width (sym c.begun.ensures ∙ c.in-Wrong.is))

pub returns-in-Right : goal.returns-in-Right
returns-in-Right c =
    let a = c.args in
    λ xs. c.gives.ensures ∙ sym (three_good a.have a.b0 a.b1 a.b2 (whole (goal.at.returns-in-Right c).In-Right) xs)
