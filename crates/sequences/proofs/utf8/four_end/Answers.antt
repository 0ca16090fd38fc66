use mathlib.Core.Path.{sym, ◌∙◌}
use Rattle.standard.proofs.Tests.{fails, holds, within_low}
use Rattle.sequences.proofs.Utf8Leaves.{Right, right, four_wait, four_bad, four_good, second_least}
use native.Mathlib.Omega.{arith}
use Rattle.std.proofs.lemmas.Bool.{not_from_true, not_from_false}
use Rattle.sequences.proofs.utf8.four_end.Goals as goal
use Rattle.sequences.proofs.utf8.four_end.Goals.{Start}

-- the three bytes before it
before : (c : Start) → Right c.args.have c.args.b0 c.args.b1 c.args.b2
before c = right _ _ _ _ c.requires.1

pub returns-then-have-lt4 : goal.returns-then-have-lt4
returns-then-have-lt4 c =
    let a = c.args in
    λ xs. sym (four_wait a.have a.b0 a.b1 a.b2 (before (goal.at.returns-then-have-lt4 c).Start) xs a.b3 (omega arith))

pub returns-then-not-within : goal.returns-then-not-within
returns-then-not-within c =
    let a = c.args in
    λ xs. c.wrong.ensures ∙ sym (four_bad a.have a.b0 a.b1 a.b2 (before (goal.at.returns-then-not-within c).Start) xs a.b3 (omega arith) (fails c.within.ensures (not_from_false _ c.if-not-within.true)))

pub overflow_sub-b1 : goal.overflow_sub-b1
overflow_sub-b1 c =
    let a = c.args in
    omega (arith, second_least a.b0 a.b1 (before (goal.at.overflow_sub-b1 c).Start).second)

pub overflow_sub-b2 : goal.overflow_sub-b2
overflow_sub-b2 c =
    let a = c.args in
    omega (arith, within_low 0x80 a.b2 0xBF (before (goal.at.overflow_sub-b2 c).Start).third)

pub overflow_sub-b3 : goal.overflow_sub-b3
overflow_sub-b3 c =
    let a = c.args in
    omega (arith, within_low 0x80 a.b3 0xBF (holds c.within.ensures (not_from_true _ c.if-not-within.false)))

pub returns : goal.returns
returns c =
    let a = c.args in
    λ xs. c.gives.ensures ∙ sym (four_good a.have a.b0 a.b1 a.b2 (before (goal.at.returns c).Start) xs a.b3 (omega arith) (holds c.within.ensures (not_from_true _ c.if-not-within.false)))
