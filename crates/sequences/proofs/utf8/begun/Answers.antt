use mathlib.Core.Path.{sym, ◌∙◌}
use Rattle.standard.proofs.Tests.{fails, holds}
use Rattle.sequences.proofs.Utf8Leaves.{begun_first, begun_second, begun_wait, begun_third, begun_right, second_range}
use native.Mathlib.Omega.{arith}
use Rattle.std.proofs.lemmas.Bool.{not_from_true, not_from_false}
use Rattle.sequences.proofs.utf8.begun.Goals as goal

pub returns-then-have-lt2 : goal.returns-then-have-lt2
returns-then-have-lt2 c =
    let args = c.args in
    sym (begun_first args.have args.b0 args.b1 args.b2 (omega arith))

pub returns-then-not-within : goal.returns-then-not-within
returns-then-not-within c =
    let args = c.args in
    sym (begun_second args.have args.b0 args.b1 args.b2 (omega arith) (fails (second_range c.low.result c.high.result args.b0 args.b1 c.low.ensures c.high.ensures c.within.ensures) (not_from_false _ c.if-not-within.true)))

pub returns-then-have-lt3 : goal.returns-then-have-lt3
returns-then-have-lt3 c =
    let args = c.args in
    sym (begun_wait args.have args.b0 args.b1 args.b2 (omega arith) (holds (second_range c.low.result c.high.result args.b0 args.b1 c.low.ensures c.high.ensures c.within.ensures) (not_from_true _ c.if-not-within.false)) (omega arith))

pub returns-then-within : goal.returns-then-within
returns-then-within c =
    let args = c.args in
    sym (begun_right args.have args.b0 args.b1 args.b2 (omega arith) (holds (second_range c.low.result c.high.result args.b0 args.b1 c.low.ensures c.high.ensures c.within.ensures) (not_from_true _ c.if-not-within.false)) (omega arith)
    (sym c.within-2.ensures ∙ c.if-within.true))

pub returns : goal.returns
returns c =
    let args = c.args in
    sym (begun_third args.have args.b0 args.b1 args.b2 (omega arith) (holds (second_range c.low.result c.high.result args.b0 args.b1 c.low.ensures c.high.ensures c.within.ensures) (not_from_true _ c.if-not-within.false)) (omega arith)
    (sym c.within-2.ensures ∙ c.if-within.false))
