use mathlib.Core.Path.{sym, ◌∙◌}
use Rattle.standard.specs.Encodings.{lent}
use Rattle.standard.proofs.Tests.{fails, holds}
use Rattle.layouts.specs.Rows.{layout_of}
use Rattle.sequences.proofs.Gb18030Leaves.{gb18030_ascii, gb18030_80, gb18030_bad, gb18030_pair, gb18030_wait, gb18030_third_lem}
use native.Mathlib.Omega.{arith}
use Rattle.std.proofs.lemmas.Bool.{not_from_true, not_from_false}
use Rattle.sequences.proofs.gb18030.gb18030.Goals as goal

pub returns-then-b0-lt128 : goal.returns-then-b0-lt128
returns-then-b0-lt128 c =
    let args = c.args in
    λ xs. c.gives.ensures ∙ sym (gb18030_ascii (lent args.t1.now args.t2.now) args.have args.b0 args.b1 args.b2 args.b3 xs (omega arith))

pub returns-then-b0-eq128 : goal.returns-then-b0-eq128
returns-then-b0-eq128 c =
    let args = c.args in
    λ xs. c.gives-then-b0-eq128.ensures ∙ sym (gb18030_80 (lent args.t1.now args.t2.now) args.have args.b0 args.b1 args.b2 args.b3 xs (omega arith))

pub returns-then-not-leads : goal.returns-then-not-leads
unfolding layout_of
returns-then-not-leads c =
    let args = c.args in
    λ xs. c.wrong.ensures ∙ sym (gb18030_bad (lent args.t1.now args.t2.now) args.have args.b0 args.b1 args.b2 args.b3 xs (omega arith) (fails c.leads.ensures (not_from_false _ c.if-not-leads.true)))

pub returns-then-have-lt3 : goal.returns-then-have-lt3
unfolding layout_of
returns-then-have-lt3 c =
    let args = c.args in
    λ xs. sym (gb18030_wait (lent args.t1.now args.t2.now) args.have args.b0 args.b1 args.b2 args.b3 xs (holds c.leads.ensures (not_from_true _ c.if-not-leads.false)) (sym c.within.ensures ∙ c.if-within.true) (omega arith))

pub third-requires : goal.third-requires
unfolding layout_of
third-requires c = ((holds c.leads.ensures (not_from_true _ c.if-not-leads.false)), sym c.within.ensures ∙ c.if-within.true)

pub returns-then-within : goal.returns-then-within
unfolding layout_of
returns-then-within c =
    let args = c.args in
    λ xs. c.third.ensures xs ∙ sym (gb18030_third_lem (lent args.t1.now args.t2.now) args.have args.b0 args.b1 args.b2 args.b3 xs (holds c.leads.ensures (not_from_true _ c.if-not-leads.false)) (sym c.within.ensures ∙ c.if-within.true) (omega arith))

pub returns : goal.returns
unfolding layout_of
returns c =
    let args = c.args in
    λ xs. c.gives_pair.ensures ∙ rw c.code_point.ensures (sym (gb18030_pair (lent args.t1.now args.t2.now) args.have args.b0 args.b1 args.b2 args.b3 xs (holds c.leads.ensures (not_from_true _ c.if-not-leads.false))
    (sym c.within.ensures ∙ c.if-within.false)))
