use mathlib.Core.Path.{sym, ap, ◌∙◌}
use Rattle.standard.proofs.Tests.{fails, holds}
use Rattle.layouts.specs.Rows.{layout_of}
use Rattle.standard.specs.Sequence.{trailed}
use Rattle.sequences.proofs.Leaves.{pair_there}
use Rattle.sequences.proofs.EucJpLeaves.{three_other, three_wait, three_trail}
use native.Mathlib.Omega.{arith}
use Rattle.std.proofs.lemmas.Bool.{not_from_true, not_from_false}
use Rattle.sequences.proofs.euc_jp.three.Goals as goal

pub returns-then-not-leads : goal.returns-then-not-leads
unfolding layout_of
returns-then-not-leads c =
    let args = c.args in
    λ xs. c.gives_pair.ensures ∙ pair_there args.have args.c 0 (omega arith) ∙ sym (three_other args.jis0212.now args.have args.c args.d xs (fails c.leads.ensures (not_from_false _ c.if-not-leads.true)))

pub returns-then-have-lt3 : goal.returns-then-have-lt3
unfolding layout_of
returns-then-have-lt3 c =
    let args = c.args in
    λ xs. sym (three_wait args.jis0212.now args.have args.c args.d xs (holds c.leads.ensures (not_from_true _ c.if-not-leads.false)) (omega arith))

pub returns : goal.returns
unfolding layout_of
returns c =
    let args = c.args in
    λ xs. c.gives_trailed.ensures ∙ ap (trailed 2 3 args.d) c.code_point.ensures ∙
    sym (three_trail args.jis0212.now args.have args.c args.d xs (holds c.leads.ensures (not_from_true _ c.if-not-leads.false)) (omega arith))
