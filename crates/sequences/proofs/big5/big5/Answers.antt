use mathlib.Core.Path.{sym, ◌∙◌}
use mathlib.Core.List.{[]}
use Rattle.standard.specs.Encodings.{lent}
use Rattle.standard.proofs.Tests.{fails, holds}
use Rattle.layouts.specs.Rows.{layout_of}
use Rattle.sequences.proofs.Big5Leaves.{big5_ascii, big5_bad, big5_wait, big5_pair_lem}
use native.Mathlib.Omega.{arith}
use Rattle.std.proofs.lemmas.Bool.{not_from_true, not_from_false}
use Rattle.sequences.proofs.big5.big5.Goals as goal

pub returns-then-b0-lt128 : goal.returns-then-b0-lt128
returns-then-b0-lt128 c =
    let args = c.args in
    λ xs. c.gives.ensures ∙ sym (big5_ascii (lent args.table.now []) args.have args.b0 args.b1 xs (omega arith))

pub returns-then-not-leads : goal.returns-then-not-leads
unfolding layout_of
returns-then-not-leads c =
    let args = c.args in
    λ xs. c.wrong.ensures ∙ sym (big5_bad (lent args.table.now []) args.have args.b0 args.b1 xs (omega arith) (fails c.leads.ensures (not_from_false _ c.if-not-leads.true)))

pub returns-then-have-lt2 : goal.returns-then-have-lt2
unfolding layout_of
returns-then-have-lt2 c =
    let args = c.args in
    λ xs. sym (big5_wait (lent args.table.now []) args.have args.b0 args.b1 xs (holds c.leads.ensures (not_from_true _ c.if-not-leads.false)) (omega arith))

pub pair-requires : goal.pair-requires
unfolding layout_of
pair-requires c = holds c.leads.ensures (not_from_true _ c.if-not-leads.false)

pub returns : goal.returns
unfolding layout_of
returns c =
    let args = c.args in
    λ xs. c.pair.ensures ∙ sym (big5_pair_lem (lent args.table.now []) args.have args.b0 args.b1 xs (holds c.leads.ensures (not_from_true _ c.if-not-leads.false)) (omega arith))
