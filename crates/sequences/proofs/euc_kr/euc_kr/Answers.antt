use Prim.Native.Nat.{◌-◌}
use lib.ListN.{take}
use Rattle.standard.specs.Layouts.{pair_code, euc_kr_layout}
use Rattle.sequences.proofs.Leaves.{await_pair}
use mathlib.Core.Path.{sym, ◌∙◌}
use mathlib.Core.List.{[], ◌∷◌}
use Rattle.standard.specs.Encodings.{lent}
use Rattle.standard.proofs.Tests.{fails, holds}
use Rattle.layouts.specs.Rows.{layout_of}
use Rattle.sequences.proofs.EucKrLeaves.{euc_kr-ascii, euc_kr-bad, euc_kr-led}
use native.Mathlib.Omega.{arith}
use Rattle.std.proofs.lemmas.Bool.{not_from_true, not_from_false}
use Rattle.sequences.proofs.euc_kr.euc_kr.Goals as goal

pub returns-then-b0-lt128 : goal.returns-then-b0-lt128
returns-then-b0-lt128 c =
    let args = c.args in
    λ xs. c.gives.ensures ∙ sym (euc_kr-ascii (lent args.table.now []) args.have args.b0 args.b1 xs (omega arith))

pub returns-then-not-leads : goal.returns-then-not-leads
unfolding layout_of
returns-then-not-leads c =
    let args = c.args in
    λ xs. c.wrong.ensures ∙ sym (euc_kr-bad (lent args.table.now []) args.have args.b0 args.b1 xs (omega arith) (fails c.leads.ensures (not_from_false _ c.if-not-leads.true)))

pub returns : goal.returns
unfolding layout_of
returns c =
    let args = c.args in
    λ xs. c.gives_pair.ensures ∙ rw c.code_point.ensures
    (sym (euc_kr-led (lent args.table.now []) args.b0 (take (args.have - 1) (args.b1 ∷ xs)) (holds c.leads.ensures (not_from_true _ c.if-not-leads.false)) ∙
    await_pair args.have args.b1 xs (λ c. pair_code euc_kr_layout args.table.now args.b0 c)))
