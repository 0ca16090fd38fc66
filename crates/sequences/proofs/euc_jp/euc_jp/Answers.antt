use mathlib.Core.List.{◌∷◌}
use Prim.Native.Nat.{◌-◌}
use lib.ListN.{take}
use Rattle.standard.specs.Layouts.{pair_code, euc_jp_layout}
use Rattle.sequences.proofs.Leaves.{await_pair}
use mathlib.Core.Path.{sym, ◌∙◌}
use Rattle.standard.specs.Encodings.{lent}
use Rattle.standard.proofs.Tests.{fails, holds}
use Rattle.layouts.specs.Rows.{layout_of}
use Rattle.sequences.proofs.EucJpLeaves.{euc_jp-ascii, euc_jp-8e, euc_jp-8f_wait, euc_jp-8f, euc_jp-bad, euc_jp-led}
use native.Mathlib.Omega.{arith}
use Rattle.std.proofs.lemmas.Bool.{not_from_true, not_from_false}
use Rattle.sequences.proofs.euc_jp.euc_jp.Goals as goal

pub returns-then-b0-lt128 : goal.returns-then-b0-lt128
returns-then-b0-lt128 c =
    let args = c.args in
    λ xs. c.gives.ensures ∙ sym (euc_jp-ascii (lent args.t1.now args.t2.now) args.have args.b0 args.b1 args.b2 xs (omega arith))

pub returns-then-b0-eq142 : goal.returns-then-b0-eq142
returns-then-b0-eq142 c =
    let args = c.args in
    λ xs. c.gives_pair.ensures ∙ rw c.katakana.ensures (sym (euc_jp-8e (lent args.t1.now args.t2.now) args.have args.b0 args.b1 args.b2 xs (omega arith)))

pub returns-then-have-lt2 : goal.returns-then-have-lt2
returns-then-have-lt2 c =
    let args = c.args in
    λ xs. sym (euc_jp-8f_wait (lent args.t1.now args.t2.now) args.have args.b0 args.b1 args.b2 xs (omega arith) (omega arith))

pub returns-then-b0-eq143 : goal.returns-then-b0-eq143
returns-then-b0-eq143 c =
    let args = c.args in
    λ xs. c.three.ensures xs ∙ sym (euc_jp-8f (lent args.t1.now args.t2.now) args.have args.b0 args.b1 args.b2 xs (omega arith) (omega arith))

pub returns-then-not-leads : goal.returns-then-not-leads
unfolding layout_of
returns-then-not-leads c =
    let args = c.args in
    λ xs. c.wrong.ensures ∙ sym (euc_jp-bad (lent args.t1.now args.t2.now) args.have args.b0 args.b1 args.b2 xs (omega arith) (omega arith) (omega arith) (fails c.leads.ensures (not_from_false _ c.if-not-leads.true)))

pub returns : goal.returns
unfolding layout_of
returns c =
    let args = c.args in
    λ xs. c.gives_pair-2.ensures ∙ rw c.code_point.ensures
    (sym (euc_jp-led (lent args.t1.now args.t2.now) args.b0 (take (args.have - 1) (args.b1 ∷ args.b2 ∷ xs)) (holds c.leads.ensures (not_from_true _ c.if-not-leads.false)) ∙
    await_pair args.have args.b1 (args.b2 ∷ xs) (λ c. pair_code euc_jp_layout args.t1.now args.b0 c)))
