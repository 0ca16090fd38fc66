use Prim.Native.Nat.{◌-◌}
use lib.ListN.{take}
use Rattle.standard.specs.Sequences.ShiftJis.{shift_jis_code}
use Rattle.sequences.proofs.Leaves.{await_pair}
use mathlib.Core.Path.{sym, ◌∙◌}
use mathlib.Core.List.{[], ◌∷◌}
use Rattle.standard.specs.Encodings.{lent}
use Rattle.standard.proofs.Tests.{fails, holds}
use Rattle.layouts.specs.Rows.{layout_of}
use Rattle.sequences.proofs.ShiftJisLeaves.{shift_jis-ascii, shift_jis-kana, shift_jis-bad, shift_jis-led}
use native.Mathlib.Omega.{arith}
use Rattle.std.proofs.lemmas.Bool.{not_from_true, not_from_false}
use Rattle.sequences.proofs.shift_jis.shift_jis.Goals as goal

pub returns-then-b0-le128 : goal.returns-then-b0-le128
returns-then-b0-le128 c =
    let args = c.args in
    λ xs. c.gives.ensures ∙ sym (shift_jis-ascii (lent args.table.now []) args.have args.b0 args.b1 xs (omega arith))

pub returns-then-within : goal.returns-then-within
returns-then-within c =
    let args = c.args in
    λ xs. c.gives-then-within.ensures ∙ sym (shift_jis-kana (lent args.table.now []) args.have args.b0 args.b1 xs (omega arith) (sym c.within.ensures ∙ c.if-within.true))

pub returns-then-not-leads : goal.returns-then-not-leads
unfolding layout_of
returns-then-not-leads c =
    let args = c.args in
    λ xs. c.wrong.ensures ∙ sym (shift_jis-bad (lent args.table.now []) args.have args.b0 args.b1 xs (omega arith) (sym c.within.ensures ∙ c.if-within.false)
    (fails c.leads.ensures (not_from_false _ c.if-not-leads.true)))

pub pair_code-requires : goal.pair_code-requires
unfolding layout_of
pair_code-requires c = holds c.leads.ensures (not_from_true _ c.if-not-leads.false)

pub returns : goal.returns
unfolding layout_of
returns c =
    let args = c.args in
    λ xs. c.gives_pair.ensures ∙ rw c.pair_code.ensures
    (sym (shift_jis-led (lent args.table.now []) args.b0 (take (args.have - 1) (args.b1 ∷ xs)) (holds c.leads.ensures (not_from_true _ c.if-not-leads.false)) ∙
    await_pair args.have args.b1 xs (λ c. shift_jis_code args.table.now args.b0 c)))
