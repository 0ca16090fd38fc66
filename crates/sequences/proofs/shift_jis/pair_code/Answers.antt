use mathlib.Core.Path.{◌∙◌}
use native.Mathlib.Omega.{arith}
use Rattle.standard.proofs.Tests.{under, above}
use Rattle.layouts.specs.Rows.{layout_of}
use Rattle.sequences.proofs.ShiftJisLeaves.{code_private, code_indexed}
use Rattle.sequences.proofs.shift_jis.pair_code.Goals as goal

pub returns-then-p-lt8836 : goal.returns-then-p-lt8836
unfolding layout_of
returns-then-p-lt8836 c =
    let args = c.args in
    let pre = c.requires in
    let at_pointer = c.pointer-p in
    c.code_point.ensures ∙
    code_indexed args.table.now args.lead args.trail at_pointer.result at_pointer.ensures pre (under 8836 at_pointer.result 10715 (omega arith))

pub returns-then-p-le10715 : goal.returns-then-p-le10715
unfolding layout_of
returns-then-p-le10715 c =
    let args = c.args in
    let at_pointer = c.pointer-p in
    code_private args.table.now args.lead args.trail at_pointer.result at_pointer.ensures (omega arith) (omega arith)

pub returns : goal.returns
unfolding layout_of
returns c =
    let args = c.args in
    let pre = c.requires in
    let at_pointer = c.pointer-p in
    c.code_point-2.ensures ∙
    code_indexed args.table.now args.lead args.trail at_pointer.result at_pointer.ensures pre (above 8836 at_pointer.result 10715 (omega arith))
