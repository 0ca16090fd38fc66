use mathlib.Core.Path.{sym, ◌∙◌}
use Rattle.sequences.proofs.Gb18030Leaves.{four_gap, four_7457, four_past, four_mapped, four_unmapped}
use native.Mathlib.Omega.{arith}
use Rattle.sequences.proofs.gb18030.four_code.Goals as goal

pub returns-then-gap : goal.returns-then-gap
returns-then-gap c = let a = c.args in sym (four_gap a.ranges.now a.p (sym c.gap.ensures ∙ c.if-gap.true))

pub returns-then-p-eq7457 : goal.returns-then-p-eq7457
returns-then-p-eq7457 c = let a = c.args in sym (four_7457 a.ranges.now a.p (omega arith))

pub returns-then-c-gt1114111 : goal.returns-then-c-gt1114111
returns-then-c-gt1114111 c =
    let args = c.args in
    let at_gap = c.gap in
    let at-if1 = c.if-gap in
    let at-range-code = c.range_code-c in
    sym (four_past args.ranges.now args.p (sym at_gap.ensures ∙ at-if1.false) (omega arith) at-range-code.result at-range-code.ensures (omega arith))

pub returns-then-mapped : goal.returns-then-mapped
returns-then-mapped c =
    let args = c.args in
    let at_gap = c.gap in
    let at-if1 = c.if-gap in
    let at-range-code = c.range_code-c in
    let at-mapped = c.mapped in
    sym (four_mapped args.ranges.now args.p (sym at_gap.ensures ∙ at-if1.false) (omega arith) at-range-code.result at-range-code.ensures (sym at-mapped.ensures ∙ c.if-mapped.true))

pub returns-else-mapped : goal.returns-else-mapped
returns-else-mapped c =
    let args = c.args in
    let at_gap = c.gap in
    let at-if1 = c.if-gap in
    let at-range-code = c.range_code-c in
    let at-mapped = c.mapped in
    sym (four_unmapped args.ranges.now args.p (sym at_gap.ensures ∙ at-if1.false) (omega arith) at-range-code.result at-range-code.ensures (sym at-mapped.ensures ∙ c.if-mapped.false))
