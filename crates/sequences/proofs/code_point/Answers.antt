use mathlib.Core.Path.{sym, ◌∙◌}
use Rattle.layouts.specs.Rows.{layout_of}
use Rattle.layouts.proofs.Rows.{regular, small, code_past, code_at}
use native.Mathlib.Omega.{arith}
use Rattle.sequences.proofs.code_point.Goals as goal

pub returns-then-p-lt32768 : goal.returns-then-p-lt32768
returns-then-p-lt32768 c =
    let args = c.args in
    c.cell.ensures ∙ sym (code_at (layout_of args.encoding) args.lead args.trail (regular args.encoding) (small args.encoding) args.table.now c.pointer-p.result c.pointer-p.ensures (omega arith))

pub returns : goal.returns
returns c =
    let args = c.args in
    sym (code_past (layout_of args.encoding) args.lead args.trail (regular args.encoding) (small args.encoding) args.table.now c.pointer-p.result c.pointer-p.ensures (omega arith))
