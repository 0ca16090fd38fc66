use mathlib.Core.Path.{sym, ◌∙◌}
use native.Mathlib.Omega.{arith}
use Rattle.layouts.specs.Rows.{layout_of}
use Rattle.layouts.proofs.Rows.{regular, small, code_at}
use Rattle.iso_2022_jp_runs.proofs.IsoRuns.{pair_next}
use Rattle.iso_2022_jp_runs.proofs.pair_code.Goals as goal

pub returns : goal.returns
unfolding layout_of
returns c =
    let args = c.args in
    let p = c.iso_2022_jp_pointer-p in
    pair_next args.index.now args.lead args.trail c.cell-c.result
    (c.cell-c.ensures ∙ sym (code_at (layout_of 33) args.lead args.trail (regular 33) (small 33) args.index.now p.result p.ensures (omega arith)))
    c.if-c-eq0.false
