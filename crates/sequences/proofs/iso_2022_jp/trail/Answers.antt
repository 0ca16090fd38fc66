use mathlib.Core.Path.{sym, ◌∙◌}
use Rattle.layouts.specs.Rows.{layout_of}
use Rattle.sequences.proofs.Iso2022JpLeaves.{trail_null, trail_some}
use native.Mathlib.Omega.{arith}
use Rattle.sequences.proofs.iso_2022_jp.trail.Goals as goal

pub returns-then-u-eq0 : goal.returns-then-u-eq0
unfolding layout_of
returns-then-u-eq0 c =
    let args = c.args in
    c.fails-then-u-eq0.ensures ∙ sym (trail_null args.jis0208.now args.b args.c (omega arith) c.code_point-u.result c.code_point-u.ensures (omega arith))

pub returns : goal.returns
unfolding layout_of
returns c =
    let args = c.args in
    c.says.ensures ∙ sym (trail_some args.jis0208.now args.b args.c (omega arith) c.code_point-u.result c.code_point-u.ensures (omega arith))
