use mathlib.Core.Path.{sym, ap, ◌∙◌}
use Rattle.standard.specs.Sequences.Gb18030.{gb18030_range}
use lib.ListN.{drop}
use Prim.Native.Nat.{◌*◌, ◌+◌}
use Rattle.sequences.proofs.Gb18030Leaves.{range_step, range_end}
use native.Mathlib.Omega.{arith}
use Rattle.sequences.proofs.gb18030.range_code.Goals as goal

pub loop-i-preserved : goal.loop-i-preserved
loop-i-preserved c =
    let a = c.args in
    let loop = c.loop-i in
    loop.invariant ∙ range_step a.ranges.now a.p loop.i loop.found (omega arith) ∙
    ap (gb18030_range (drop ((loop.i + 1) * 2) a.ranges.now) a.p) (sym c.range_next-found.ensures)

pub returns : goal.returns
returns c =
    let loop = c.loop-i in
    sym (loop.invariant ∙ range_end c.args.ranges.now c.args.p loop.i loop.found (omega arith))
