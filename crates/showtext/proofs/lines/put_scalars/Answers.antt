use Rattle.std.proofs.Common.{◌+◌, ◌∙◌, get_or, refl, arith}
use Rattle.showtext.proofs.Texts.{no_lines, put_next, line_few}
use Rattle.showtext.proofs.lines.put_scalars.Goals as goal

pub loop-i-init : goal.loop-i-init
loop-i-init c = (omega arith, refl, no_lines c.args.n)

pub loop-i-preserved : goal.loop-i-preserved
loop-i-preserved c =
    let a = c.args in
    let l = c.loop-i in
    let p = c.put_scalar-o in (
      omega (arith, l.invariant.0, line_few (a.n + l.i) (get_or a.scalars.now l.i 0), p.ensures.behind),
      p.auto.out ∙ l.invariant.1,
      put_next a.n a.scalars.now l.i (omega arith) l.invariant.2 p.ensures,
    )
