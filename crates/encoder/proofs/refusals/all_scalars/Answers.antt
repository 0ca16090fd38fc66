use mathlib.Core.Path.{ap, ◌∙◌}
use mathlib.Core.Bool.{Bool, not}
use mir.Val.{bool_byte}
use native.Mathlib.Omega.{arith}
use Rattle.encoder.proofs.Counting.{all_end, all_on, one_more}
use Rattle.encoder.proofs.refusals.all_scalars.Goals as goal

pub loop-c-preserved : goal.loop-c-preserved
loop-c-preserved c =
    let loop = c.loop-c in
    let other = c.from-others.ensures ∙ ap (λ (b : Bool). bool_byte (not b)) c.is_scalar.ensures in (
      omega (arith, loop.invariant.0, one_more _ _ c.from-others.ensures),
      all_on c.args.scalars.now loop.others loop.c-index c.loop-c-test.true _ other ∙ loop.invariant.1,
    )

pub returns : goal.returns
returns c = all_end c.args.scalars.now c.loop-c.others c.loop-c.c-index c.loop-c-test.false c.loop-c.invariant.1
