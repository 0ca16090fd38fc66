use mathlib.Core.Path.{◌∙◌}
use native.Mathlib.Omega.{arith}
use Rattle.pair_writers.proofs.Filling.{trails_on}
use Rattle.pair_writers.proofs.Shapes.{column_led, divisor_small}
use Rattle.pair_writers.proofs.slots.fill_trails.Goals as goal

pub loop-k-preserved : goal.loop-k-preserved
loop-k-preserved c =
    trails_on _ _ _ _ _ (omega arith) (λ h. c.from.ensures ∙ (c.two_bytes.ensures (column_led c.args.encoding c.loop-k.k h)).trail)
    c.loop-k.invariant

pub returns : goal.returns
returns c =
    λ j h. c.loop-k.invariant j (omega (arith, c.loop-k-test.false, h, (divisor_small c.args.encoding).1)) h
