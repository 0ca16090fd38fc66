use native.Mathlib.Omega.{arith}
use Rattle.index.proofs.Parts.{numbered_start, numbered_end, numbered_on, next_fits}
use Rattle.index.proofs.reading.number.Goals as goal

pub loop-b-init : goal.loop-b-init
loop-b-init c = numbered_start _ _

pub overflow_mul-n : goal.overflow_mul-n
overflow_mul-n c =
    record { fits = omega (arith, next_fits _ _ _ _ c.loop-b.invariant c.loop-b-test.true c.requires.few c.requires.small 0 (omega arith)) }

pub overflow_add-n : goal.overflow_add-n
overflow_add-n c =
    record { fits = omega (arith, next_fits _ _ _ _ c.loop-b.invariant c.loop-b-test.true c.requires.few c.requires.small _ c.digit.ensures.small) }

pub loop-b-preserved : goal.loop-b-preserved
loop-b-preserved c =
    numbered_on _ _ _ _ c.loop-b.invariant c.loop-b-test.true c.requires.few c.requires.small _ c.digit.ensures.small c.digit.ensures.value

pub returns : goal.returns
returns c = numbered_end _ _ _ _ c.loop-b.invariant c.loop-b-test.false
