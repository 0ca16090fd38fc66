use Prim.Native.Nat.{◌*◌, ◌/◌, ◌≤◌}
use native.Mathlib.Omega.{arith}
use lib.Dec.{leb}
use Rattle.layouts.proofs.RangeOrder.{at_most, narrowed_start, narrowed_half, narrowed_end}
use Rattle.layouts.proofs.ranges.search.Goals as goal

pub loop-count-init : goal.loop-count-init
loop-count-init c = let a = c.args in (omega arith, λ A h. narrowed_start a.back a.ranges.now a.x h)

pub overflow_add-low : goal.overflow_add-low
overflow_add-low c = omega arith

pub number-requires : goal.number-requires
number-requires c = omega arith

-- half of the pairs, or none
once : (c : goal.After-not_above) →
    let half = c.loop-count.count / 2 in half * c.not_above.result ≤ half
once c =
    let at-loop = c.before.before.before in
    let x = at-loop.args.x in
    at_most (at-loop.loop-count.count / 2) c.not_above.result (leb c.number.result x) c.not_above.ensures

pub overflow_mul-low : goal.overflow_mul-low
overflow_mul-low c = omega (arith, once c)

pub overflow_add-low-in-loop-count : goal.overflow_add-low-in-loop-count
overflow_add-low-in-loop-count c = omega (arith, once c)

pub overflow_sub-count : goal.overflow_sub-count
overflow_sub-count c = omega arith

pub loop-count-smaller : goal.loop-count-smaller
loop-count-smaller c = omega arith

pub loop-count-preserved : goal.loop-count-preserved
loop-count-preserved c =
    let at-loop = c.loop-count in
    let a = c.args in (
      omega (arith, once c),
      λ A h. narrowed_half a.back a.ranges.now a.x at-loop.low at-loop.count c.number.result c.not_above.result
          A (at-loop.invariant.1 A h) (omega arith) at-loop.invariant.0 c.number.ensures c.not_above.ensures,
    )

pub returns : goal.returns
returns c =
    let at-loop = c.loop-count in
    let a = c.args in (
      omega arith,
      λ A h. narrowed_end a.back a.ranges.now a.x at-loop.low at-loop.count (at-loop.invariant.1 A h) (omega arith) at-loop.invariant.0,
    )
