use Rattle.reverse_index.proofs.Places.{placing_start, placing_turn, placing_low, placing_high}
use native.Mathlib.Omega.{arith}
use mathlib.Core.Path.{refl}
use Rattle.reverse_index.proofs.links.place.Goals as goal

pub loop-low-init : goal.loop-low-init
loop-low-init c =
    let args = c.args in
    placing_start args.index.now args.n args.p args.b _ c.requires.0 refl

pub overflow_add-at : goal.overflow_add-at
overflow_add-at c = omega (arith, c.requires)

pub offset_bounds-index-at : goal.offset_bounds-index-at
offset_bounds-index-at c = omega (arith, c.requires)

pub bounds-index-at : goal.bounds-index-at
bounds-index-at c = omega (arith, c.requires)

pub loop-low-preserved : goal.loop-low-preserved
loop-low-preserved c = placing_turn c.loop-low.invariant c.loop-low-test.true c.if-link-p.true c.requires.1 _ refl

pub returns-else-link-p : goal.returns-else-link-p
returns-else-link-p c = let inv = c.loop-low.invariant in (placing_high inv c.if-link-p.false, inv.in_index)

pub returns-after-loop-low : goal.returns-after-loop-low
returns-after-loop-low c = let inv = c.loop-low.invariant in (placing_low inv c.loop-low-test.false, inv.in_index)
