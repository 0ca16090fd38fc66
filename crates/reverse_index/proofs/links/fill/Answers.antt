use Rattle.reverse_index.proofs.Chains.{chained_turn, chained_none, chained_all}
use native.Mathlib.Omega.{arith}
use Rattle.reverse_index.proofs.links.fill.Goals as goal

pub loop-p-init : goal.loop-p-init
loop-p-init c =
    let args = c.args in
    let at_pre = c.requires in
    (omega arith, chained_none args.table.now args.index.now at_pre.1 at_pre.2)

pub chain-requires : goal.chain-requires
chain-requires c = omega (arith, c.loop-p.invariant.1.size, c.requires)

pub loop-p-preserved : goal.loop-p-preserved
loop-p-preserved c =
    let at-loop = c.loop-p in
    let table = c.args.table.now in (
      omega arith,
      chained_turn table at-loop.index at-loop.p c.loop-p-test.true
          at-loop.invariant.0 at-loop.invariant.1 _ c.chain.ensures,
    )

pub shape_of-index : goal.shape_of-index
shape_of-index c = omega (arith, c.loop-p.invariant.1.size, c.requires)

pub returns : goal.returns
returns c =
    let at-loop = c.loop-p in
    chained_all c.args.table.now at-loop.index at-loop.p c.loop-p-test.false at-loop.invariant.1
