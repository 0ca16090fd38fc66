use mathlib.Core.Path.{◌≡◌, refl, sym}
use Prim.Native.Nat.{◌+◌, ◌≤◌}
use native.Mathlib.Nat.{mul-le-mul}
use native.Mathlib.Omega.{arith}
use Rattle.pair_runs.proofs.Layouts.{stepped_none, stepped_more}
use Rattle.pair_runs.proofs.layout.lay.Goals as goal

pub loop-k-init : goal.loop-k-init
loop-k-init c = let a = c.args in λ f H. stepped_none a.at a.first a.step f a.layout.now H

pub overflow_mul-layout : goal.overflow_mul-layout
overflow_mul-layout c =
    let n : c.args.first + c.loop-k.k ≤ 190 = omega (arith, c.requires.1) in
    omega (arith, mul-le-mul n c.requires.2)

pub loop-k-preserved : goal.loop-k-preserved
loop-k-preserved c =
    let a = c.args in
    let loop = c.loop-k in
    λ f H. stepped_more a.at a.first a.step f loop.layout loop.k _ (loop.invariant f H) (omega (arith, c.requires.0)) refl

pub returns : goal.returns
returns c =
    let all : c.loop-k.k ≡ c.args.n = omega arith in
    λ f H. rw (sym all) (c.loop-k.invariant f H)
