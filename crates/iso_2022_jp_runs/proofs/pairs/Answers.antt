use mathlib.Core.List.{List, []}
use Prim.Native.Nat.{ℕ}
use lib.Dec.{eqb}
use Rattle.standard.specs.Encodings.{lent}
use Rattle.runs.proofs.Running.{going_start, going_one}
use Rattle.iso_2022_jp_runs.proofs.IsoRuns.{pair_there}
use native.Mathlib.Omega.{arith}
use Rattle.iso_2022_jp_runs.proofs.pairs.Goals as goal

pub loop-i-init : goal.loop-i-init
loop-i-init c = (λ second. going_start c.requires, c.requires)

pub loop-i-preserved : goal.loop-i-preserved
loop-i-preserved c =
    let args = c.args in
    let loop = c.loop-i in
    let on : (second : List ℕ) → _ = λ second.
    going_one (loop.invariant.0 second) (pair_there args.mode args.chunk.now loop.i (eqb loop.f 1) (lent args.index.now second) (omega arith) c.in-Some.c (c.in-Some.ensures second (eqb loop.f 1))) in
    (on, (on []).here)

pub returns-after-loop-i : goal.returns-after-loop-i
returns-after-loop-i c = λ second. (c.loop-i.invariant.0 second).runs

pub returns-in_default : goal.returns-in_default
returns-in_default c = λ second. (c.loop-i.invariant.0 second).runs
