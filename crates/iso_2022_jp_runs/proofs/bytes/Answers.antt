use lib.Dec.{eqb}
use Rattle.standard.specs.Encodings.{no_tables, Tables}
use Rattle.runs.proofs.Running.{going_start, going_one}
use Rattle.iso_2022_jp_runs.proofs.IsoRuns.{byte_there}
use native.Mathlib.Omega.{arith}
use Rattle.iso_2022_jp_runs.proofs.bytes.Goals as goal

pub loop-i-init : goal.loop-i-init
loop-i-init c = (λ t. going_start c.requires, c.requires)

pub loop-i-preserved : goal.loop-i-preserved
loop-i-preserved c =
    let args = c.args in
    let loop = c.loop-i in
    let takes = c.one_scalar.ensures c.if-not-one_scalar.false in
    let on : (t : Tables) → _ = λ t.
    going_one (loop.invariant.0 t) (byte_there args.mode args.chunk.now loop.i (eqb loop.f 1) t (omega arith) takes.0 takes.1 c.byte_scalar.result c.byte_scalar.ensures) in
    (on, (on no_tables).here)

pub returns-after-loop-i : goal.returns-after-loop-i
returns-after-loop-i c = λ t. (c.loop-i.invariant.0 t).runs

pub returns-then-not-one_scalar : goal.returns-then-not-one_scalar
returns-then-not-one_scalar c = λ t. (c.loop-i.invariant.0 t).runs
