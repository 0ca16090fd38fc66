use Rattle.index.proofs.Search.{passed_block}
use native.Mathlib.Omega.{arith}
use Rattle.std.specs.Prelude.{◌==◌}
use mathlib.Core.Path.{sym, ap, ◌∙◌}
use lib.ListN.{length, length-append}
use Rattle.index.proofs.passed_over.Goals as goal

pub loop-block-preserved : goal.loop-block-preserved
loop-block-preserved c =
    let at-loop = c.loop-block in
    let step = c.in-Some.ensures.steps in
    let b = passed_block (λ x. x == c.args.c) c.args.cells.now c.in-Some.block.now _ at-loop.passed 64
    (sym at-loop.invariant.rest ∙ step.1.0) (step.1.1 ∙ at-loop.invariant.size) at-loop.invariant.lacks (sym c.contains.ensures.value ∙ c.if-contains.false) in
    record { size = step.0 ∙ at-loop.invariant.size; whole = omega (arith, simp length-append at (ap length step.1.0), step.1.1); rest = b.0; lacks = b.1 }
