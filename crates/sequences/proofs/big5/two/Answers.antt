use mathlib.Core.Path.{refl, ◌∙◌}
use Rattle.sequences.proofs.Big5Leaves.{rows_passed}
use Rattle.sequences.proofs.big5.two.Goals as goal

pub loop-pointer-preserved : goal.loop-pointer-preserved
loop-pointer-preserved c =
    rows_passed c.loop-pointer.pointer-index c.args.p _ c.loop-pointer-test.true refl c.if-p-pointer.false ∙ c.loop-pointer.invariant
