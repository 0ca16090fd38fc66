-- `searched`: below 80 the scalar itself, else its pointer. Assumes nothing.
use mathlib.Core.Path.{ap}
use Rattle.index.specs.IndexCode.{pointer_of}
use Rattle.standard.specs.Search.{searching}
use Rattle.encoder.proofs.Scalars.{single_one, single_by, pointer_below}
use Rattle.encoder.proofs.single_byte.searched.Goals as goal

pub returns-then-c-lt128 : goal.returns-then-c-lt128
returns-then-c-lt128 c = single_one _ _ c.if-c-lt128.true

pub at-requires : goal.at-requires
at-requires c =
    λ p e. pointer_below c.args.table.now c.args.c c.pointer.ensures c.requires p (ap pointer_of e)

pub returns : goal.returns
returns c =
    single_by (searching c.args.table.now) c.args.c c.if-c-lt128.false c.pointer.ensures c.at.ensures
