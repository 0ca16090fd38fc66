-- `single_byte::byte_of`: below 80 the scalar itself, else its pointer by the index. Assumes nothing.
use mathlib.Core.Path.{ap, ◌∙◌}
use Rattle.index.specs.IndexCode.{pointer_of}
use Rattle.standard.specs.Search.{first}
use Rattle.reverse_index_spec.specs.ReverseIndex.{look_up}
use Rattle.reverse_index_spec.proofs.LookUp.{none_passed}
use Rattle.encoder.proofs.Scalars.{single_one, single_by, looked_below}
use Rattle.encoder.proofs.single_byte.byte_of.Goals as goal

pub returns-then-c-lt128 : goal.returns-then-c-lt128
returns-then-c-lt128 c = single_one _ _ c.if-c-lt128.true

pub at-requires : goal.at-requires
at-requires c =
    λ p e. looked_below c.args.table.now c.args.links.now c.args.c c.pointer_outside.ensures c.requires p (ap pointer_of e)

pub returns : goal.returns
returns c =
    single_by (look_up c.args.table.now c.args.links.now) c.args.c c.if-c-lt128.false
    (c.pointer_outside.ensures ∙ none_passed c.args.table.now c.args.links.now first c.args.c) c.at.ensures
