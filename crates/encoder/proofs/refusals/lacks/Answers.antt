-- `lacks`: the most bytes fit, or all are counted. Assumes nothing.
use Rattle.encoder.proofs.Most.{room_for_most}
use Rattle.standard.specs.Encodings.{lent}
use Rattle.reverse_index_spec.specs.ReverseIndex.{look_up}
use lib.Dec.{ltb}
use mathlib.Core.Path.{ap, ◌∙◌}
use borrow.Author.Tests.{le-ltb}
use native.Mathlib.Nat.{mul-le-mul}
use native.Mathlib.Omega.{arith}
use Rattle.encoder.proofs.refusals.lacks.Goals as goal

pub overflow_mul-scalars : goal.overflow_mul-scalars
overflow_mul-scalars c = record { fits = omega (arith, mul-le-mul c.requires.1 c.most.ensures.1) }

pub returns-else-room-scalars : goal.returns-else-room-scalars
returns-else-room-scalars c =
    let args = c.args in
    le-ltb _ _ c.if-room-scalars.false ∙ room_for_most (look_up args.t1.now args.links.now) args.encoding args.mode args.state
    (lent args.t1.now args.t2.now) args.scalars.now args.room c.requires.0 c.most.result c.most.ensures.0 c.if-room-scalars.false

pub returns-then-room-scalars : goal.returns-then-room-scalars
returns-then-room-scalars c = ap (ltb c.args.room) c.count.ensures
