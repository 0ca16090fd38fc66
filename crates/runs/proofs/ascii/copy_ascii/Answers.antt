use Rattle.std.proofs.Common.{arith}
use Rattle.std.proofs.lemmas.Bool.{not_from_true, not_from_false}
use Rattle.runs.proofs.Stretches.{copied_none}
use Rattle.runs.proofs.Guard.{guarded, unguarded}
use Rattle.runs.proofs.ascii.copy_ascii.Goals as goal

pub returns-then-not-ready : goal.returns-then-not-ready
returns-then-not-ready c = (copied_none, λ h. absurd (unguarded c.args.chunk.now c.args.room.now c.ready.ensures (not_from_false _ c.if-not-ready.true) h))

pub overflow_sub-n : goal.overflow_sub-n
overflow_sub-n c = (guarded c.args.chunk.now c.args.room.now c.ready.ensures (not_from_true _ c.if-not-ready.false)).begun

pub copy_each-requires : goal.copy_each-requires
copy_each-requires c = guarded c.args.chunk.now c.args.room.now c.ready.ensures (not_from_true _ c.if-not-ready.false)

pub returns-then-n-lt8 : goal.returns-then-n-lt8
returns-then-n-lt8 c = (c.copy_each.ensures.0, λ h. c.copy_each.ensures.1)

pub copy_eights-requires : goal.copy_eights-requires
copy_eights-requires c =
    let r = guarded c.args.chunk.now c.args.room.now c.ready.ensures (not_from_true _ c.if-not-ready.false) in
    (r, omega (arith, r.begun))
