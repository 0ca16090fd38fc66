use Rattle.std.proofs.Common.{refl, arith}
use Rattle.line_feeds.proofs.Parts.{none_in}
use Rattle.runs.proofs.Stretches.{copied_none}
use Rattle.runs.proofs.Guard.{guarded}
use Rattle.runs.proofs.ascii.count_ascii.Goals as goal

pub returns-then-not-ready : goal.returns-then-not-ready
returns-then-not-ready c = (copied_none, none_in c.args.chunk.now c.args.from 0 refl)

pub bounds-chunk-from : goal.bounds-chunk-from
bounds-chunk-from c = omega (arith, (guarded c.args.chunk.now c.args.room.now c.ready.ensures (rw c.if-not-ready.false)).begun)

pub count_stretch-requires : goal.count_stretch-requires
count_stretch-requires c = guarded c.args.chunk.now c.args.room.now c.ready.ensures (rw c.if-not-ready.false)
