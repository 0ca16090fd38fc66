use native.Mathlib.Omega.{arith}
use Rattle.runs.proofs.Counting.{counting_start, counting_fewer}
use Rattle.word_runs.proofs.Utf16Runs.{counting_step}
use Rattle.word_runs.proofs.utf_16.sequences.Goals as goal

pub loop-k-init : goal.loop-k-init
loop-k-init c = counting_start c.requires

pub sequence-requires : goal.sequence-requires
sequence-requires c = (omega arith, c.loop-k.invariant.going.here.short)

pub overflow_add-lines : goal.overflow_add-lines
overflow_add-lines c =
    let args = c.args in
    let loop = c.loop-k in
    let stepped = counting_step args.be args.mode args.chunk.now args.from loop.at args.place loop.written args.room.now loop.room loop.invariant
    c.in-Some.ensures (omega (arith, loop.invariant.going.here)) c.one_scalar.ensures in
    omega (arith, counting_fewer stepped, loop.invariant.going.here, loop.invariant.going.runs.size)

pub overflow_add-at : goal.overflow_add-at
overflow_add-at c =
    let args = c.args in
    let loop = c.loop-k in
    let stepped = counting_step args.be args.mode args.chunk.now args.from loop.at args.place loop.written args.room.now loop.room loop.invariant
    c.in-Some.ensures (omega (arith, loop.invariant.going.here)) c.one_scalar.ensures in
    omega (arith, stepped.going.here)

pub loop-k-preserved : goal.loop-k-preserved
loop-k-preserved c =
    let args = c.args in
    let loop = c.loop-k in
    counting_step args.be args.mode args.chunk.now args.from loop.at args.place loop.written args.room.now loop.room loop.invariant
    c.in-Some.ensures (omega (arith, loop.invariant.going.here)) c.one_scalar.ensures
