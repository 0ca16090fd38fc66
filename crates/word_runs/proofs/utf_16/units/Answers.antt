use native.Mathlib.Omega.{arith}
use Rattle.runs.proofs.Counting.{counting_start, counting_fewer}
use Rattle.word_runs.proofs.Utf16Runs.{counting_units}
use Rattle.word_runs.proofs.utf_16.units.Goals as goal

pub loop-i-init : goal.loop-i-init
loop-i-init c = counting_start c.requires

pub oriented_blocks-b-requires : goal.oriented_blocks-b-requires
oriented_blocks-b-requires c = (c.loop-i.invariant.going.here, omega arith, omega arith)

pub oriented_blocks-c-requires : goal.oriented_blocks-c-requires
oriented_blocks-c-requires c =
    let B = counting_units c.loop-i.invariant c.oriented_blocks-b.result (c.oriented_blocks-b.ensures c.args.mode) in
    (B.going.here, omega arith, omega arith)

pub sequences-p-requires : goal.sequences-p-requires
sequences-p-requires c =
    let B = counting_units c.loop-i.invariant c.oriented_blocks-b.result (c.oriented_blocks-b.ensures c.args.mode) in
    (counting_units B c.oriented_blocks-c.result (c.oriented_blocks-c.ensures c.args.mode)).going.here

pub overflow_add-lines : goal.overflow_add-lines
overflow_add-lines c =
    let B = counting_units c.loop-i.invariant c.oriented_blocks-b.result (c.oriented_blocks-b.ensures c.args.mode) in
    omega (arith, counting_fewer B, B.going.here.fits, B.going.runs.size)

pub overflow_add-lines-in-loop-i : goal.overflow_add-lines-in-loop-i
overflow_add-lines-in-loop-i c =
    let B = counting_units c.loop-i.invariant c.oriented_blocks-b.result (c.oriented_blocks-b.ensures c.args.mode) in
    let C = counting_units B c.oriented_blocks-c.result (c.oriented_blocks-c.ensures c.args.mode) in
    omega (arith, counting_fewer C, C.going.here.fits, C.going.runs.size)

pub overflow_add-lines-in-loop-i-2 : goal.overflow_add-lines-in-loop-i-2
overflow_add-lines-in-loop-i-2 c =
    let B = counting_units c.loop-i.invariant c.oriented_blocks-b.result (c.oriented_blocks-b.ensures c.args.mode) in
    let C = counting_units B c.oriented_blocks-c.result (c.oriented_blocks-c.ensures c.args.mode) in
    let P = counting_units C c.sequences-p.result c.sequences-p.ensures in
    omega (arith, counting_fewer P, P.going.here.fits, P.going.runs.size)

pub returns-then-p-i : goal.returns-then-p-i
returns-then-p-i c =
    let B = counting_units c.loop-i.invariant c.oriented_blocks-b.result (c.oriented_blocks-b.ensures c.args.mode) in
    let C = counting_units B c.oriented_blocks-c.result (c.oriented_blocks-c.ensures c.args.mode) in
    let P = counting_units C c.sequences-p.result c.sequences-p.ensures in
    record { runs = P.going.runs; lines = P.lines }

pub loop-i-smaller : goal.loop-i-smaller
loop-i-smaller c =
    let b = c.oriented_blocks-b.ensures c.args.mode in
    let d = c.oriented_blocks-c.ensures c.args.mode in
    let P = counting_units (counting_units (counting_units c.loop-i.invariant c.oriented_blocks-b.result b) c.oriented_blocks-c.result d) c.sequences-p.result c.sequences-p.ensures in
    omega (arith, b.runs.ahead, d.runs.ahead, c.sequences-p.ensures.runs.ahead, P.going.here, c.if-p-i.false)

pub loop-i-preserved : goal.loop-i-preserved
loop-i-preserved c =
    let B = counting_units c.loop-i.invariant c.oriented_blocks-b.result (c.oriented_blocks-b.ensures c.args.mode) in
    let C = counting_units B c.oriented_blocks-c.result (c.oriented_blocks-c.ensures c.args.mode) in
    counting_units C c.sequences-p.result c.sequences-p.ensures
