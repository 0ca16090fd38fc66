use Rattle.std.proofs.lemmas.List.{length-replicate}
use native.Mathlib.Omega.{arith}
use mathlib.Core.Path.{◌∙◌}
use Prim.Native.Nat.{ℕ, ◌+◌, ◌*◌}
use Rattle.standard.specs.Sequence.{plain}
use Rattle.standard.specs.Encodings.{no_tables}
use Rattle.word_runs.specs.Units.{utf16_family}
use Rattle.word_runs.proofs.Utf16Runs.{counting_put}
use Rattle.runs.proofs.Counting.{Counting, counting_start, counting_fewer}
use Rattle.word_runs.proofs.utf_16.blocks.Goals as goal

pub loop-at-init : goal.loop-at-init
loop-at-init g c =
    record { space = omega arith; size = length-replicate g.row.N 0; ready = c.requires.0; run = λ m. counting_start c.requires.0 }

pub overflow_sub-chunk : goal.overflow_sub-chunk
overflow_sub-chunk g c = c.loop-at.invariant.ready.begun

pub returns-then-not-all_clear : goal.returns-then-not-all_clear
returns-then-not-all_clear g c = λ m. let C = c.loop-at.invariant.run m in record { runs = C.going.runs; lines = C.lines }

pub put_units-requires : goal.put_units-requires
put_units-requires g c = let inv = c.loop-at.invariant in omega (arith, inv.size, inv.ready.fits)

pub overflow_add-lines : goal.overflow_add-lines
overflow_add-lines g c =
    let inv = c.loop-at.invariant in
    omega (arith, c.feeds.ensures.1, inv.size, inv.space, inv.ready, counting_fewer (inv.run 0), (inv.run 0).going.runs.size)

pub overflow_add-written : goal.overflow_add-written
overflow_add-written g c =
    let inv = c.loop-at.invariant in
    omega (arith, inv.space, inv.ready, (inv.run 0).going.runs.size)

pub loop-at-preserved : goal.loop-at-preserved
loop-at-preserved g c =
    let args = c.args in
    let loop = c.loop-at in
    let inv = loop.invariant in
    let words = c.read_words.ensures in
    let none = c.all_clear.ensures c.if-not-all_clear.false in
    let on : (m : ℕ) → Counting no_tables (utf16_family args.be) m args.chunk.now args.from (loop.at + g.row.N * 2) plain plain
    args.place (loop.written + g.row.N) (loop.lines + c.from-lines.result) args.room.now c.put_units.new.room =
    λ m. counting_put args.be m args.chunk.now args.from loop.at args.place loop.written args.room.now loop.room _ loop.words _
    (inv.run m) g.row.N inv.size words.0 words.1 none (omega (arith, inv.ready.begun)) c.put_units.ensures (c.from-lines.ensures ∙ c.feeds.ensures.0) in
    record { space = inv.space; size = omega (arith, inv.size); ready = (on 0).going.here; run = on }

pub returns : goal.returns
returns g c = λ m. let C = c.loop-at.invariant.run m in record { runs = C.going.runs; lines = C.lines }
