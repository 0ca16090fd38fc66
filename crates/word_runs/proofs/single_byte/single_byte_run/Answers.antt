use Rattle.runs.proofs.Guard.{guarded_plain}
use Rattle.word_runs.proofs.ByteRuns.{counts_none}
use Rattle.standard.specs.Encodings.{lent, single-byte}
use native.Mathlib.Omega.{arith}
use Rattle.std.proofs.lemmas.Bool.{not_from_true}
use Rattle.word_runs.proofs.single_byte.single_byte_run.Goals as goal

pub returns-then-not-ready_plain : goal.returns-then-not-ready_plain
returns-then-not-ready_plain c =
    let args = c.args in
    counts_none (lent args.t1.now args.t2.now) single-byte args.mode c.unread.ensures

pub single_byte_text-requires : goal.single_byte_text-requires
single_byte_text-requires c =
    let args = c.args in
    (omega arith, (guarded_plain args.chunk.now args.room.now c.ready_plain.ensures (not_from_true _ c.if-not-ready_plain.false)).2)

pub returns : goal.returns
returns c =
    let args = c.args in
    let g = guarded_plain args.chunk.now args.room.now c.ready_plain.ensures (not_from_true _ c.if-not-ready_plain.false) in
    let read = c.single_byte_text.ensures in
    record { run = rw (g.0, g.1) read.run; lines = read.lines }
