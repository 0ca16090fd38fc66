use Rattle.word_runs.proofs.Utf16Runs.{with_tables}
use Rattle.word_runs.specs.Units.{utf16_family}
use Rattle.runs.proofs.Guard.{guarded_plain}
use Rattle.word_runs.proofs.ByteRuns.{counts_none}
use Rattle.std.proofs.lemmas.Bool.{not_from_true}
use Rattle.word_runs.proofs.utf_16.utf_16_run.Goals as goal

pub returns-then-not-ready_plain : goal.returns-then-not-ready_plain
returns-then-not-ready_plain c = λ t. counts_none t (utf16_family c.args.be) c.args.mode c.unread.ensures

pub units-r-requires : goal.units-r-requires
units-r-requires c =
    let args = c.args in
    (guarded_plain args.chunk.now args.room.now c.ready_plain.ensures (not_from_true _ c.if-not-ready_plain.false)).2

pub returns : goal.returns
returns c =
    let args = c.args in
    let g = guarded_plain args.chunk.now args.room.now c.ready_plain.ensures (not_from_true _ c.if-not-ready_plain.false) in
    let run = c.units-r.ensures in
    λ t. record { run = rw (g.0, g.1) (with_tables t args.be run.runs); lines = run.lines }
