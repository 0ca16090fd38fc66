-- `enter`: a line that is too long, and each reading of another. Assumes nothing.
use mathlib.Core.Path.{◌≡◌, sym, ap, ◌∙◌}
use Rattle.std.proofs.Common.{rules, Option, Ok, Err}
use Rattle.index_spec.specs.IndexRead.{no_entry, bad, entry, read}
use Rattle.index_spec.proofs.Call.{long, short, enter_out, enter_full, enter_free}
use Rattle.index.specs.declared.Refusal.TheVariants.{BadLine}
use Rattle.index.specs.declared.reading.Entry.{Entry}
use Rattle.index.specs.IndexCode.{answer_of, read_of}
use Rattle.index.proofs.Search.{told}
use Rattle.index.proofs.enter.Goals as goal
use Rattle.index.proofs.enter.Goals.{In-Some, then-table-at-via-then-table-at, then-table-at-via-else-table-at+then-table-at-ne0}

-- the line reads as an entry
is_read : (c : In-Some) → read c.args.line.now ≡ entry c.in-Some.entry.pointer c.in-Some.entry.code_point
is_read c = sym c.in_ok-entry.ensures ∙ ap (λ (o : Option Entry). read_of (Ok o)) c.in-Some.is

pub returns-then-line-gt1024 : goal.returns-then-line-gt1024
returns-then-line-gt1024 c = told (long c.args.line.now c.args.table.now c.if-line-gt1024.true)

pub returns-in_err-entry : goal.returns-in_err-entry
returns-in_err-entry c =
    let e : c.from_residual.result ≡ Err BadLine = search rules in
    let t = told (short c.args.line.now c.args.table.now bad c.if-line-gt1024.false (sym c.in_err-entry.ensures)) in
    (ap answer_of e ∙ t.0, t.1)

pub returns-in_default : goal.returns-in_default
returns-in_default c =
    told (short c.args.line.now c.args.table.now no_entry c.if-line-gt1024.false
    (sym c.in_ok-entry.ensures ∙ ap (λ (o : Option Entry). read_of (Ok o)) c.in_default.is))

pub returns-then-table-at : goal.returns-then-table-at
returns-then-table-at c =
    let i = (goal.at.returns-then-table-at c).In-Some in
    let s = short c.args.line.now c.args.table.now _ c.if-line-gt1024.false (is_read i) in
    elim c.then-table-at.branch [
      | then-table-at-via-then-table-at w ↦ told (s ∙ enter_out _ _ c.args.table.now w.if-table-at.true)
      | then-table-at-via-else-table-at+then-table-at-ne0 w ↦ told (s ∙ enter_full _ _ c.args.table.now w.if-table-at-ne0.true)
    ]

pub returns : goal.returns
returns c =
    told (short c.args.line.now c.args.table.now _ c.if-line-gt1024.false (is_read (goal.at.returns c).In-Some) ∙
    enter_free _ _ c.args.table.now c.if-table-at.false c.if-table-at-ne0.false)
