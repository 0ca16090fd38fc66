use Rattle.std.proofs.Common.{◌≡◌, refl, sym, ap, ◌∙◌, ◌≤◌, take, length, length-take-le, Ok, Err, arith}
use Rattle.std.proofs.Math.Dec.{eqb}
use borrow.Author.Tests.{eqb-true, eqb-false}
use borrow.Rule.Slice.PartMut.{put_mid}
use Rattle.std.proofs.lemmas.Bool.{false≢true}
use Rattle.std.proofs.lemmas.Result.{on_ok_weaker}
use Rattle.std.proofs.lemmas.Slice.{take-put_mid}
use Rattle.standard.proofs.Tests.{split}
use Rattle.mend_spec.specs.Mended.{cells_of}
use Rattle.mend.proofs.Refusals.{table_of, nonzero}
use Rattle.mend.proofs.Whole.{refused_first, refused_table, text_mended}
use Rattle.mend.proofs.run.Goals as goal

pub returns-in-Err : goal.returns-in-Err
returns-in-Err g c =
    let a = c.args in
    let n = c.in_ok-n.n in
    let read = c.in_ok-n.ensures in
    let b = take n c.fill.new.buffer in
    let size : length b ≡ n = length-take-le n c.fill.new.buffer (omega (arith, read.few, c.fill.auto.buffer)) in
    let refusal = c.in-Err.ensures.refusal in
    on_ok_weaker c.refuse.result
    (λ e. refused_first _ _ _ _ _ _ (length a.buffer.now) n 0 a.line.now a.table.now a.rooms.now.room a.rooms.now.spans b
    read.bytes read.end size read.few refl (sym refusal.0) (λ z. omega (arith, refusal.0, refusal.1, z)) e) c.refuse.ensures

pub returns-in-Err-load_table : goal.returns-in-Err-load_table
returns-in-Err-load_table g c =
    let a = c.args in
    let n = c.in_ok-n.n in
    let read = c.in_ok-n.ensures in
    let b = take n c.fill.new.buffer in
    let size : length b ≡ n = length-take-le n c.fill.new.buffer (omega (arith, read.few, c.fill.auto.buffer)) in
    let begun = c.in-Ok.ensures.begun in
    let cells = c.in-Ok.begun.cells in
    let table = take cells a.table.now in
    let after = c.load_table.new.table in
    let loaded = c.in-Err-load_table.ensures in
    let r = c.in-Err-load_table.refusal in
    on_ok_weaker c.refuse-in-Err-load_table.result
    (λ e. refused_table _ _ _ _ _ _ (length a.buffer.now) n cells a.line.now a.table.now a.rooms.now.room a.rooms.now.spans b
    read.bytes read.end size read.few c.in-Ok.ensures.refusal (begun.1 ∙ ap cells_of begun.0) (omega (arith, begun.2, c.requires))
    (λ k. absurd (false≢true (loaded.none k).0)) (λ k. table_of (Err r) a.line.now table after (loaded.file k)) refl
    (λ z. split (eqb (length table) 0)
    (λ q. absurd (false≢true (loaded.none (eqb-true (length table) 0 q)).0))
    (λ q. let p = eqb-false (length table) 0 q in nonzero r a.line.now table after (loaded.file (omega (arith, p))) z))
    e) c.refuse-in-Err-load_table.ensures

pub returns : goal.returns
returns g c =
    let a = c.args in
    let n = c.in_ok-n.n in
    let read = c.in_ok-n.ensures in
    let b = take n c.fill.new.buffer in
    let size : length b ≡ n = length-take-le n c.fill.new.buffer (omega (arith, read.few, c.fill.auto.buffer)) in
    let begun = c.in-Ok.ensures.begun in
    let cells = c.in-Ok.begun.cells in
    let table = take cells a.table.now in
    let after = c.load_table.new.table in
    let loaded = c.in_default.ensures in
    let within : cells ≤ length a.table.now = omega (arith, begun.2, c.requires) in
    let all : length after ≡ cells = c.load_table.auto.table ∙ length-take-le cells a.table.now within in
    let lent_table : take cells (put_mid 0 cells a.table.now after) ≡ after =
    take-put_mid 0 cells a.table.now after cells (omega (arith, all)) (omega arith) in
    on_ok_weaker c.mend_text.result
    (text_mended _ _ _ _ _ _ (length a.buffer.now) n cells a.line.now a.table.now a.rooms.now.room a.rooms.now.spans b
    read.bytes read.end size read.few c.in-Ok.ensures.refusal (begun.1 ∙ ap cells_of begun.0) within
    (λ k. (refl, (loaded.none k).1)) (λ k. table_of (Ok c.in_default.field-0) a.line.now table after (loaded.file k)) refl all c.in-Ok.begun.encoding begun.0)
    (rw (lent_table, c.fill.auto.buffer) at c.mend_text.ensures)
