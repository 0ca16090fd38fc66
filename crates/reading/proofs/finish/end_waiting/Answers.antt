use mathlib.Core.Path.{sym, ap, ◌∙◌}
use native.Mathlib.Omega.{arith}
use Rattle.std.proofs.lemmas.Result.{err_from_is_err_and}
use Rattle.std.specs.Prelude.{Err}
use Rattle.standard.specs.Encodings.{lent}
use Rattle.reading.specs.Reading.{ReadOutcome}
use Rattle.reading.proofs.Waiting.{Waited, wait_report, waited}
use Rattle.reading.proofs.finish.end_waiting.Goals as goal
use Rattle.reading.proofs.finish.end_waiting.Goals.{In_ok-left}

on : (c : In_ok-left) → Waited c.args.encoding c.args.mode c.args.held (lent c.args.t1.now c.args.t2.now) c.args.room.now c.in_ok-left.left
    c.read_few.new.room
on c =
    let a = c.args in
    waited a.encoding a.mode a.held (lent a.t1.now a.t2.now) a.room.now (omega arith) (omega arith)
    (sym c.in_ok-left.was ∙ c.read_few.ensures.0) c.read_few.ensures.1

pub returns-in_err-left : goal.returns-in_err-left
returns-in_err-left c =
    let a = c.args in
    let p = err_from_is_err_and c.from_residual.result c.from_residual.ensures.1 in
    let r = wait_report a.encoding a.mode a.held (lent a.t1.now a.t2.now) a.room.now c.read_few.ensures.0 c.read_few.ensures.1 c.in_err-left.was in
    (p.1 ∙ ap Err p.2 ∙ sym c.in_err-left.was ∙ r.0, r.1)

pub overflow_sub-held : goal.overflow_sub-held
overflow_sub-held c = (on (goal.at.overflow_sub-held c).In_ok-left).less

pub rest-requires : goal.rest-requires
rest-requires c = omega (arith, on (goal.at.rest-requires c).In_ok-left)

pub returns : goal.returns
returns c =
    let e = (on (goal.at.returns c).In_ok-left).outcome in
    (c.rest.ensures.0 ∙ ap (λ (r : ReadOutcome). r.left) e, c.rest.ensures.1 ∙ ap (λ (r : ReadOutcome). r.room) e)
