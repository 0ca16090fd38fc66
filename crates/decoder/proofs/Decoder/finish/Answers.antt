use mathlib.Core.Path.{◌≡◌, sym, ap, ◌∙◌}
use Prim.Native.Nat.{ℕ}
use Rattle.standard.specs.Encodings.{Tables, lent}
use Rattle.reading.specs.Reading.{ReadOutcome}
use Rattle.reading.specs.Reading.{read_end as reading_end}
use Rattle.reading.specs.declared.Held.{Held}
use Rattle.decoder.specs.Calls.{Outcome}
use Rattle.decoder.specs.Code.{refusing, record_refusal}
use Rattle.decoder.proofs.Checks.{finish_read, end_read}
use Rattle.decoder.proofs.Totals.{finish_small}
use Rattle.decoder.proofs.Decoder.finish.Goals as goal
use Rattle.decoder.proofs.Decoder.finish.Goals.{After-end-left, Start}

abbrev tables : Start → Tables
tables c = lent c.args.t1.now c.args.t2.now

pub returns-in-Err : goal.returns-in-Err
returns-in-Err c =
    let e = c.in-Err.ensures c.args.room.now in
    (c.refused.ensures ∙ ap (λ (n : ℕ). refusing n c.args.self) c.from.ensures ∙ ap (λ (o : Outcome). o.answer) (sym e), ap (λ (o : Outcome). o.room) (sym e))

abbrev good : (c : After-end-left) → record_refusal c.args.self ≡ 0
good c = c.in_default.ensures.0

-- what the end leaves, as the laws say it
abbrev as_read : Start → Held → ReadOutcome
as_read c held =
    let a = c.args in
    reading_end a.self.encoding a.self.mode a.self.stage a.self.state a.self.flag held (tables c) a.room.now

abbrev whole : After-end-left → ReadOutcome
whole c =
    let a = c.args in
    end_read a.self (tables (goal.at.After-end-left c).Start) a.room.now (good c)

left : (c : After-end-left) → c.end-left.result ≡ (whole c).left
left c = c.end-left.ensures.0 ∙ ap (λ (held : Held). (as_read (goal.at.After-end-left c).Start held).left) c.held-before.ensures

pub end_answer-requires : goal.end_answer-requires
end_answer-requires c =
    let a = c.args in
    finish_small a.self (tables (goal.at.end_answer-requires c).Start) a.room.now (good (goal.at.end_answer-requires c).After-end-left) (left (goal.at.end_answer-requires c).After-end-left)

pub returns : goal.returns
returns c =
    let a = c.args in
    finish_read
    a.self
    (tables (goal.at.returns c).Start)
    a.room.now
    (good (goal.at.returns c).After-end-left)
    c.in_default.ensures.1
    c.end_answer.ensures
    (left (goal.at.returns c).After-end-left)
    (c.end-left.ensures.1 ∙ ap (λ (held : Held). (as_read (goal.at.returns c).Start held).room) c.held-before.ensures)
