use mathlib.Core.Path.{◌≡◌, sym, ap, ◌∙◌}
use Prim.Native.Nat.{ℕ, ◌≤◌}
use native.Mathlib.Omega.{arith}
use Rattle.standard.specs.Encodings.{Tables, lent}
use Rattle.reading.specs.Reading.{ReadOutcome, read_chunk}
use Rattle.reading.specs.declared.Held.{Held}
use Rattle.decoder.specs.Calls.{Outcome}
use Rattle.decoder.specs.Code.{refusing, record_refusal, still_to_take}
use Rattle.decoder.proofs.Checks.{feed_read, chunk_read}
use Rattle.decoder.proofs.Totals.{feed_small}
use Rattle.decoder.proofs.Decoder.feed.Goals as goal
use Rattle.decoder.proofs.Decoder.feed.Goals.{After-read-left, Start}

abbrev tables : Start → Tables
tables c = lent c.args.t1.now c.args.t2.now

pub returns-in-Err : goal.returns-in-Err
returns-in-Err c =
    let e = c.in-Err.ensures c.args.chunk.now c.args.room.now in
    (c.refused.ensures ∙ ap (λ (n : ℕ). refusing n c.args.self) c.from.ensures ∙ ap (λ (o : Outcome). o.answer) (sym e), ap (λ (o : Outcome). o.room) (sym e))

abbrev good : (c : After-read-left) → record_refusal c.args.self ≡ 0
good c = c.in_default.ensures.0

within : (c : After-read-left) → c.args.self.taken ≤ 4294967295
within c = omega arith

-- what is read, as the laws say it
abbrev as_read : Start → Held → ReadOutcome
as_read c held =
    let a = c.args in
    read_chunk a.self.encoding a.self.mode a.self.stage a.self.state a.self.flag held (still_to_take a.self)
    (tables c) a.chunk.now a.room.now

abbrev whole : After-read-left → ReadOutcome
whole c =
    let a = c.args in
    chunk_read a.self (tables (goal.at.After-read-left c).Start) a.chunk.now a.room.now (good c)

left : (c : After-read-left) → c.read-left.result ≡ (whole c).left
left c = c.read-left.ensures.0 ∙ ap (λ (held : Held). (as_read (goal.at.After-read-left c).Start held).left) c.held-before.ensures

pub answer-requires : goal.answer-requires
answer-requires c =
    let a = c.args in
    feed_small a.self (tables (goal.at.answer-requires c).Start) a.chunk.now a.room.now (good (goal.at.answer-requires c).After-read-left) (within (goal.at.answer-requires c).After-read-left) (left (goal.at.answer-requires c).After-read-left)

pub returns : goal.returns
returns c =
    let a = c.args in
    feed_read
    a.self
    (tables (goal.at.returns c).Start)
    a.chunk.now
    a.room.now
    (good (goal.at.returns c).After-read-left)
    (within (goal.at.returns c).After-read-left)
    c.in_default.ensures.1
    c.answer.ensures
    (left (goal.at.returns c).After-read-left)
    (c.read-left.ensures.1 ∙ ap (λ (held : Held). (as_read (goal.at.returns c).Start held).room) c.held-before.ensures)
