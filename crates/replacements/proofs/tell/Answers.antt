use native.Mathlib.Omega.{arith}
use mathlib.Core.Path.{◌≡◌, sym, ap, ◌∙◌}
use mathlib.Core.List.{◌++◌}
use Prim.Native.Nat.{◌+◌, ◌-◌, ◌≤◌}
use lib.ListN.{length}
use Rattle.standard.specs.Encodings.{lent}
use Rattle.reading.specs.Reading.{bytes_of, start_of}
use Rattle.reading.specs.declared.Held.{Held}
use Rattle.reading.proofs.Loop.{all_count}
use Rattle.decoder.specs.Record.{held_of}
use Rattle.decoder.specs.Code.{held_in}
use Rattle.replacements.proofs.Adding.{adds_none}
use Rattle.replacements.proofs.Told.{Accepted, feed_accepted, refusing_none, replacing_all, unshown_none, begins_waiting, begins, walked}
use borrow.Author.Rules.{rules}
use Rattle.replacements.proofs.tell.Goals as goal
use Rattle.replacements.proofs.tell.Goals.{After-starting}

-- what the accepted feed says
abbrev Facts : After-starting → Type 0
Facts c = let a = c.args in Accepted a.d × (length a.chunk.now ≤ 65536) × (a.d.taken + length a.chunk.now ≤ 4294967295)

facts : (c : After-starting) → Facts c
facts c = let a = c.args in let F = c.requires in
    feed_accepted a.d (lent a.t1.now a.t2.now) a.chunk.now F.accepted.0 F.accepted.1

-- the bytes held are the record's
count : (c : After-starting) → c.held-before.result.count ≡ c.args.d.held
count c = ap (λ (h : Held). h.count) c.held-before.ensures

-- where reading starts, by the record
found : (c : After-starting) → let a = c.args in
    c.starting.result ≡ start_of a.d.encoding a.d.stage a.d.state a.d.flag (held_of a.d ++ a.chunk.now)
found c = let a = c.args in
    c.starting.ensures (omega (arith, count c, (facts c).0.few)) (facts c).1 ∙
    ap (λ (h : Held). start_of a.d.encoding a.d.stage a.d.state a.d.flag (bytes_of h ++ a.chunk.now)) c.held-before.ensures

pub returns-then-d-eq1 : goal.returns-then-d-eq1
returns-then-d-eq1 c = let a = c.args in
    adds_none a.spans.now 0 _ (refusing_none a.d.mode _ _ (omega arith))

pub returns-in_default : goal.returns-in_default
returns-in_default c =
    let a = c.args in
    let waiting = begins_waiting (lent a.t1.now a.t2.now) a.d.encoding a.d.stage a.d.state a.d.flag (a.d.taken - a.d.held)
    (held_of a.d ++ a.chunk.now)
    (sym c.in_default.is ∙ found (goal.at.returns-in_default c).After-starting) in
    adds_none a.spans.now 0 _ (replacing_all a.d.mode _ _ (search rules) ∙ waiting)

pub overflow_sub-from : goal.overflow_sub-from
overflow_sub-from c = let h = facts (goal.at.overflow_sub-from c).After-starting in omega (arith, h.0.held)

pub walk-w-requires : goal.walk-w-requires
walk-w-requires c =
    let a = c.args in
    let h = facts (goal.at.walk-w-requires c).After-starting in
    let q = count (goal.at.walk-w-requires c).After-starting in
    let begun = begins (lent a.t1.now a.t2.now) a.d.encoding a.d.stage a.d.state a.d.flag (a.d.taken - a.d.held)
    (held_of a.d ++ a.chunk.now)
    c.in-Some.s (sym c.in-Some.is ∙ found (goal.at.walk-w-requires c).After-starting) in
    let n = all_count (held_in a.d) a.chunk.now h.0.few in
    let s = c.requires.space in
    (omega (arith, q, h.0.few), h.1, omega (arith, q, begun.there, n), omega (arith, q, h.2, h.0.held), omega (arith, q, s))

pub returns-then-has_replacement : goal.returns-then-has_replacement
returns-then-has_replacement c =
    let a = c.args in
    let begun = begins (lent a.t1.now a.t2.now) a.d.encoding a.d.stage a.d.state a.d.flag (a.d.taken - a.d.held)
    (held_of a.d ++ a.chunk.now)
    c.in-Some.s (sym c.in-Some.is ∙ found (goal.at.returns-then-has_replacement c).After-starting) in
    walked {t = lent a.t1.now a.t2.now} (replacing_all a.d.mode _ _ (search rules) ∙ begun.reads)
    (rw (c.held-before.ensures, c.from.ensures) at c.walk-w.ensures)

pub returns : goal.returns
returns c =
    let a = c.args in
    adds_none a.spans.now 0 _
    (unshown_none a.d.mode _ _ a.scalars.now (search rules)
    (c.requires.wrote (search rules))
    (sym c.has_replacement.ensures ∙ c.if-has_replacement.false))
