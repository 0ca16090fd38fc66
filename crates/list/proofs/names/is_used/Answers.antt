use Rattle.std.proofs.Common.{refl, sym, ap, ◌∙◌, List, ℕ, Bor, arith}
use Rattle.list.specs.Walking.{LineAt}
use Rattle.list.proofs.Known.{used_end, used_none, used_hit, used_on}
use Rattle.list.proofs.names.is_used.Goals as goal
use Rattle.list.proofs.names.is_used.Goals.{In-Some}

-- the line of this turn
turn : (c : In-Some) →
    let it = c.loop-line.line-iterator in
    let l = c.in-Some.line in
    LineAt c.args.text.now it.number it.cursor.at l.number l.start l.chars.now c.next.new.self.number c.next.new.self.cursor.at
turn c = rw c.loop-line.invariant.text at c.in-Some.ensures.steps.1

pub loop-line-init : goal.loop-line-init
loop-line-init c =
    let e = c.new-line-items.ensures in
    rw (c.into_iter-line-iterator.ensures.into_iter_gives, e.1, e.2) (record { text = ap (λ (x : Bor (List ℕ)). x.now) e.0; same = refl })

pub returns-then-line-place : goal.returns-then-line-place
returns-then-line-place c =
    let it = c.loop-line.line-iterator in
    let s = turn (goal.at.returns-then-line-place c).In-Some in
    sym (sym c.loop-line.invariant.same ∙ used_end c.args.text.now c.args.place c.args.name.now it.number it.cursor.at (omega (arith, s.starts)))

pub returns-then-eq : goal.returns-then-eq
returns-then-eq c =
    let it = c.loop-line.line-iterator in
    used_hit c.args.text.now it.number it.cursor.at _ _ _ _ _ (turn (goal.at.returns-then-eq c).In-Some) c.args.place c.args.name.now
    _ c.name.ensures c.if-line-place.false c.if-eq.ensures ∙ c.loop-line.invariant.same

pub loop-line-preserved : goal.loop-line-preserved
loop-line-preserved c =
    let it = c.loop-line.line-iterator in record {
      text = ap (λ (x : Bor (List ℕ)). x.now) c.next.ensures.steps.0 ∙ c.loop-line.invariant.text;
      same = sym (used_on c.args.text.now it.number it.cursor.at _ _ _ _ _ (turn (goal.at.loop-line-preserved c).In-Some) c.args.place c.args.name.now
          _ c.name.ensures c.if-line-place.false c.if-eq.ensures) ∙ c.loop-line.invariant.same;
    }

pub returns : goal.returns
returns c =
    let it = c.loop-line.line-iterator in
    let h = rw c.loop-line.invariant.text at c.in-None.ensures.steps.1 in
    sym (sym c.loop-line.invariant.same ∙ used_none c.args.text.now c.args.place c.args.name.now it.number it.cursor.at h)
