use Rattle.std.proofs.Common.{◌≡◌, ap, ℕ, ◌<◌, ◌-◌, List, length, Bor, arith}
use Rattle.list.proofs.Spanned.{Inside, inside, spanned}
use Rattle.list.proofs.lines.LinesIterator.next.Goals as goal
use Rattle.list.proofs.lines.LinesIterator.next.Goals.{After-line-span}

lies : (c : After-line-span) → let s = c.args.self.now in Inside s.cursor.text.now s.cursor.at c.line-span.result
lies c = let s = c.args.self.now in inside s.cursor.text.now s.number s.cursor.at c.line-span.result c.if-at-text.false c.line-span.ensures

pub slice_bounds-found-count : goal.slice_bounds-found-count
slice_bounds-found-count c = (lies (goal.at.slice_bounds-found-count c).After-line-span).low

pub slice_bounds-found-start : goal.slice_bounds-found-start
slice_bounds-found-start c = (lies (goal.at.slice_bounds-found-start c).After-line-span).low

pub slice_bounds-found-end : goal.slice_bounds-found-end
slice_bounds-found-end c = (lies (goal.at.slice_bounds-found-end c).After-line-span).high

pub invariant_of-self : goal.invariant_of-self
invariant_of-self c = record {
  counted = omega (arith, (lies (goal.at.invariant_of-self c).After-line-span).on, c.moved-self.ensures.1, c.args.self.now.counted);
}

pub returns-clause-steps : goal.returns-clause-steps
returns-clause-steps c =
    let s = c.args.self.now in
    (c.moved-self.ensures.0, spanned s.cursor.text.now s.number s.cursor.at c.line-span.result c.if-at-text.false c.line-span.ensures _ c.moved-self.ensures.1)

pub returns-clause-goes : goal.returns-clause-goes
returns-clause-goes c =
    let s = c.args.self.now.cursor in
    let t = c.moved-self.result in
    let same : length t.text.now ≡ length s.text.now = ap (λ (x : Bor (List ℕ)). length x.now) c.moved-self.ensures.0 in
    let fewer : length t.text.now - t.at < length s.text.now - s.at =
    omega (arith, same, c.moved-self.ensures.1, (lies (goal.at.returns-clause-goes c).After-line-span).on) in
    record { on = λ _. (tt, tt, fewer); keeps = tt; rests = λ _. tt }
