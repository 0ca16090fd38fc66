use Rattle.std.proofs.Common.{◌≡◌, refl, sym, ap, ◌∙◌, ◌+◌, ◌<◌, ◌≤◌, List, ℕ, length, Bor, rules, arith}
use borrow.Author.Tests.{eqb-true, eqb-false}
use Rattle.std.specs.Result.{is_ok}
use Rattle.std.proofs.lemmas.Result.{err_from_is_err_and}
use Rattle.list.specs.Faults.{number_of}
use Rattle.list.specs.Walking.{line_with, LineAt}
use Rattle.list.proofs.Judging.{judged_empty, judged_on, judged_fault, judged_none, number_pos, ok_at, told}
use Rattle.list.proofs.Marks.{split_start, split_on, mark_empty, mark_next, mark_none}
use Rattle.list.proofs.judge.judge_by.Goals as goal
use Rattle.list.proofs.judge.judge_by.Goals.{In-Some}
use Rattle.list.proofs.judge.judge_by.Given.{Over}

-- the line of this turn
turn : (g : Over) (c : In-Some g) →
    let it = c.loop-line.line-iterator in
    let l = c.in-Some.line in
    LineAt c.args.text.now it.number it.cursor.at l.number l.start l.chars.now c.next.new.self.number c.next.new.self.cursor.at
turn g c = rw c.loop-line.invariant.text at c.in-Some.ensures.steps.1

pub loop-line-init : goal.loop-line-init
loop-line-init g c =
    let e = c.new-line-items.ensures in
    let t = c.fill.ensures in
    rw (c.into_iter-line-iterator.ensures.into_iter_gives, e.1, e.2) (record {
      text = ap (λ (x : Bor (List ℕ)). x.now) e.0;
      names = ap (λ (x : Bor (List ℕ)). x.now) t.0;
      few = omega arith;
      near = omega arith;
      judges = record { same = refl; number = omega arith };
      split = split_start c.args.text.now;
      marked = rw t.1 (mark_none _ _ _ _);
    })

pub loop-line-preserved-then-is_empty : goal.loop-line-preserved-then-is_empty
loop-line-preserved-then-is_empty g c =
    let text = c.args.text.now in
    let names = c.args.names.now in
    let it = c.loop-line.line-iterator in
    let l = c.in-Some.line in
    let i = c.loop-line.invariant in
    let s = turn g (goal.at.loop-line-preserved-then-is_empty g c).In-Some in
    let on : it.cursor.at < c.next.new.self.cursor.at = omega (arith, s.starts, s.behind) in
    let none : length l.chars.now ≡ 0 = eqb-true _ _ (sym c.if-is_empty.ensures) in
    let empty : l.start + length l.chars.now ≤ l.start = omega arith in
    let line = line_with l.number l.start l.chars.now in record {
      text = ap (λ (x : Bor (List ℕ)). x.now) c.next.ensures.steps.0 ∙ i.text;
      names = i.names;
      few = omega (arith, i.few);
      near = s.near;
      judges = judged_empty text names line _ c.loop-line.options (rw s.turn at i.judges) empty;
      split = split_on text it.number it.cursor.at _ _ line s.turn s.starts on i.split;
      marked = mark_next text it.number it.cursor.at _ _ line s.turn s.starts on i.split names _ _ i.marked _ (mark_empty text names _ _ line empty);
    }

pub returns-in_err-map_err : goal.returns-in_err-map_err
returns-in_err-map_err g c =
    let l = c.in-Some.line in
    let s = turn g (goal.at.returns-in_err-map_err g c).In-Some in
    let i = c.loop-line.invariant in
    let some : l.start < l.start + length l.chars.now = omega (arith, eqb-false _ _ (sym c.if-is_empty.ensures)) in
    let p = err_from_is_err_and c.from_residual.result c.from_residual.ensures.1 in
    let q = told c.judge_line.result c.in_err-map_err.field-0.0 l.number _ c.in_err-map_err.ensures.cases (λ f h. search rules) in
    rw (p.1, p.2, q.1) (judged_fault c.args.text.now c.args.names.now (line_with l.number l.start l.chars.now) _ c.loop-line.options (rw s.turn at i.judges) some
    (number_of c.in_err-map_err.field-0.0.fault) (number_pos c.in_err-map_err.field-0.0.fault) (rw (i.names, q.0) at c.judge_line.ensures.judges))

pub overflow_add-options : goal.overflow_add-options
overflow_add-options g c =
    let s = turn g (goal.at.overflow_add-options g c).In-Some in
    let h : c.loop-line.options + 1 ≤ length c.args.text.now + 1 = omega (arith, s.starts, s.behind, s.near, c.loop-line.invariant.few) in
    search rules

pub loop-line-preserved : goal.loop-line-preserved
loop-line-preserved g c =
    let text = c.args.text.now in
    let names = c.args.names.now in
    let it = c.loop-line.line-iterator in
    let l = c.in-Some.line in
    let i = c.loop-line.invariant in
    let s = turn g (goal.at.loop-line-preserved g c).In-Some in
    let on : it.cursor.at < c.next.new.self.cursor.at = omega (arith, s.starts, s.behind) in
    let some : l.start < l.start + length l.chars.now = omega (arith, eqb-false _ _ (sym c.if-is_empty.ensures)) in
    let ok = ok_at c.judge_line.result _ c.judge_line.ensures.marks (sym c.map_err.ensures.variant ∙ ap is_ok c.in_ok-map_err.was) in
    let line = line_with l.number l.start l.chars.now in record {
      text = ap (λ (x : Bor (List ℕ)). x.now) c.next.ensures.steps.0 ∙ i.text;
      names = ap (λ (x : Bor (List ℕ)). x.now) c.judge_line.ensures.kept.0 ∙ i.names;
      few = omega (arith, i.few);
      near = s.near;
      judges = judged_on text names line _ c.loop-line.options (rw s.turn at i.judges) some (rw (i.names, ok.0) at c.judge_line.ensures.judges);
      split = split_on text it.number it.cursor.at _ _ line s.turn s.starts on i.split;
      marked = rw c.judge_line.ensures.kept.1 (mark_next text it.number it.cursor.at _ _ line s.turn s.starts on i.split names _ _ i.marked _
          (rw i.names at ok.1));
    }

pub returns : goal.returns
returns g c =
    let it = c.loop-line.line-iterator in
    let h = rw c.loop-line.invariant.text at c.in-None.ensures.steps.1 in
    judged_none c.args.text.now c.args.names.now it.number it.cursor.at c.loop-line.options h c.loop-line.invariant.judges
