use Rattle.std.proofs.Common.{◌≡◌, sym, ap, ◌∙◌, ◌+◌, ◌<◌, List, ℕ, length, Bor, arith}
use borrow.Author.Tests.{eqb-true, eqb-false}
use Rattle.list_spec.specs.ListCall.{cells_of}
use Rattle.list.specs.Walking.{line_with, LineAt}
use Rattle.list.proofs.Cells.{cells_are, writes_empty, writes_fit, writes_on, writes_none}
use Rattle.list.proofs.write.write.Goals as goal
use Rattle.list.proofs.write.write.Goals.{In-Some, Else-is_empty}

-- the line of this turn
turn : (c : In-Some) →
    let it = c.loop-line.line-iterator in
    let l = c.in-Some.line in
    LineAt c.args.text.now it.number it.cursor.at l.number l.start l.chars.now c.next.new.self.number c.next.new.self.cursor.at
turn c = rw c.loop-line.invariant.text at c.in-Some.ensures.steps.1

some : (c : Else-is_empty) → let l = c.in-Some.line in l.start < l.start + length l.chars.now
some c = omega (arith, eqb-false _ _ (sym c.if-is_empty.ensures))

pub loop-line-preserved-then-is_empty : goal.loop-line-preserved-then-is_empty
loop-line-preserved-then-is_empty c =
    let l = c.in-Some.line in
    let s = turn (goal.at.loop-line-preserved-then-is_empty c).In-Some in
    let none : length l.chars.now ≡ 0 = eqb-true _ _ (sym c.if-is_empty.ensures) in record {
      text = ap (λ (x : Bor (List ℕ)). x.now) c.next.ensures.steps.0 ∙ c.loop-line.invariant.text;
      writes = writes_empty c.args.text.now c.loop-line.room (line_with l.number l.start l.chars.now) _ c.loop-line.at _
          (rw s.turn at c.loop-line.invariant.writes) (omega arith);
    }

pub slice_bounds-copy_from_slice-end : goal.slice_bounds-copy_from_slice-end
slice_bounds-copy_from_slice-end c =
    let l = c.in-Some.line in
    let s = turn (goal.at.slice_bounds-copy_from_slice-end c).In-Some in
    writes_fit c.args.text.now c.loop-line.room (line_with l.number l.start l.chars.now) _ c.loop-line.at _
    (rw s.turn at c.loop-line.invariant.writes) (some c)

pub loop-line-preserved : goal.loop-line-preserved
loop-line-preserved c =
    let l = c.in-Some.line in
    let s = turn (goal.at.loop-line-preserved c).In-Some in
    let line = line_with l.number l.start l.chars.now in
    let out : c.copy_from_slice.new.self ≡ cells_of c.args.text.now line =
    c.copy_from_slice.ensures.after ∙ c.cells_of.ensures ∙ cells_are c.args.text.now l.number l.start l.chars.now s.lies in record {
      text = ap (λ (x : Bor (List ℕ)). x.now) c.next.ensures.steps.0 ∙ c.loop-line.invariant.text;
      writes = writes_on c.args.text.now c.loop-line.room line _ c.loop-line.at _ (rw s.turn at c.loop-line.invariant.writes)
          (some (goal.at.loop-line-preserved c).Else-is_empty) _ c.copy_from_slice.new.self (omega arith) out;
    }

pub returns : goal.returns
returns c =
    let it = c.loop-line.line-iterator in
    let h = rw c.loop-line.invariant.text at c.in-None.ensures.steps.1 in
    writes_none c.args.text.now c.loop-line.room it.number it.cursor.at c.loop-line.at _ h c.loop-line.invariant.writes
