use mathlib.Core.Path.{◌≡◌, sym, ap, ◌∙◌}
use native.Mathlib.Omega.{arith}
use lib.Dec.{eqb}
use lib.ListN.{drop}
use Rattle.std.specs.Prelude.{Ok}
use Rattle.standard.specs.Sequence.{more, shift}
use Rattle.sequences.specs.Code.{next_of, item_of}
use Rattle.reading.specs.Reading.{ReadOutcome}
use Rattle.reading.proofs.Loop.{Args, next_in, bytes_in, start_running, turn_few, turn_more, turn_width}
use Rattle.reading.proofs.Loop.{turn_space, turn_report, turn_fewer, turn_at, turn_on, stops_no, stops_yes}
use Rattle.reading.proofs.finish.read_few.Goals as goal
use Rattle.reading.proofs.finish.read_few.Goals.{Start, In_default, In-Some}

-- how the loop was called
abbrev call : Start → Args
call c = let a = c.args in record {
  encoding = a.encoding;
  mode = a.mode;
  stage = 0;
  held = a.held;
  chunk = a.chunk.now;
  first = a.t1.now;
  second = a.t2.now;
  mark = 0;
  state = 0;
  flag = 0;
}

pub loop-q-init : goal.loop-q-init
loop-q-init c =
    start_running (call (goal.at.loop-q-init c).Start) c.args.room.now (omega arith) (omega arith) (omega arith) (omega arith)

pub sequence_at-requires : goal.sequence_at-requires
sequence_at-requires c = let R = c.loop-q.invariant in (R.few, R.short, R.place)

-- no whole sequence is left
waits : (c : In_default) → next_in (call (goal.at.In_default c).Start) (shift c.loop-q.s (eqb c.loop-q.f 1))
    (drop c.loop-q.at (bytes_in (call (goal.at.In_default c).Start))) ≡ more
waits c = sym c.sequence_at.ensures ∙ ap next_of c.in_default.is

pub holds-requires : goal.holds-requires
holds-requires c =
    let R = c.loop-q.invariant in
    (R.few, R.short, R.place, turn_few R (waits (goal.at.holds-requires c).In_default))

pub returns-in_default : goal.returns-in_default
returns-in_default c =
    let e = turn_more c.loop-q.invariant (waits (goal.at.returns-in_default c).In_default) in
    (ap Ok c.holds.ensures ∙ ap (λ (o : ReadOutcome). o.left) (sym e), ap (λ (o : ReadOutcome). o.room) (sym e))

-- the sequence that is left
found : (c : In-Some) → item_of c.in-Some.q ≡ next_in (call (goal.at.In-Some c).Start) (shift c.loop-q.s (eqb c.loop-q.f 1))
    (drop c.loop-q.at (bytes_in (call (goal.at.In-Some c).Start)))
found c = ap next_of (sym c.in-Some.is) ∙ c.sequence_at.ensures

pub returns-then-stops : goal.returns-then-stops
returns-then-stops c =
    let k = stops_yes _ _ (sym c.stops.ensures ∙ c.if-stops.true) in
    let e = turn_report c.loop-q.invariant c.in-Some.q (found (goal.at.returns-then-stops c).In-Some) k.0 k.1 in
    (ap (λ (o : ReadOutcome). o.left) (sym e), ap (λ (o : ReadOutcome). o.room) (sym e))

pub put-written-requires : goal.put-written-requires
put-written-requires c = turn_space c.loop-q.invariant c.in-Some.q (found (goal.at.put-written-requires c).In-Some)

pub overflow_add-lines : goal.overflow_add-lines
overflow_add-lines c =
    let R = c.loop-q.invariant in
    omega (arith, c.feeds-lines.ensures, turn_fewer R c.in-Some.q (found (goal.at.overflow_add-lines c).In-Some))

pub overflow_add-at : goal.overflow_add-at
overflow_add-at c = omega (arith, turn_at c.loop-q.invariant c.in-Some.q (found (goal.at.overflow_add-at c).In-Some))

pub loop-q-smaller : goal.loop-q-smaller
loop-q-smaller c =
    let R = c.loop-q.invariant in
    omega (arith, R.place, turn_width R c.in-Some.q (found (goal.at.loop-q-smaller c).In-Some))

pub loop-q-preserved : goal.loop-q-preserved
loop-q-preserved c =
    let goes = stops_no _ _ (sym c.stops.ensures ∙ c.if-stops.false) in
    rw (c.put-written.ensures.0, c.put-written.ensures.1, c.feeds-lines.ensures)
    (turn_on c.loop-q.invariant c.in-Some.q (found (goal.at.loop-q-preserved c).In-Some) c.from-f.result c.from-f.ensures goes)
