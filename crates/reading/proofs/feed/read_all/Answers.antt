use mathlib.Core.List.{List}
use mathlib.Core.Path.{◌≡◌, sym, ap, ◌∙◌}
use Prim.Native.Nat.{ℕ, ◌+◌}
use native.Mathlib.Omega.{arith}
use lib.Dec.{eqb}
use lib.ListN.{drop}
use Rattle.std.specs.Prelude.{Ok}
use Rattle.standard.specs.Sequence.{Next, more, shift}
use Rattle.sequences.specs.Code.{next_of, item_of}
use Rattle.reading.specs.Reading.{ReadOutcome}
use Rattle.reading.proofs.Loop.{Args, Running, next_in, bytes_in, start_running, carried, turn_done, turn_none, turn_few, turn_more, turn_width}
use Rattle.reading.proofs.Loop.{turn_space, turn_report, turn_fewer, turn_at, turn_on, stops_no, stops_yes}
use Rattle.reading.proofs.feed.read_all.Goals as goal
use Rattle.reading.proofs.feed.read_all.Goals.{After-sequence_at, In_default, In-Some, After-struct_known-in-loop-at-1, After-struct_known-in-loop-at-2-1, Start}

abbrev call : Start → Args
call c = let a = c.args in record {
  encoding = a.encoding;
  mode = a.mode;
  stage = a.stage;
  held = a.held;
  chunk = a.chunk.now;
  first = a.t1.now;
  second = a.t2.now;
  mark = a.mark;
  state = a.state;
  flag = a.flag;
}

abbrev Behind : After-struct_known-in-loop-at-1 → Type 0
Behind c = (room : List ℕ) × Running (call (goal.at.After-struct_known-in-loop-at-1 c).Start) c.args.room.now room c.run_from-p.result.at
    c.run_from-p.result.state c.run_from-p.result.flag c.run_from-p.result.written
    (c.loop-at.lines + c.run_from-p.result.lines)

abbrev carry : (c : After-struct_known-in-loop-at-1) → Behind c
carry c = (
  _,
  carried {state' = c.run_from-p.result.state} {flag' = c.run_from-p.result.flag} c.loop-at.invariant
      c.run_from-p.ensures.run c.run_from-p.ensures.lines,
)

-- the same once its line feeds are added
abbrev ran : (c : After-struct_known-in-loop-at-2-1) → Behind (goal.at.After-struct_known-in-loop-at-2-1 c).After-struct_known-in-loop-at-1
ran c = carry (goal.at.After-struct_known-in-loop-at-2-1 c).After-struct_known-in-loop-at-1

pub returns-then-mark-held : goal.returns-then-mark-held
returns-then-mark-held c =
    let R = start_running (call (goal.at.returns-then-mark-held c).Start) c.args.room.now (omega arith) (omega arith) (omega arith) (omega arith) in
    let e = turn_none R (omega arith) in
    (ap Ok c.untouched.ensures ∙ ap (λ (o : ReadOutcome). o.left) (sym e), ap (λ (o : ReadOutcome). o.room) (sym e))

pub loop-at-init : goal.loop-at-init
loop-at-init c =
    start_running (call (goal.at.loop-at-init c).Start) c.args.room.now (omega arith) (omega arith) (omega arith) (omega arith)

pub run_from-p-requires : goal.run_from-p-requires
run_from-p-requires c = let R = c.loop-at.invariant in (R.few, R.short, R.place, R.space)

pub overflow_add-lines : goal.overflow_add-lines
overflow_add-lines c = let R = (carry c).1 in omega (arith, R.fewer, R.space, R.size)

pub overflow_add-held-in-loop-at : goal.overflow_add-held-in-loop-at
overflow_add-held-in-loop-at c = let R = (ran c).1 in omega (arith, R.few, R.short)

pub holds-requires : goal.holds-requires
holds-requires c = let R = (ran (goal.at.holds-requires c).After-struct_known-in-loop-at-2-1).1 in (R.few, R.short, R.place, omega arith)

pub shape_of-room-then-at-held : goal.shape_of-room-then-at-held
shape_of-room-then-at-held c = (ran (goal.at.shape_of-room-then-at-held c).After-struct_known-in-loop-at-2-1).1.size

pub returns-then-at-held : goal.returns-then-at-held
returns-then-at-held c =
    let e = turn_done (ran (goal.at.returns-then-at-held c).After-struct_known-in-loop-at-2-1).1 (omega arith) in
    (ap Ok c.holds.ensures ∙ ap (λ (o : ReadOutcome). o.left) (sym e), ap (λ (o : ReadOutcome). o.room) (sym e))

pub sequence_at-requires : goal.sequence_at-requires
sequence_at-requires c = let R = (ran (goal.at.sequence_at-requires c).After-struct_known-in-loop-at-2-1).1 in (R.few, R.short, R.place)

-- the bytes that are left, and what the definition finds there
abbrev here : After-sequence_at → Next
here c =
    let p = c.run_from-p.result in
    let a = call (goal.at.After-sequence_at c).Start in
    next_in a (shift p.state (eqb p.flag 1)) (drop p.at (bytes_in a))

-- no whole sequence
waits : (c : In_default) → here (goal.at.In_default c).After-sequence_at ≡ more
waits c = sym c.sequence_at.ensures ∙ ap next_of c.in_default.is

pub holds-requires-in_default : goal.holds-requires-in_default
holds-requires-in_default c =
    let R = (ran (goal.at.holds-requires-in_default c).After-struct_known-in-loop-at-2-1).1 in
    (R.few, R.short, R.place, turn_few R (waits (goal.at.holds-requires-in_default c).In_default))

pub returns-in_default : goal.returns-in_default
returns-in_default c =
    let R = (ran (goal.at.returns-in_default c).After-struct_known-in-loop-at-2-1).1 in
    let e = turn_more R (waits (goal.at.returns-in_default c).In_default) in
    (ap Ok c.holds-in_default.ensures ∙ ap (λ (o : ReadOutcome). o.left) (sym e), ap (λ (o : ReadOutcome). o.room) (sym e))

-- a sequence
found : (c : In-Some) → item_of c.in-Some.q ≡ here (goal.at.In-Some c).After-sequence_at
found c = ap next_of (sym c.in-Some.is) ∙ c.sequence_at.ensures

pub returns-then-stops : goal.returns-then-stops
returns-then-stops c =
    let R = (ran (goal.at.returns-then-stops c).After-struct_known-in-loop-at-2-1).1 in
    let k = stops_yes _ _ (sym c.stops.ensures ∙ c.if-stops.true) in
    let e = turn_report R c.in-Some.q (found (goal.at.returns-then-stops c).In-Some) k.0 k.1 in
    (ap (λ (o : ReadOutcome). o.left) (sym e), ap (λ (o : ReadOutcome). o.room) (sym e))

pub put-written-requires : goal.put-written-requires
put-written-requires c =
    turn_space (ran (goal.at.put-written-requires c).After-struct_known-in-loop-at-2-1).1 c.in-Some.q (found (goal.at.put-written-requires c).In-Some)

pub overflow_add-lines-in-loop-at : goal.overflow_add-lines-in-loop-at
overflow_add-lines-in-loop-at c =
    let R = (ran (goal.at.overflow_add-lines-in-loop-at c).After-struct_known-in-loop-at-2-1).1 in
    omega (arith, c.feeds-lines.ensures, turn_fewer R c.in-Some.q (found (goal.at.overflow_add-lines-in-loop-at c).In-Some))

pub overflow_add-at : goal.overflow_add-at
overflow_add-at c =
    let R = (ran (goal.at.overflow_add-at c).After-struct_known-in-loop-at-2-1).1 in
    omega (arith, turn_at R c.in-Some.q (found (goal.at.overflow_add-at c).In-Some))

pub loop-at-smaller : goal.loop-at-smaller
loop-at-smaller c =
    let R = (ran (goal.at.loop-at-smaller c).After-struct_known-in-loop-at-2-1).1 in
    omega (arith, c.run_from-p.ensures.run.ahead, R.place, turn_width R c.in-Some.q (found (goal.at.loop-at-smaller c).In-Some))

pub loop-at-preserved : goal.loop-at-preserved
loop-at-preserved c =
    let R = (ran (goal.at.loop-at-preserved c).After-struct_known-in-loop-at-2-1).1 in
    let goes = stops_no _ _ (sym c.stops.ensures ∙ c.if-stops.false) in
    rw (c.put-written.ensures.0, c.put-written.ensures.1, c.feeds-lines.ensures)
    (turn_on R c.in-Some.q (found (goal.at.loop-at-preserved c).In-Some) c.from-f.result c.from-f.ensures goes)
