use mathlib.Core.Path.{◌≡◌, ◌∙◌}
use native.Mathlib.Omega.{arith}
use Prim.Native.Nat.{◌+◌, ◌≤◌}
use lib.ListN.{length, drop}
use Rattle.standard.specs.Encodings.{lent, ISO-2022-JP}
use Rattle.standard.specs.Next.{next}
use Rattle.standard.proofs.Families.{by_33}
use Rattle.sequences.specs.Code.{item_of}
use Rattle.sequences.proofs.Flags.{flag_kept}
use Rattle.runs.specs.Run.{shift_at}
use Rattle.runs.proofs.Running.{Going, going_start, going_runs, going_silent}
use Rattle.runs.proofs.Scalars.{silent_item}
use Rattle.runs.proofs.Steps.{found_gives, found_silent, found_width}
use Rattle.iso_2022_jp_runs.proofs.sequences.Goals as goal
use Rattle.iso_2022_jp_runs.proofs.sequences.Goals.{After-stretch-r, In-Some-next_at}

-- the run behind the stretch
come : (c : After-stretch-r) →
    let args = c.args in
    let r = c.stretch-r.result in
    Going (lent args.t1.now args.t2.now) ISO-2022-JP args.mode args.chunk.now args.p.at r.at (shift_at args.p) (shift_at r)
    args.p.written r.written args.room.now c.stretch-r.new.room
come c = going_runs c.loop-state.invariant c.stretch-r.ensures

-- the sequence there
found : (c : In-Some-next_at) →
    let args = c.args in
    let r = c.stretch-r.result in
    item_of c.in-Some-next_at.q ≡ next (lent args.t1.now args.t2.now) ISO-2022-JP (shift_at r) (drop r.at args.chunk.now)
found c =
    let r = c.stretch-r.result in
    c.in-Some-next_at.ensures ∙ by_33 (lent c.args.t1.now c.args.t2.now) (shift_at r) (drop r.at c.args.chunk.now)

-- has a byte or more, all of them in the chunk
width : (c : In-Some-next_at) → (1 ≤ c.in-Some-next_at.q.width) × (c.stretch-r.result.at + c.in-Some-next_at.q.width ≤ length c.args.chunk.now)
width c = found_width (come (goal.at.In-Some-next_at c).After-stretch-r) c.in-Some-next_at.q (found c)

pub loop-state-init : goal.loop-state-init
loop-state-init c = going_start c.requires

pub loop-state-preserved-in-Some : goal.loop-state-preserved-in-Some
loop-state-preserved-in-Some c =
    going_silent (come (goal.at.loop-state-preserved-in-Some c).After-stretch-r)
    (c.in-Some.ensures.1 (lent c.args.t1.now c.args.t2.now) c.stretch-r.result.state)

pub returns-in_default-next_at : goal.returns-in_default-next_at
returns-in_default-next_at c = (come (goal.at.returns-in_default-next_at c).After-stretch-r).runs

pub loop-state-smaller-in-Nothing : goal.loop-state-smaller-in-Nothing
loop-state-smaller-in-Nothing c =
    omega (arith, c.stretch-r.ensures.ahead, (come (goal.at.loop-state-smaller-in-Nothing c).After-stretch-r).here, width (goal.at.loop-state-smaller-in-Nothing c).In-Some-next_at)

pub loop-state-preserved-in-Nothing : goal.loop-state-preserved-in-Nothing
loop-state-preserved-in-Nothing c =
    let q = c.in-Some-next_at.q in
    rw (c.from-flag.ensures, flag_kept q.shift.flag)
    (found_silent (come (goal.at.loop-state-preserved-in-Nothing c).After-stretch-r) q (found (goal.at.loop-state-preserved-in-Nothing c).In-Some-next_at)
    (silent_item q c.in-Nothing.is))

pub returns-in_default-scalar_of : goal.returns-in_default-scalar_of
returns-in_default-scalar_of c = (come (goal.at.returns-in_default-scalar_of c).After-stretch-r).runs

pub bounds-room-r : goal.bounds-room-r
bounds-room-r c =
    let G = come (goal.at.bounds-room-r c).After-stretch-r in
    omega (arith, G.here, width (goal.at.bounds-room-r c).In-Some-next_at)

pub loop-state-smaller : goal.loop-state-smaller
loop-state-smaller c =
    omega (arith, c.stretch-r.ensures.ahead, (come (goal.at.loop-state-smaller c).After-stretch-r).here, width (goal.at.loop-state-smaller c).In-Some-next_at)

pub loop-state-preserved : goal.loop-state-preserved
loop-state-preserved c =
    let q = c.in-Some-next_at.q in
    rw (c.from-flag.ensures, flag_kept q.shift.flag)
    (found_gives (come (goal.at.loop-state-preserved c).After-stretch-r) q (found (goal.at.loop-state-preserved c).In-Some-next_at)
    c.in-Some-scalar_of.ensures)
