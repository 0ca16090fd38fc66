use mathlib.Core.Path.{◌≡◌}
use lib.Dec.{eqb}
use Rattle.standard.specs.Encodings.{lent, ISO-2022-JP}
use Rattle.standard.specs.Sequence.{shift}
use Rattle.runs.proofs.Running.{Going, runs_none, going_start, going_runs}
use native.Mathlib.Omega.{arith}
use Rattle.iso_2022_jp_runs.proofs.stretch.Goals as goal
use Rattle.iso_2022_jp_runs.proofs.stretch.Goals.{After-eights-r}

-- the run behind the eights
come : (c : After-eights-r) →
    let args = c.args in
    let r = c.eights-r.result in
    Going (lent args.t1.now args.t2.now) ISO-2022-JP args.mode args.chunk.now args.p.at r.at
    (shift 0 (eqb args.p.flag 1)) (shift 0 (eqb r.flag 1)) args.p.written r.written args.room.now c.eights-r.new.room
come c =
    going_runs (going_start c.requires) (c.eights-r.ensures (lent c.args.t1.now c.args.t2.now))

pub bytes-requires : goal.bytes-requires
bytes-requires c = (come (goal.at.bytes-requires c).After-eights-r).here

pub returns-then-p-eq0 : goal.returns-then-p-eq0
returns-then-p-eq0 c =
    let args = c.args in
    let e : args.p.state ≡ 0 = omega arith in
    rw e (going_runs (come (goal.at.returns-then-p-eq0 c).After-eights-r) (c.bytes.ensures (lent args.t1.now args.t2.now))).runs

pub returns-then-p-eq3 : goal.returns-then-p-eq3
returns-then-p-eq3 c =
    let args = c.args in
    let e : args.p.state ≡ 3 = omega arith in
    rw e (c.pairs.ensures args.t2.now)

pub returns : goal.returns
returns c =
    let args = c.args in
    runs_none (lent args.t1.now args.t2.now) ISO-2022-JP
