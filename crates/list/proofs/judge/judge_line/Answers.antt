use Rattle.std.proofs.Common.{◌∙◌, ◌+◌, ◌<◌, length, take, arith}
use Rattle.list.specs.Walking.{line_with}
use Rattle.list.proofs.Judging.{on_ok, found_below, found_none, fault_none, fault_several, fault_nameless, Named, named}
use Rattle.list.proofs.Marks.{miss_mark, hit_mark, hit_used, hit_free}
use Rattle.list.proofs.judge.judge_line.Goals as goal
use Rattle.list.proofs.judge.judge_line.Goals.{After-look}
use Rattle.list.proofs.judge.judge_line.Given.{Over}

pub returns-in_default-clause-judges : goal.returns-in_default-clause-judges
returns-in_default-clause-judges g c =
    let l = c.args.line in
    fault_none c.args.text.now c.args.table.now.names.now l.number l.start l.chars.now c.requires.lies c.requires.long c.in_default.ensures

pub returns-then-is_some-clause-judges : goal.returns-then-is_some-clause-judges
returns-then-is_some-clause-judges g c =
    let l = c.args.line in
    fault_several c.args.text.now c.args.table.now.names.now l.number l.start l.chars.now c.requires.lies c.requires.long c.in-Some.tab
    c.in-Some.ensures.0 c.in-Some.ensures.1 (found_below c.find-2.result _ _ c.find-2.ensures c.if-is_some.ensures)

pub returns-then-tab-eq0-clause-judges : goal.returns-then-tab-eq0-clause-judges
returns-then-tab-eq0-clause-judges g c =
    let l = c.args.line in
    fault_nameless c.args.text.now c.args.table.now.names.now l.number l.start l.chars.now c.requires.lies c.requires.long c.in-Some.tab
    c.in-Some.ensures.0 c.in-Some.ensures.1 (found_none c.find-2.result _ _ c.find-2.ensures c.if-is_some.ensures) c.if-tab-eq0.true

-- the line has one tab, behind a name that is not empty
one_tab : (g : Over) (c : After-look g) →
    let l = c.args.line in
    Named c.args.text.now c.args.table.now.names.now (line_with l.number l.start l.chars.now) (take c.in-Some.tab l.chars.now)
one_tab g c =
    let l = c.args.line in
    named c.args.text.now c.args.table.now.names.now l.number l.start l.chars.now c.requires.lies c.requires.long c.in-Some.tab
    c.in-Some.ensures.0 c.in-Some.ensures.1 (found_none c.find-2.result _ _ c.find-2.ensures c.if-is_some.ensures) c.if-tab-eq0.false

pub returns-in_default-look-clause-judges : goal.returns-in_default-look-clause-judges
returns-in_default-look-clause-judges g c =
    c.judge_name.ensures ∙ (one_tab g (goal.at.returns-in_default-look-clause-judges g c).After-look).judges

pub returns-in_default-look-clause-marks : goal.returns-in_default-look-clause-marks
returns-in_default-look-clause-marks g c =
    let l = c.args.line in
    let t = c.args.table.now in
    let h : l.start < l.start + length l.chars.now = omega (arith, c.requires.long) in
    on_ok _ c.judge_name.result (miss_mark c.args.text.now t.names.now t.slots t.marks _ h (take c.in-Some.tab l.chars.now)
    (one_tab g (goal.at.returns-in_default-look-clause-marks g c).After-look).name c.in_default-look.ensures.0)

pub returns-then-table-slot-clause-judges : goal.returns-then-table-slot-clause-judges
returns-then-table-slot-clause-judges g c =
    let l = c.args.line in
    let t = c.args.table.now in
    let n = one_tab g (goal.at.returns-then-table-slot-clause-judges g c).After-look in
    let h : l.start < l.start + length l.chars.now = omega (arith, c.requires.long) in
    hit_used c.args.text.now t.names.now t.slots t.marks _ h (take c.in-Some.tab l.chars.now) n.name c.in-Some-look.slot c.in-Some-look.ensures.0
    (omega (arith, c.in-Some-look.ensures.1, t.whole.1)) c.requires.marked n.long c.if-table-slot.true ∙ n.judges

pub returns-clause-judges : goal.returns-clause-judges
returns-clause-judges g c =
    let l = c.args.line in
    let t = c.args.table.now in
    let n = one_tab g (goal.at.returns-clause-judges g c).After-look in
    let h : l.start < l.start + length l.chars.now = omega (arith, c.requires.long) in
    hit_free c.args.text.now t.names.now t.slots t.marks _ h (take c.in-Some.tab l.chars.now) n.name c.in-Some-look.slot c.in-Some-look.ensures.0
    (omega (arith, c.in-Some-look.ensures.1, t.whole.1)) c.requires.marked n.long c.if-table-slot.false ∙ n.judges

pub returns-clause-marks : goal.returns-clause-marks
returns-clause-marks g c =
    let l = c.args.line in
    let t = c.args.table.now in
    let h : l.start < l.start + length l.chars.now = omega (arith, c.requires.long) in
    hit_mark c.args.text.now t.names.now t.slots t.marks _ h (take c.in-Some.tab l.chars.now)
    (one_tab g (goal.at.returns-clause-marks g c).After-look).name c.in-Some-look.slot c.in-Some-look.ensures.0
