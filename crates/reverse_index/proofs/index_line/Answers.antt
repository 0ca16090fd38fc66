-- `index_line`: the index's length, the line, and the entry. Assumes nothing.
use mathlib.Core.Path.{◌≡◌}
use mathlib.Core.Bool.{true}
use lib.ListN.{length}
use Rattle.standard.proofs.Tests.{fails, holds}
use Rattle.reverse_index_spec.specs.ReverseIndex.{fits}
use Rattle.reverse_index.proofs.Answers.{entry_ready, line_refused, line_none, line_entry}
use Rattle.std.proofs.lemmas.Bool.{not_from_true, not_from_false}
use Rattle.reverse_index.proofs.index_line.Goals as goal
use Rattle.reverse_index.proofs.index_line.Goals.{After-index_line-r}

fitted : (c : After-index_line-r) → fits (length c.args.table.now) (length c.args.index.now) ≡ true
fitted c = holds c.fits.ensures (not_from_true _ c.if-not-fits.false)

pub returns-then-not-fits : goal.returns-then-not-fits
returns-then-not-fits c = line_refused _ _ _ (fails c.fits.ensures (not_from_false _ c.if-not-fits.true))

pub returns-then-r-ne1 : goal.returns-then-r-ne1
returns-then-r-ne1 c =
    let l = c.before.before.before.before in
    line_none _ _ _ (fitted (goal.at.returns-then-r-ne1 c).After-index_line-r) _ _ l.index_line-r.ensures.0 l.index_line-r.ensures.1 c.if-r-ne1.true

pub bounds-table-p : goal.bounds-table-p
bounds-table-p c =
    let t = c.before.before.before in
    let l = t.before.before.before.before in
    (entry_ready _ _ l.args.index.now (fitted (goal.at.bounds-table-p c).After-index_line-r) _ _ l.index_line-r.ensures.0 l.index_line-r.ensures.1 t.if-r-ne1.false).0

pub insert-requires : goal.insert-requires
insert-requires c =
    let t = c.before.before.before in
    let l = t.before.before.before.before in
    entry_ready _ _ l.args.index.now (fitted (goal.at.insert-requires c).After-index_line-r) _ _ l.index_line-r.ensures.0 l.index_line-r.ensures.1 t.if-r-ne1.false

pub returns : goal.returns
returns c =
    let i = c.before.before in
    let t = i.before.before.before.before in
    let l = t.before.before.before.before in
    line_entry _ _ _ (fitted (goal.at.returns c).After-index_line-r) _ _ l.index_line-r.ensures.0 l.index_line-r.ensures.1 t.if-r-ne1.false _ i.insert.ensures
