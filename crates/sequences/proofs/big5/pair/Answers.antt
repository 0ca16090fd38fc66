use mathlib.Core.Path.{sym, ap, ◌∙◌}
use Rattle.standard.specs.Sequence.{pair}
use Rattle.layouts.specs.Rows.{layout_of}
use Rattle.sequences.proofs.Big5Leaves.{trail_two, trail_none}
use Rattle.sequences.proofs.big5.pair.Goals as goal

pub returns-in-Some : goal.returns-in-Some
unfolding layout_of
returns-in-Some c =
    let a = c.args in
    sym (trail_two a.table.now a.lead a.trail c.pointer.result c.requires c.pointer.ensures c.in-Some.out (sym c.two.ensures ∙ c.in-Some.is))

pub returns : goal.returns
unfolding layout_of
returns c =
    let a = c.args in
    c.gives_trailed.ensures ∙ ap (pair a.trail) c.code_point.ensures ∙
    sym (trail_none a.table.now a.lead a.trail c.pointer.result c.requires c.pointer.ensures (sym c.two.ensures ∙ c.in_default.is))
