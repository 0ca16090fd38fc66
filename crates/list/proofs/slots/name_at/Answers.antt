use Rattle.std.proofs.Common.{◌∙◌, ◌<◌, length, rules, arith}
use Rattle.list.proofs.Slotted.{starts_below, name_off, name_first, name_none}
use Rattle.list.proofs.slots.name_at.Goals as goal
use Rattle.list.proofs.slots.name_at.Goals.{Else-not-starts_at}

below : (c : Else-not-starts_at) → c.args.at < length c.args.names.now
below c = starts_below c.args.names.now c.args.at c.args.name.now c.if-not-starts_at.ensures

pub returns-then-not-starts_at : goal.returns-then-not-starts_at
returns-then-not-starts_at c = name_off c.args.names.now c.args.at c.args.name.now c.if-not-starts_at.ensures

pub offset_bounds-names-at : goal.offset_bounds-names-at
offset_bounds-names-at c = let h = below c in search rules

pub slice_bounds-next-count : goal.slice_bounds-next-count
slice_bounds-next-count c = let h = below c in omega arith

pub slice_bounds-next-start : goal.slice_bounds-next-start
slice_bounds-next-start c = let h = below c in omega arith

pub returns-in-Some : goal.returns-in-Some
returns-in-Some c = c.eq.ensures ∙ name_first c.args.names.now c.args.at c.args.name.now c.if-not-starts_at.ensures _ _ c.in-Some.ensures.steps

pub returns-in-None : goal.returns-in-None
returns-in-None c = name_none c.args.names.now c.args.at c.args.name.now c.if-not-starts_at.ensures c.in-None.ensures.steps.0
