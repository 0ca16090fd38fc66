use Rattle.std.proofs.Common.{◌≡◌, ◌-◌, ◌<◌}
use Rattle.list.specs.Slots.{look_from, look_of}
use Rattle.list.proofs.slots.Table.look.Given as goal

-- What is looked for from the slot on, in the slots that are left, is what is looked for from the first slot on.
abbrev pub invariant-slots : goal.invariant-slots
invariant-slots g l = record {
  below : l.slot < g.row.N;
  same : look_from l.self.slots l.self.names.now l.name (g.row.N - l.counter) l.slot ≡ look_of l.self.slots l.self.names.now l.name;
}
