use Rattle.std.proofs.Common.{◌≡◌, ◌<◌}
use Rattle.list.proofs.slots.Table.put.Given as goal

-- Only slots change.
abbrev pub invariant-slots : goal.invariant-slots
invariant-slots g l = record {
  below : l.slot < g.row.N;
  names : l.self.names ≡ l.initial.self.names;
  marks : l.self.marks ≡ l.initial.self.marks;
}
