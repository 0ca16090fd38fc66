use Rattle.std.proofs.Common.{◌≡◌, ◌≤◌, length}
use Rattle.list.proofs.slots.Table.fill.Given as goal

-- Only slots change.
abbrev pub invariant-names : goal.invariant-names
invariant-names g l = record {
  within : l.start ≤ length l.names;
  names : l.self.names ≡ l.initial.self.names;
  marks : l.self.marks ≡ l.initial.self.marks;
}
