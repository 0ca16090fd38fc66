-- `load_bytes`. The loop's invariant: what is to be loaded is what this byte and those behind it give from here. Assumes nothing.
use Rattle.std.proofs.Common.{◌≡◌, ◌≤◌, length, drop}
use Rattle.index_loading.specs.Steps.{at, placed, on_bytes}
use Rattle.index_loading.proofs.load_bytes.Given as goal

abbrev pub invariant-loop-b : goal.invariant-loop-b
invariant-loop-b l = record {
  few : l.n ≤ 1025;
  room : 1025 ≤ length l.line;
  same : on_bytes (placed (at l.initial.n 0) l.initial.line l.initial.table) l.bytes ≡ on_bytes (placed (at l.n 0) l.line l.table) (drop l.b-index l.bytes);
}
