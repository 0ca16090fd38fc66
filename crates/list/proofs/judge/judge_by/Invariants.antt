use Rattle.std.proofs.Common.{◌≡◌, ◌+◌, ◌≤◌, length}
use Rattle.list_spec.proofs.Turns.{lines_at}
use Rattle.list.specs.Slots.{Marked}
use Rattle.list.proofs.Judging.{Judges}
use Rattle.list.proofs.Marks.{Split}
use Rattle.list.proofs.judge.judge_by.Given as goal

-- The lines so far have no fault: what is judged from the walk's place on is what is judged of the whole, and the marks tell which names
-- are used before it.
abbrev pub invariant-loop-line : goal.invariant-loop-line
invariant-loop-line g l = record {
  text : l.line-iterator.cursor.text.now ≡ l.text;
  names : l.table.names.now ≡ l.names;
  few : l.options ≤ l.line-iterator.cursor.at;
  near : l.line-iterator.cursor.at ≤ length l.text + 1;
  judges : Judges l.text l.names (lines_at l.text l.line-iterator.number l.line-iterator.cursor.at) l.options;
  split : Split l.text l.line-iterator.number l.line-iterator.cursor.at;
  marked : Marked l.text l.names l.table.slots l.table.marks l.line-iterator.cursor.at;
}
