use Rattle.std.proofs.Common.{◌≡◌}
use Rattle.list_spec.specs.ListCall.{options_of, cells}
use Rattle.list_spec.proofs.Turns.{lines_at}
use Rattle.list.specs.Walking.{put}
use Rattle.list.proofs.Cells.{Writes}
use Rattle.list.proofs.write.write.Given as goal

-- What stands in the room so far, with the options of the lines that are left, is the room as it is to be.
abbrev pub invariant-loop-line : goal.invariant-loop-line
invariant-loop-line l = record {
  text : l.line-iterator.cursor.text.now ≡ l.text;
  writes : Writes l.text l.room (lines_at l.text l.line-iterator.number l.line-iterator.cursor.at) l.at
      (put l.initial.room 0 (cells l.text (options_of l.text)));
}
