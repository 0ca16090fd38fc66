use Rattle.std.proofs.Common.{◌≡◌}
use Rattle.list_spec.specs.Lines.{lines_of}
use Rattle.list_spec.specs.ListCall.{used_before}
use Rattle.list_spec.proofs.Turns.{lines_at}
use Rattle.list.proofs.names.is_used.Given as goal

-- The name is used before the place if one of the lines that are left has it.
abbrev pub invariant-loop-line : goal.invariant-loop-line
invariant-loop-line l = record {
  text : l.line-iterator.cursor.text.now ≡ l.text;
  same : used_before l.text l.place l.name (lines_at l.text l.line-iterator.number l.line-iterator.cursor.at) ≡
      used_before l.text l.place l.name (lines_of l.text);
}
