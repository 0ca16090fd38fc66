use Rattle.std.proofs.Common.{◌≡◌, ◌≤◌, ◌++◌, length, drop}
use Rattle.program_text.specs.Lines.{digits}
use Rattle.program_text.proofs.lines.put_digits.Given as goal

-- The digits from `start` on are made: in front of them belong those of the number that is left. `start` falls.
abbrev pub invariant-loop-start : goal.invariant-loop-start
invariant-loop-start g l = record {
  sized : length l.text ≡ g.row.MOST;
  within : l.start ≤ g.row.MOST;
  made : digits g.row.BASE g.row.MOST l.least l.n ≡ digits g.row.BASE l.start l.owed l.left ++ drop l.start l.text;
}

abbrev pub decreases-loop-start : goal.decreases-loop-start
decreases-loop-start g l = l.start
