use mathlib.Core.Path.{◌≡◌}
use Prim.Native.Nat.{ℕ, ◌-◌, ◌<◌}
use lib.ListN.{length}
use Rattle.standard.specs.Sequence.{plain}
use Rattle.standard.specs.Encodings.{no_tables}
use Rattle.runs.specs.Run.{Ready}
use Rattle.word_runs.specs.Units.{utf16_family}
use Rattle.runs.proofs.Counting.{Counting}
use Rattle.word_runs.proofs.utf_16.blocks.Given as goal

-- The invariant: in any mode a run has come from the start to this place, and another can begin there.
-- The bytes that are left fall at each turn, by a block.
abbrev pub invariant-loop-at : goal.invariant-loop-at
invariant-loop-at g l = record {
  space : length l.initial.room < 18446744073709551616;
  size : length l.words ≡ g.row.N;
  ready : Ready l.chunk l.at l.room l.written;
  run : (m : ℕ) → Counting no_tables (utf16_family l.be) m l.chunk l.from l.at plain plain l.place l.written l.lines l.initial.room l.room;
}

abbrev pub decreases-loop-at : goal.decreases-loop-at
decreases-loop-at g l = length l.chunk - l.at
