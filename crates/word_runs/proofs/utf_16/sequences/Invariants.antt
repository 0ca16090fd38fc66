use Rattle.standard.specs.Encodings.{no_tables}
use Rattle.standard.specs.Sequence.{plain}
use Rattle.word_runs.specs.Units.{utf16_family}
use Rattle.runs.proofs.Counting.{Counting}
use Rattle.word_runs.proofs.utf_16.sequences.Given as goal

-- The invariant: a run has come from the start to this place.
abbrev pub invariant-loop-k : goal.invariant-loop-k
invariant-loop-k l = Counting no_tables (utf16_family l.be) l.mode l.chunk l.from l.at plain plain l.place l.written l.lines l.initial.room l.room
