use mathlib.Core.List.{◌++◌}
use Prim.Native.Nat.{◌+◌, ◌-◌, ◌≤◌}
use lib.Dec.{eqb}
use lib.ListN.{length}
use Rattle.standard.specs.Encodings.{lent}
use Rattle.standard.specs.Sequence.{shift}
use Rattle.reading.specs.Reading.{bytes_of}
use Rattle.replacements.proofs.Walking.{Walking}
use Rattle.replacements.proofs.walk.Given as goal

-- The invariant: n sequences are told, and what is told in all is those and the ones from `at` on.
-- The bytes behind `at` fall at each turn, since a sequence has a byte or more.
abbrev pub invariant-loop-q : goal.invariant-loop-q
invariant-loop-q l = Walking (lent l.t1 l.t2) l.encoding l.from l.mark (shift l.state (eqb l.flag 1)) (bytes_of l.held ++ l.chunk) l.initial.spans l.spans l.at l.n (shift l.s (eqb l.f 1)) ×
    (l.held.count ≤ 3) × (length l.chunk ≤ 65536) × (l.from + l.held.count + length l.chunk ≤ 4294967295)

abbrev pub decreases-loop-q : goal.decreases-loop-q
decreases-loop-q l = l.held.count + length l.chunk - l.at
