-- `pairs::count_by`. The loop's invariant: n bytes are written of the scalars before this one, and with those of the rest from state s it is
-- the whole count; the slots are right. Assumes nothing.
use mathlib.Core.Path.{◌≡◌}
use lib.ListN.{length}
use Rattle.reverse_index_spec.specs.ReverseIndex.{look_up}
use Rattle.pair_writers.specs.Pairs.{Ready}
use Rattle.encoder.specs.WriterCode.{pair_of}
use Rattle.encoder.proofs.Counting.{Counted}
use Rattle.encoder.proofs.pairs.count_by.Given as goal

abbrev pub invariant-loop-c : goal.invariant-loop-c
invariant-loop-c l = Counted (pair_of l.encoding (look_up l.table l.links) l.second) l.mode l.state l.scalars l.n l.c-index l.s × Ready l.encoding l.table l.links l.second l.slots ×
    (length l.slots ≡ length l.initial.slots)
