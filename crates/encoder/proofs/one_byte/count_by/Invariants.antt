-- `one_byte::count_by`. The loop's invariant: n bytes are written of the scalars before this one, and with those of the rest it is the whole
-- count. Assumes nothing.
use Rattle.reverse_index_spec.specs.ReverseIndex.{look_up}
use Rattle.encoder.specs.WriterCode.{one_of}
use Rattle.encoder.proofs.Counting.{Counted}
use Rattle.encoder.proofs.one_byte.count_by.Given as goal

abbrev pub invariant-loop-c : goal.invariant-loop-c
invariant-loop-c l = Counted (one_of l.encoding (look_up l.table l.links)) l.mode 0 l.scalars l.n l.c-index 0
