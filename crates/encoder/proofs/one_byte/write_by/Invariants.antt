-- `one_byte::write_by`. The loop's invariant: the bytes of the i scalars before this one stand at the front of the room, the rest of the room is
-- as it was. Assumes nothing.
use Rattle.reverse_index_spec.specs.ReverseIndex.{look_up}
use Rattle.encoder.specs.WriterCode.{one_of, Running}
use Rattle.encoder.proofs.one_byte.write_by.Given as goal

abbrev pub invariant-loop-i : goal.invariant-loop-i
invariant-loop-i l = Running (one_of l.encoding (look_up l.table l.links)) l.mode 0 l.scalars l.initial.room l.room l.i l.o 0
