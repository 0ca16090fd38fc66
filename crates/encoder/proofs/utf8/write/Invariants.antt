-- `utf8::write`. The loop's invariant: the bytes of the scalars before this one stand at the front of the room, the rest of the room is as it
-- was. Assumes nothing.
use Rattle.encoder.specs.WriterCode.{plain, Running}
use Rattle.standard.specs.Encoders.Utf8.{utf8_encode}
use Rattle.encoder.proofs.utf8.write.Given as goal

abbrev pub invariant-loop-c : goal.invariant-loop-c
invariant-loop-c l = Running (plain utf8_encode) 0 0 l.scalars l.initial.room l.room l.c-index l.o 0
