use Rattle.std.proofs.Common.{take}
use Rattle.program_text.specs.Places.{Put}
use Rattle.program_text.specs.Utf8.{utf8}
use Rattle.program_text.proofs.utf8.put_text.Given as goal

-- The bytes of the scalars so far stand at the front of the room.
abbrev pub invariant-loop-c : goal.invariant-loop-c
invariant-loop-c l = Put l.initial.out 0 (utf8 (take l.c-index l.scalars)) l.at l.out
