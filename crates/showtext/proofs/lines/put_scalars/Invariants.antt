use Rattle.program_text.specs.Places.{Put}
use Rattle.showtext.specs.Output.{scalar_lines}
use Rattle.std.proofs.Common.{◌≡◌, ◌+◌, ◌*◌, ◌≤◌, length, take}
use Rattle.showtext.proofs.lines.put_scalars.Given as goal

-- The lines of the first i scalars stand from the place on, in at most 32 bytes each.
abbrev pub invariant-loop-i : goal.invariant-loop-i
invariant-loop-i l = (l.o ≤ l.at + 32 * l.i) × (length l.out ≡ length l.initial.out) × Put l.initial.out l.at (scalar_lines l.n (take l.i l.scalars)) l.o l.out
