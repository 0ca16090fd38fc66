use Rattle.std.proofs.Common.{◌≡◌, ◌-◌, ◌≤◌, ◌<◌, [], ◌++◌, length, take}
use Rattle.standard.specs.Encodings.{lent}
use Rattle.program_text.specs.Lines.{after_line}
use Rattle.mend_spec.specs.Mended.{mended_text}
use Rattle.mend.specs.Code.{Sized}
use Rattle.mend.specs.Steps.{Few, Suits, Taken}
use Rattle.mend.proofs.Runs.{Known, Head, most}
use Rattle.mend.proofs.mend_text.Given as goal

-- The buffer keeps its length, and what is read and given lies in the rooms. What is written, what a step gave, and what the buffers behind it
-- give of a known input is the whole text.
abbrev pub invariant-loop : goal.invariant-loop
invariant-loop g l = record {
  buffer : length l.buffer ≡ length l.fn.buffer;
  read : l.n ≤ length l.buffer;
  few : Few l.s l.rooms.out l.rooms.report;
  sized : Sized l.rooms;
  known : Known (g.R.Read.remaining l.fn.console.input) (g.R.Read.remaining l.console.input)
      (g.W.Write.contents l.fn.console.output) (g.W.Write.contents l.console.output)
      (g.E.Write.contents l.fn.console.errors) (g.E.Write.contents l.console.errors)
      (λ all xs written. Taken l.encoding l.table × Suits (length l.fn.buffer) l.fn.rooms.room l.fn.rooms.spans × (l.read < length l.fn.buffer → all ≡ []) →
      Head (lent l.table []) (length l.fn.buffer) l.s l.rooms.out l.rooms.report l.n (most - l.counter) xs
      (mended_text (lent l.table []) l.encoding (after_line (take l.read l.fn.buffer) ++ all)) written);
}
