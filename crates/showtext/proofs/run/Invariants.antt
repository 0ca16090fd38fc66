use Rattle.std.proofs.Common.{◌≡◌, length, ◌+◌, ◌-◌, ◌*◌, ◌^◌, ◌<◌}
use Rattle.showtext.proofs.Runs.{Known, StateAt, Turns, most}
use Rattle.showtext.proofs.run.Given as goal

-- The buffer keeps its length, and the count stays below 2⁶⁴ by the reads that are left, with a room of scalars for each and for the end.
-- There were no more full buffers than bytes taken. What is written and what the steps still print of a known input is what they print of the whole;
-- where it is printed whole, at least 256 bytes of it were read for each read but the last of all, and its first line has at most 255.
abbrev pub invariant-loop : goal.invariant-loop
invariant-loop g l = record {
  buffer : length l.buffer ≡ length l.fn.buffer;
  count : l.s.count + 4099 * (most - l.counter) < 2 ^ 64;
  turns : 0 < length l.fn.buffer → Turns (length l.fn.buffer) l.s.decoder l.n l.counter;
  known : Known (g.R.Read.remaining l.fn.input) (g.R.Read.remaining l.input) (g.W.Write.contents l.fn.output) (g.W.Write.contents l.output)
      (StateAt (length l.fn.buffer) l.fn.room l.fn.out l.n l.counter l.s l.room l.out);
}
