use mathlib.Core.Path.{◌≡◌}
use Prim.Native.Nat.{ℕ, ◌*◌}
use lib.ListN.{length, get_or}
use Rattle.line_feeds.proofs.Parts.{Counted}
use Rattle.word_runs.specs.Bytes.{Halves, Through}
use Rattle.word_runs.proofs.single_byte.put_blocks.Given as goal

-- The invariant: t blocks are written through the table, which stands in the upper halves too, and `lines` line feeds are among them.
abbrev pub invariant-loop-t : goal.invariant-loop-t
invariant-loop-t l = record {
  size : length l.room ≡ length l.initial.room;
  words : length l.words ≡ 192;
  halves : Halves l.table l.high;
  wrote : Through (λ (b : ℕ). get_or l.table b 0) l.chunk l.from (l.t * 384) l.place l.initial.room l.room;
  feeds : Counted l.chunk l.from (l.t * 384) l.lines;
}
