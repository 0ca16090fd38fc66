use Prim.Native.Nat.{◌*◌}
use Rattle.line_feeds.proofs.Parts.{Counted}
use Rattle.runs.proofs.Stretches.{Copying}
use Rattle.runs.proofs.ascii.count_blocks.Given as goal

-- The invariant: j blocks of bytes below 80 are copied, and `lines` line feeds are among them.
abbrev pub invariant-loop-j : goal.invariant-loop-j
invariant-loop-j l = (Copying l.chunk l.from l.place (l.j * 192) l.initial.room l.room) × Counted l.chunk l.from (l.j * 192) l.lines
