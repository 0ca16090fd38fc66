use Rattle.std.proofs.Common.{◌≡◌, ◌+◌, ◌≤◌, ◌<◌, length, true}
use Rattle.runs.specs.Run.{Ready}
use Rattle.runs.specs.Stretch.{Copied}
use Rattle.runs.proofs.ascii.copy_front.Given as goal

-- The invariant: the bytes up to `last` are copied, and while none is at least 80, `last` is the one before k.
abbrev pub invariant-loop-k : goal.invariant-loop-k
invariant-loop-k l = record {
  copied : Copied l.chunk l.at (l.last + 1) l.o l.fn.room l.room;
  ready : Ready l.chunk l.at l.fn.room l.o;
  inside : l.at + 7 ≤ length l.chunk;
  behind : l.last < l.k;
  low : l.low ≡ true → l.last + 1 ≡ l.k;
}
