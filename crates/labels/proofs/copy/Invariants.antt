-- `copy`. The loop's invariant: i bytes are copied, and the room behind them is as it was. Assumes nothing.
use mathlib.Core.Path.{◌≡◌}
use mathlib.Core.List.{◌++◌}
use lib.ListN.{length, take, drop}
use Rattle.labels.proofs.copy.Given as goal

abbrev pub invariant-loop-i : goal.invariant-loop-i
invariant-loop-i l = record {
  size : length l.room ≡ length l.initial.room;
  copied : l.room ≡ take l.i l.bytes ++ drop l.i l.initial.room;
}
