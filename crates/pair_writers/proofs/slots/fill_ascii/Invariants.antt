-- `slots::fill_ascii`. The loop's invariant: the slots from 1 up to k have their bytes, all others are as they were. Assumes nothing.
use mathlib.Core.Path.{◌≡◌}
use lib.ListN.{length}
use Rattle.pair_writers.proofs.Filling.{PlainTo}
use Rattle.pair_writers.proofs.slots.fill_ascii.Given as goal

abbrev pub invariant-loop-k : goal.invariant-loop-k
invariant-loop-k l = (length l.slots ≡ length l.initial.slots) × PlainTo l.initial.slots l.k l.slots
