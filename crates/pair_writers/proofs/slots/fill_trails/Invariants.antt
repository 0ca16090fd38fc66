-- `slots::fill_trails`. The loop's invariant: the columns before k have their trails. Assumes nothing.
use mathlib.Core.Path.{◌≡◌}
use Prim.Native.Nat.{ℕ, ◌<◌}
use lib.ListN.{get_or}
use Rattle.standard.specs.Layouts.{trail_of}
use Rattle.layouts.specs.Rows.{layout_of}
use Rattle.pair_writers.proofs.slots.fill_trails.Given as goal

abbrev pub invariant-loop-k : goal.invariant-loop-k
invariant-loop-k l = (j : ℕ) → j < l.k → j < (layout_of l.encoding).divisor → get_or l.trails j 0 ≡ trail_of (layout_of l.encoding) j
