-- `all_scalars`. The loop's invariant: at most one of each number before i is no scalar, and all are scalars just where none has been counted and the rest are.
use Rattle.standard.specs.Base.{scalars as are_scalars}
use mathlib.Core.Path.{◌≡◌}
use mathlib.Core.Bool.{◌&&◌}
use lib.Dec.{eqb}
use lib.ListN.{drop}
use Prim.Native.Nat.{◌≤◌}
use Rattle.encoder.proofs.refusals.all_scalars.Given as goal

abbrev pub invariant-loop-c : goal.invariant-loop-c
invariant-loop-c l = (l.others ≤ l.c-index) × (eqb l.others 0 && are_scalars (drop l.c-index l.scalars) ≡ are_scalars l.scalars)
