-- `place`. The loop's invariant: from here the definition goes on to the same place (`Placing`).
-- What falls: p less the last link. Assumes nothing.
use Prim.Native.Nat.{◌-◌}
use Rattle.reverse_index.proofs.Places.{Placing}
use Rattle.reverse_index.proofs.links.place.Given as goal

abbrev pub invariant-loop-low : goal.invariant-loop-low
invariant-loop-low l = Placing l.index l.n l.p l.b l.at l.low l.link

abbrev pub decreases-loop-low : goal.decreases-loop-low
decreases-loop-low l = l.p - l.low
