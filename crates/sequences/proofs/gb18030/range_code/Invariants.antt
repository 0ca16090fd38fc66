use mathlib.Core.Path.{◌≡◌}
use Rattle.standard.specs.Sequences.Gb18030.{gb18030_range}
use lib.ListN.{drop}
use Prim.Native.Nat.{◌*◌}
use Rattle.sequences.proofs.gb18030.range_code.Given as goal

-- The invariant: the search of all pairs is the search of those from pair i on, with the answer so far.
abbrev pub invariant-loop-i : goal.invariant-loop-i
invariant-loop-i l = gb18030_range l.ranges l.p 0 ≡ gb18030_range (drop (l.i * 2) l.ranges) l.p l.found
