use Rattle.std.proofs.Common.{◌≡◌, drop}
use Rattle.sequences.specs.Code.{pairs, two_in}
use Rattle.sequences.proofs.big5.two.Given as goal

-- The invariant: the rows passed do not have the pointer.
abbrev pub invariant-loop-pointer : goal.invariant-loop-pointer
invariant-loop-pointer l = two_in (drop l.pointer-index pairs) l.p ≡ two_in pairs l.p
