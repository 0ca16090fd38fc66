-- `last_outside`. The loop's invariant: no pointer from p on counts. Assumes nothing.
use Rattle.index.proofs.Search.{NoneFrom}
use Rattle.index.proofs.last_outside.Given as goal

abbrev pub invariant-loop-p : goal.invariant-loop-p
invariant-loop-p l = NoneFrom l.low l.high l.c l.table l.p
