-- `slots::fill_table`. The loop's invariant: every slot is empty, or holds a scalar of its remainder with its first pointer among the cells from p on.
use Rattle.encoder.proofs.Filling.{Filled}
use Rattle.encoder.proofs.slots.fill_table.Given as goal

abbrev pub invariant-loop-p : goal.invariant-loop-p
invariant-loop-p l = Filled l.table l.p l.slots
