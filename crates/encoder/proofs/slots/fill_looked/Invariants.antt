-- `slots::fill_looked`. The loop's invariant: there are 2,048 slots, and each is right for the single-byte encoder that looks up by the index.
use Rattle.encoder.proofs.Filling.{Looked}
use Rattle.reverse_index_spec.specs.ReverseIndex.{look_up}
use Rattle.encoder.proofs.slots.fill_looked.Given as goal

abbrev pub invariant-loop-c : goal.invariant-loop-c
invariant-loop-c l = Looked (look_up l.table l.links) l.slots
