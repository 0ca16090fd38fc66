-- `number`. The loop's invariant: n is what the digits before this one stand for (`Numbered`). Assumes nothing.
use Rattle.index.proofs.Parts.{Numbered}
use Rattle.index.proofs.reading.number.Given as goal

abbrev pub invariant-loop-b : goal.invariant-loop-b
invariant-loop-b l = Numbered l.digits l.base l.n l.b-index
