use native.Mathlib.Omega.{arith}
use mathlib.Core.Path.{subst}
use borrow.Author.Tests.{eqb-true}
use borrow.Author.Count.{below_more}
use Rattle.word_runs.specs.Units.{NoSurrogate}
use Rattle.word_runs.proofs.utf_16.all_clear.Goals as goal

pub loop-word-preserved : goal.loop-word-preserved
loop-word-preserved c = λ h. below_more _ _ (c.loop-word.invariant (c.found-x.ensures h).0) (subst NoSurrogate c.oriented.ensures (c.found-x.ensures h).1)

pub returns : goal.returns
returns c e = λ j l. c.loop-word.invariant (eqb-true c.loop-word.x 0 e) j (omega arith)
