use native.Mathlib.Omega.{arith}
use lib.ListN.{length-set}
use Rattle.replacements.proofs.Adding.{adds_one}
use borrow.Author.Rules.{rules}
use Rattle.replacements.proofs.put_span.Goals as goal

pub bounds-spans-n-2 : goal.bounds-spans-n-2
bounds-spans-n-2 c = simp length-set (omega arith)

pub returns : goal.returns
returns c = let a = c.args in adds_one a.spans.now a.n a.place a.width (search rules)
