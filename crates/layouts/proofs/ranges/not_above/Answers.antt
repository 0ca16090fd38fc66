-- `not_above`: how often 2^32 goes into the difference. Assumes nothing.
use lib.Dec.{leb}
use borrow.Author.Tests.{leb-true, leb-false}
use native.Mathlib.Omega.{arith}
use Rattle.standard.proofs.Tests.{split}
use Rattle.layouts.proofs.ranges.not_above.Goals as goal

pub returns : goal.returns
returns c =
    let q = c.args.q in
    let x = c.args.x in
    split (leb q x) (λ t. rw t (omega (arith, leb-true q x t))) (λ t. rw t (omega (arith, leb-false q x t)))
