-- `chain`, by its test. Assumes nothing.
use lib.ListN.{length-set}
use mathlib.Core.Path.{sym, ◌∙◌}
use Rattle.reverse_index.proofs.Chains.{chained_un, chained_in}
use native.Mathlib.Omega.{arith}
use Rattle.reverse_index.proofs.links.chain.Goals as goal

pub returns-then-not-mapped : goal.returns-then-not-mapped
returns-then-not-mapped c =
    let args = c.args in
    chained_un args.n args.p args.c args.index.now (sym c.mapped.ensures ∙ c.if-not-mapped.true)

pub bounds-index-b-2 : goal.bounds-index-b-2
bounds-index-b-2 c = simp length-set (omega (arith, c.bucket-b.ensures.1))

pub shape_of-index : goal.shape_of-index
shape_of-index c = simp length-set

pub returns : goal.returns
returns c =
    let args = c.args in
    let at-bucket = c.bucket-b in
    chained_in args.n args.p args.c at-bucket.result args.index.now
    (sym c.mapped.ensures ∙ c.if-not-mapped.false) at-bucket.ensures.0
