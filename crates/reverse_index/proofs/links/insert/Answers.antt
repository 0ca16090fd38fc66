-- `insert`: the two cells at the place that was found. Assumes nothing.
use lib.ListN.{length-set}
use Rattle.reverse_index_spec.specs.ReverseIndex.{place}
use Prim.Native.Nat.{ℕ}
use mathlib.Core.Path.{ap, ◌∙◌}
use Rattle.reverse_index.proofs.Places.{linked_insert}
use native.Mathlib.Omega.{arith}
use Rattle.reverse_index.proofs.links.insert.Goals as goal

pub bounds-index-at-2 : goal.bounds-index-at-2
bounds-index-at-2 c = simp length-set (omega arith)

pub shape_of-index : goal.shape_of-index
shape_of-index c = simp length-set

pub returns : goal.returns
returns c =
    let args = c.args in
    let at_place = c.place-at in
    linked_insert args.n args.p args.c at_place.result args.index.now
    (at_place.ensures.0 ∙
    ap (λ (b : ℕ). place args.index.now args.n args.p args.p 0 b) c.bucket.ensures.0)
