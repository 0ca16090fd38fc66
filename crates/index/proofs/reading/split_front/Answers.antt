use mathlib.Core.Path.{sym, ◌∙◌}
use borrow.Author.Count.{below_more}
use native.Mathlib.Omega.{arith}
use lib.ListN.{get_or, length}
use mathlib.Core.Bool.{true}
use mathlib.Core.Path.{◌≡◌}
use Prim.Native.Nat.{ℕ}
use Rattle.index.proofs.Parts.{split_at_place}
use Rattle.index.proofs.reading.split_front.Goals as goal

pub returns-then-not-passes : goal.returns-then-not-passes
returns-then-not-passes g c = λ p h.
    split_at_place p c.args.bytes.now _ _ c.loop-count.count (omega arith) (c.loop-count.invariant p h)
    (λ i. sym (h _ _ c.passes.ensures) ∙ c.if-not-passes.true) c.split_at.ensures.front c.split_at.ensures.back

pub loop-count-preserved : goal.loop-count-preserved
loop-count-preserved g c = λ p h.
    below_more (λ (k : ℕ). p (get_or c.args.bytes.now k 0) ≡ true) _ (c.loop-count.invariant p h) (sym (h _ _ c.passes.ensures) ∙ c.if-not-passes.false)

pub returns : goal.returns
returns g c = λ p h.
    split_at_place p c.args.bytes.now _ _ (length c.args.bytes.now) (omega arith) (λ k i. c.loop-count.invariant p h k (omega arith))
    (λ i. absurd (omega arith)) c.split_at-2.ensures.front c.split_at-2.ensures.back
