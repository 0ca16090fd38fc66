use Rattle.std.proofs.Common.{arith, ◌≡◌, ◌+◌, ◌∙◌, length, map, ap}
use Rattle.std.proofs.lemmas.List.{length_push}
use Rattle.std.specs.Slice.Iter.{chunks_exact_rest}
use Rattle.standard.specs.Base.{line_feeds}
use Rattle.line_feeds.proofs.Elements.{in_parts, no_more_than, a_block, the_rest}
use Rattle.line_feeds.proofs.in_many.Given.{Over}
use Rattle.line_feeds.proofs.in_many.Goals as goal

-- the count with a block more, and what is left behind it
counted : (g : Over) (c : goal.After-in_few-count g) →
    let number = g.T.Element.number in
    c.loop-block.count + c.in_few-count.result + line_feeds (map number (chunks_exact_rest c.next.new.self)) ≡ line_feeds (map number c.args.elements.now)
counted g c =
    let number = g.T.Element.number in
    let h = c.in-Some.ensures.steps in
    let e = ap (λ x. line_feeds (map number x)) h.1.0 ∙ in_parts number c.in-Some.block.now (chunks_exact_rest c.next.new.self) in
    omega (arith, e, c.in_few-count.ensures, c.loop-block.invariant.all)

pub overflow_add-count : goal.overflow_add-count
overflow_add-count g c = omega (arith, counted g c, no_more_than g.T.Element.number c.args.elements.now)

pub loop-block-preserved : goal.loop-block-preserved
loop-block-preserved g c =
    let left = c.loop-block.invariant in
    let h = c.in-Some.ensures.steps in
    let more = a_block c.args.elements.now _ _ _ (length c.loop-block.yielded) _ _ h.1.0 (h.1.1 ∙ left.size) left.place left.inside (length_push c.loop-block.yielded c.in-Some.block) in
    record { size = h.0 ∙ left.size; place = more.0; inside = more.1; all = counted g c }

pub overflow_add-result : goal.overflow_add-result
overflow_add-result g c =
    let number = g.T.Element.number in
    let left = c.loop-block.invariant in
    let h = c.in-None.ensures.steps in
    let rest = the_rest c.args.elements.now (chunks_exact_rest c.loop-block.block-iterator) c.remainder-rest.result.now (length c.loop-block.yielded) g.T.Element.BLOCK left.place left.inside (omega (arith, h.1.0, left.size)) (cc) in
    omega (arith, ap (λ x. line_feeds (map number x)) rest, c.in_few.ensures, left.all, no_more_than number c.args.elements.now)
