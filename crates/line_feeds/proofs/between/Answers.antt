use Rattle.std.proofs.Common.{arith, ◌-◌, ◌∙◌, map, ap}
use Rattle.std.proofs.lemmas.List.{length-map, take-map, drop-map}
use Rattle.standard.specs.Base.{line_feeds}
use Rattle.line_feeds.proofs.Elements.{no_element, cut}
use Rattle.line_feeds.proofs.between.Goals as goal

pub returns-in-Some : goal.returns-in-Some
returns-in-Some g c =
    let number = g.T.Element.number in
    let numbers = map number c.args.elements.now in
    c.in_many.ensures ∙ ap (λ x. line_feeds (map number x)) c.in-Some.ensures.lookup.0.2 ∙ ap line_feeds (rw (drop-map, take-map))
    ∙ cut numbers c.args.from c.args.to c.min.result (rw length-map c.min.ensures)

pub returns-in-None : goal.returns-in-None
returns-in-None g c =
    let numbers = map g.T.Element.number c.args.elements.now in
    no_element numbers c.args.from (c.args.to - c.args.from) (rw length-map (omega (arith, c.in-None.ensures.lookup.0)))
