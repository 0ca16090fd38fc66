use Rattle.std.proofs.Common.{arith, length, take, drop, ◌∙◌, sym, ap}
use Rattle.std.proofs.lemmas.List.{length-drop, map-id, take_all}
use Rattle.std.proofs.lemmas.Slice.{between_to_end}
use Rattle.standard.specs.Base.{line_feeds}
use Rattle.line_feeds.proofs.Elements.{no_element}
use Rattle.line_feeds.proofs.in_block.Goals as goal

pub returns-in_default : goal.returns-in_default
returns-in_default c = no_element c.args.bytes.now c.args.at 192 (omega (arith, c.in_default.ensures.lookup.0))

pub returns-in-Some-first_chunk : goal.returns-in-Some-first_chunk
returns-in-Some-first_chunk c =
    let bytes = c.args.bytes.now in
    let all = c.in-Some.ensures.lookup.0.2 ∙ between_to_end bytes c.args.at (length bytes) (omega arith) in
    c.in_few.ensures ∙ ap line_feeds (map-id c.in-Some-first_chunk.block.now ∙ c.in-Some-first_chunk.ensures.cases.same ∙ ap (take 192) all)

pub returns-in-None : goal.returns-in-None
returns-in-None c =
    let bytes = c.args.bytes.now in
    let all = c.in-Some.ensures.lookup.0.2 ∙ between_to_end bytes c.args.at (length bytes) (omega arith) in
    let few = sym (take_all 192 (drop c.args.at bytes) (simp length-drop (omega (arith, c.in-None.ensures.cases, c.in-Some.ensures.lookup.0.3)))) in
    c.in_few-in-None.ensures ∙ ap line_feeds (map-id c.in-Some.behind.now ∙ all ∙ few)
