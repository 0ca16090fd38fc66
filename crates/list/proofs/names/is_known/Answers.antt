use Rattle.std.proofs.Common.{refl, sym, ◌∙◌, rules, tests}
use Rattle.std.proofs.lemmas.Iterator.Consumers.{YieldsList-from_first}
use Rattle.std.proofs.lemmas.Iterator.Search.{any_from_yields_List}
use Rattle.std.specs.Cmp.Lexicographic.{pointwise}
use lib.Dec.{eqb}
use Rattle.list_spec.specs.Lines.{names_of}
use Rattle.list.proofs.Known.{among_any}
use Rattle.list.proofs.names.is_known.Goals as goal

pub returns : goal.returns
returns c =
    let name = c.args.name.now in
    any_from_yields_List (λ y. pointwise eqb y name) c.any.new.self _ c.any.result c.any.ensures.ran
    (YieldsList-from_first (λ x. x.now) (λ s. names_of s.0.now) {s = record { 0 = c.args.names }} (names_of c.args.names.now) refl) (λ x b q k. search (rules, tests)) ∙
    sym (among_any name (names_of c.args.names.now))
