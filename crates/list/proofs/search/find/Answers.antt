use Rattle.std.proofs.Common.{rules, tests}
use Rattle.std.proofs.lemmas.Iterator.{YieldsList-from_slice}
use Rattle.std.proofs.lemmas.Iterator.Search.{position_from_yields_List}
use lib.Dec.{eqb}
use Rattle.list.proofs.Characters.{found}
use Rattle.list.proofs.search.find.Goals as goal

pub returns : goal.returns
returns c =
    found c.args.x c.args.s.now _ (position_from_yields_List (λ y. eqb y c.args.x) _ _ _ c.position.ensures.ran
    (YieldsList-from_slice c.args.s.now c.iter.ensures.rest) (λ x b q k. search (rules, tests)))
