use mathlib.Core.Path.{sym, ◌∙◌}
use Rattle.index.proofs.Search.{last_start, last_on, last_found, last_none}
use Rattle.index.proofs.last_outside.Goals as goal

pub loop-p-init : goal.loop-p-init
loop-p-init c = last_start _ _ _ _

pub returns-then-hits : goal.returns-then-hits
returns-then-hits c =
    last_found _ _ _ _ _ c.loop-p-test.true c.loop-p.auto.p c.loop-p.invariant (sym c.hits.ensures ∙ c.if-hits.true)

pub loop-p-preserved : goal.loop-p-preserved
loop-p-preserved c =
    last_on _ _ _ _ _ c.loop-p-test.true c.loop-p.invariant (sym c.hits.ensures ∙ c.if-hits.false)

pub returns : goal.returns
returns c = last_none _ _ _ _ _ c.loop-p-test.false c.loop-p.invariant
