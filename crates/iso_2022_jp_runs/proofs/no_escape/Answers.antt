use native.Mathlib.Nat.{le_trans}
use borrow.Author.Count.{below_more}
use borrow.Author.Tests.{eqb-true}
use Rattle.std.proofs.lemmas.Nat.{le_or_l, le_or_r}
use native.Mathlib.Omega.{arith}
use Rattle.iso_2022_jp_runs.proofs.no_escape.Goals as goal

pub loop-k-preserved : goal.loop-k-preserved
loop-k-preserved c =
    let at-loop = c.loop-k in
    let here : _ → _ = λ e. le_trans (c.one_if_escape-all.ensures e) (le_or_r at-loop.all _) in
    (omega arith, omega arith, below_more (λ j. _) _ (λ j h e. le_trans (at-loop.invariant.2 j h e) (le_or_l at-loop.all _)) here)

pub returns : goal.returns
returns c = λ e j h z. omega (arith, eqb-true c.loop-k.all 0 e, c.loop-k.invariant.2 j (omega arith) z)
