use mathlib.Core.Path.{sym, ap, ◌∙◌}
use native.Mathlib.Omega.{arith}
use Rattle.std.specs.Slice.Iter.{chunks_exact_rest}
use Rattle.layouts.specs.Ranges.{last_sum}
use Rattle.pair_writers.proofs.Fours.{sum_pair, sum_short}
use Rattle.pair_writers.proofs.gb18030.by_all.Goals as goal

pub loop-pair-preserved : goal.loop-pair-preserved
loop-pair-preserved c =
    let inv = c.loop-pair.invariant in
    let turn = c.in-Some.ensures.steps in
    let a = c.args in (
      turn.0 ∙ inv.0,
      inv.1 ∙ sum_pair a.back a.x _ _ _ turn.1.0 (turn.1.1 ∙ inv.0) ∙
          ap (last_sum a.back (chunks_exact_rest c.next.new.self) a.x) (sym c.onward-found.ensures),
    )

pub returns : goal.returns
returns c =
    let inv = c.loop-pair.invariant in
    sym (inv.1 ∙ sum_short c.args.back c.args.x _ _ (omega (arith, c.in-None.ensures.steps.1.0, inv.0)))
