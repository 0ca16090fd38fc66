use borrow.Author.Tests.{lt-ltb, le-ltb}
use mathlib.Core.Path.{sym, ◌∙◌}
use native.Mathlib.Omega.{arith}
use Rattle.pair_runs.proofs.pairs.bad_width.Goals as goal

pub returns-then-trail-lt128 : goal.returns-then-trail-lt128
returns-then-trail-lt128 c =
    (omega arith, omega (arith, c.row_of.ensures, c.if-row_of-ge32768.false), sym c.within.ensures ∙ c.if-within.false, rw (lt-ltb c.args.trail 0x80 (omega arith)))

pub returns : goal.returns
returns c =
    (omega arith, omega (arith, c.row_of.ensures, c.if-row_of-ge32768.false), sym c.within.ensures ∙ c.if-within.false, rw (le-ltb c.args.trail 0x80 (omega arith)))
