use mathlib.Core.Path.{sym, ◌∙◌}
use lib.Dec.{eqb}
use borrow.Author.Tests.{eq-eqb, ne_eqb}
use Rattle.standard.specs.Sequence.{shift}
use Rattle.sequences.proofs.ReplacementLeaves.{replacement_given, replacement_first}
use native.Mathlib.Omega.{arith}
use Rattle.sequences.proofs.replacement.replacement.Goals as goal

pub returns-then-flag-eq1 : goal.returns-then-flag-eq1
returns-then-flag-eq1 c =
    let args = c.args in
    λ state b xs. c.says_nothing.ensures ∙ sym (replacement_given (shift state (eqb args.flag 1)) b xs (eq-eqb args.flag 1 (omega arith)))

pub returns : goal.returns
returns c =
    let args = c.args in
    λ state b xs. c.fails.ensures ∙ sym (replacement_first (shift state (eqb args.flag 1)) b xs (ne_eqb args.flag 1 (omega arith)))
