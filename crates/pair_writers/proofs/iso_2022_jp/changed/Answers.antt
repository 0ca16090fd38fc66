-- `changed`, by its test. Assumes nothing.
use mathlib.Core.Path.{sym, ap, ◌∙◌}
use mathlib.Core.Option.{some}
use native.Mathlib.Omega.{arith}
use Rattle.pair_writers.proofs.Encoders.{changed_none, changed_cell, changed_other}
use Rattle.pair_writers.proofs.iso_2022_jp.changed.Goals as goal

pub returns-then-not-katakana : goal.returns-then-not-katakana
returns-then-not-katakana c =
    ap some c.minus.ensures ∙ changed_other c.args.katakana.now c.args.c (sym c.katakana.ensures ∙ c.if-not-katakana.true)

pub returns-in-0 : goal.returns-in-0
returns-in-0 c =
    changed_none c.args.katakana.now c.args.c (sym c.katakana.ensures ∙ c.if-not-katakana.false) (sym c.cell.ensures ∙ c.in-0.is)

pub returns-in_default : goal.returns-in_default
returns-in_default c =
    changed_cell c.args.katakana.now c.args.c (sym c.katakana.ensures ∙ c.if-not-katakana.false) _ c.cell.ensures (λ z. omega arith)
