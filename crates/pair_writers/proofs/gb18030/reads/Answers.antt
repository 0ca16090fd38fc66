-- `reads`: a pointer that no range has, 7,457, or the last range. Assumes nothing.
use mathlib.Core.Path.{◌≡◌, sym, ◌∙◌}
use mathlib.Core.Bool.{false, ◌||◌}
use lib.Dec.{ltb}
use borrow.Author.Tests.{ne_eqb}
use Rattle.standard.specs.Base.{within}
use Rattle.pair_writers.proofs.Fours.{reads_gap, reads_7457, reads_other, reads_same}
use Rattle.pair_writers.proofs.gb18030.reads.Goals as goal
use Rattle.pair_writers.proofs.gb18030.reads.Goals.{Else-p-eq7457}

-- the pointer is one that ranges have
out : (c : Else-p-eq7457) → let p = c.args.p in within 39420 p 188999 || ltb 1237575 p ≡ false
out c = sym c.gap.ensures ∙ c.if-gap.false

pub returns-then-gap : goal.returns-then-gap
returns-then-gap c = λ h. reads_gap _ _ _ (sym c.gap.ensures ∙ c.if-gap.true)

pub returns-then-p-eq7457 : goal.returns-then-p-eq7457
returns-then-p-eq7457 c = λ h. reads_7457 _ _ _ c.if-p-eq7457.true

pub returns-then-last_sum-from : goal.returns-then-last_sum-from
returns-then-last_sum-from c =
    λ h. c.mapped.ensures ∙ reads_same _ _ _ (out (goal.at.returns-then-last_sum-from c).Else-p-eq7457) c.if-p-eq7457.false _ (c.last_sum.ensures h)
    (c.if-last_sum-from.true ∙ c.from.ensures)

pub returns-else-last_sum-from : goal.returns-else-last_sum-from
returns-else-last_sum-from c =
    λ h. ne_eqb _ _ c.if-last_sum-from.false ∙
    reads_other _ _ _ (out (goal.at.returns-else-last_sum-from c).Else-p-eq7457) c.if-p-eq7457.false _ (c.last_sum.ensures h)
    (λ z. c.if-last_sum-from.false (z ∙ sym c.from.ensures))
