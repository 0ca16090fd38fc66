-- `four`: 7,457, no pointer, or one by what it reads as. Assumes nothing.
use mathlib.Core.Path.{sym, ◌∙◌}
use Rattle.pair_writers.proofs.Fours.{four_7457, four_past, four_read}
use Rattle.pair_writers.proofs.gb18030.four.Goals as goal

pub returns-then-c-eq59335 : goal.returns-then-c-eq59335
returns-then-c-eq59335 c = λ h. c.four_bytes.ensures ∙ four_7457 _ _ c.if-c-eq59335.true

pub returns-then-p-gt1237575 : goal.returns-then-p-gt1237575
returns-then-p-gt1237575 c =
    λ h. four_past _ _ c.if-c-eq59335.false _ (c.last_sum-p.ensures h) c.if-p-gt1237575.true

pub four_bytes-requires-then-reads : goal.four_bytes-requires-then-reads
four_bytes-requires-then-reads c = c.if-p-gt1237575.false

pub returns-then-reads : goal.returns-then-reads
returns-then-reads c =
    λ h. c.four_bytes-then-reads.ensures ∙ sym (rw c.if-reads.true) ∙
    four_read _ _ c.if-c-eq59335.false _ (c.last_sum-p.ensures h) c.reads.result (c.reads.ensures h)

pub returns : goal.returns
returns c =
    λ h. sym (rw c.if-reads.false) ∙
    four_read _ _ c.if-c-eq59335.false _ (c.last_sum-p.ensures h) c.reads.result (c.reads.ensures h)
