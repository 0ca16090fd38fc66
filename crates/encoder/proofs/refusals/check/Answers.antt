-- The refusals that do not depend on the scalars, one test after the other. Assumes nothing.
use mathlib.Core.Path.{◌≡◌, sym, ◌∙◌}
use mathlib.Core.Bool.{true}
use Rattle.standard.specs.Encodings.{lent}
use Rattle.encoder.specs.WriterCode.{writes, tables_fit}
use Rattle.encoder.proofs.Calls.{refused_2, refused_3, refused_5, refused_9, refused_4, refused_15, refused_text, table_fits}
use Rattle.encoder.proofs.refusals.check.Goals as goal
use Rattle.encoder.proofs.refusals.check.Goals.{Else-not-tables_fit, Else-not-writes}

writer : (c : Else-not-writes) → writes c.args.encoding ≡ true
writer c = sym c.writes.ensures ∙ c.if-not-writes.false

fit : (c : Else-not-tables_fit) → let args = c.args in
    tables_fit args.encoding (lent args.t1.now args.t2.now) ≡ true
fit c = sym c.tables_fit.ensures ∙ c.if-not-tables_fit.false

pub returns-then-encoding-gt39 : goal.returns-then-encoding-gt39
returns-then-encoding-gt39 c = refused_2 _ _ _ _ _ _ _ _ c.if-encoding-gt39.true

pub returns-then-mode-gt1 : goal.returns-then-mode-gt1
returns-then-mode-gt1 c = refused_3 _ _ _ _ _ _ _ _ c.if-encoding-gt39.false c.if-mode-gt1.true

pub returns-then-state-gt2 : goal.returns-then-state-gt2
returns-then-state-gt2 c = refused_5 _ _ _ _ _ _ _ _ c.if-encoding-gt39.false c.if-mode-gt1.false c.if-state-gt2.true

pub returns-then-not-writes : goal.returns-then-not-writes
returns-then-not-writes c =
    refused_9 _ _ _ _ _ _ _ _ c.if-encoding-gt39.false c.if-mode-gt1.false c.if-state-gt2.false
    (sym c.writes.ensures ∙ c.if-not-writes.true)

pub returns-then-not-tables_fit : goal.returns-then-not-tables_fit
returns-then-not-tables_fit c =
    refused_4 _ _ _ _ _ _ _ _ c.if-encoding-gt39.false c.if-mode-gt1.false c.if-state-gt2.false (writer (goal.at.returns-then-not-tables_fit c).Else-not-writes)
    (sym c.tables_fit.ensures ∙ c.if-not-tables_fit.true)

pub returns-then-not-right : goal.returns-then-not-right
returns-then-not-right c =
    refused_15 _ _ _ _ _ _ _ _ c.if-encoding-gt39.false c.if-mode-gt1.false c.if-state-gt2.false (writer (goal.at.returns-then-not-right c).Else-not-writes) (fit (goal.at.returns-then-not-right c).Else-not-tables_fit)
    c.if-not-right.true

pub text_refusal-requires : goal.text_refusal-requires
text_refusal-requires c =
    let args = c.args in
    table_fits _ (lent args.t1.now args.t2.now) (writer (goal.at.text_refusal-requires c).Else-not-writes) (fit (goal.at.text_refusal-requires c).Else-not-tables_fit)

pub returns : goal.returns
returns c =
    c.text_refusal.ensures ∙
    refused_text _ _ _ _ _ _ _ _ c.if-encoding-gt39.false c.if-mode-gt1.false c.if-state-gt2.false (writer (goal.at.returns c).Else-not-writes) (fit (goal.at.returns c).Else-not-tables_fit)
    c.if-not-right.false
