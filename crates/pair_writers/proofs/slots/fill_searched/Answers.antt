-- `slots::fill_searched`: a row that is passed over, or its cells. Assumes nothing.
use mathlib.Core.Path.{sym, ◌∙◌}
use Rattle.pair_writers.proofs.Filling.{laid_inside, laid_pass, laid_row, laid_fits}
use Rattle.pair_writers.proofs.slots.fill_searched.Goals as goal

pub returns-then-passed : goal.returns-then-passed
returns-then-passed c =
    laid_pass _ _ _ _ _ _ c.args.rows.laid _ c.requires.0 (sym c.passed.ensures ∙ c.if-passed.true) _

pub fill_row-requires : goal.fill_row-requires
fill_row-requires c =
    let laid = c.args.rows.laid in
    let u = c.upper.ensures in
    (laid_inside _ _ _ _ _ _ laid _ c.requires.0, laid.columns, c.requires.1, λ j h. rw u.0 (laid_fits _ _ _ _ _ _ laid _ j u.1 h))

pub returns : goal.returns
returns c =
    let lead = c.upper.ensures.0 in
    let unpassed = sym c.passed.ensures ∙ c.if-passed.false in
    let r = laid_row _ _ _ _ _ _ c.args.rows.laid _ c.requires.0 unpassed c.two_bytes-pair.result c.two_bytes-pair.ensures in
    λ f. c.fill_row.ensures c.args.rows.encoding (rw lead r) f
