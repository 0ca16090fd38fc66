-- `try_build`, test by test; then the cells. Assumes nothing.
use mathlib.Core.Path.{◌≡◌, sym, ◌∙◌}
use mathlib.Core.Bool.{true}
use lib.ListN.{length}
use lib.Dec.{eqb}
use Rattle.standard.specs.Encodings.{family, traits}
use Rattle.standard.proofs.Tests.{fails, holds}
use Rattle.reverse_index_spec.specs.ReverseIndex.{fits}
use Rattle.reverse_index_spec.proofs.Building.{fits_facts}
use Rattle.reverse_index.proofs.Answers.{build_unknown, build_table, build_index, build_done}
use native.Mathlib.Omega.{arith}
use Rattle.std.proofs.lemmas.Bool.{not_from_true, not_from_false}
use Rattle.reverse_index.proofs.try_build.Goals as goal
use Rattle.reverse_index.proofs.try_build.Goals.{After-fits, Else-not-fits}

known : (c : After-fits) → eqb (length c.args.table.now) (traits (family c.args.encoding)).first ≡ true
known c = holds c.first_fits.ensures (not_from_true _ c.if-not-first_fits.false)

fitted : (c : Else-not-fits) → fits (length c.args.table.now) (length c.args.index.now) ≡ true
fitted c = holds c.fits.ensures (not_from_true _ c.if-not-fits.false)

pub returns-then-encoding-gt39 : goal.returns-then-encoding-gt39
returns-then-encoding-gt39 c = build_unknown _ _ _ c.if-encoding-gt39.true

pub returns-then-not-first_fits : goal.returns-then-not-first_fits
returns-then-not-first_fits c = build_table _ _ _ c.if-encoding-gt39.false (fails c.first_fits.ensures (not_from_false _ c.if-not-first_fits.true))

pub returns-then-not-fits : goal.returns-then-not-fits
returns-then-not-fits c =
    let f = c.before in
    build_index _ _ _ f.if-encoding-gt39.false (known (goal.at.returns-then-not-fits c).After-fits) (fails f.fits.ensures (not_from_false _ c.if-not-fits.true))

pub clear-requires : goal.clear-requires
clear-requires c = omega (arith, (fits_facts _ _ (fitted (goal.at.clear-requires c).Else-not-fits)).1)

pub fill-requires : goal.fill-requires
fill-requires c =
    let l = c.before.before.before in
    let f = fits_facts _ _ (fitted (goal.at.fill-requires c).Else-not-fits) in
    (f.0, l.clear.ensures.0 ∙ f.1, l.clear.ensures.1)

pub shape_of-index : goal.shape_of-index
shape_of-index c =
    let a = c.before.before in
    a.fill.ensures.size ∙ sym (fits_facts _ _ (fitted (goal.at.shape_of-index c).Else-not-fits)).1

pub returns : goal.returns
returns c =
    let a = c.before.before in
    let t = a.before.before.before.before.before.before in
    build_done _ _ _ t.if-encoding-gt39.false (known (goal.at.returns c).After-fits) (fitted (goal.at.returns c).Else-not-fits) _ a.fill.ensures
