use mathlib.Core.Path.{◌≡◌, sym, ap, subst, ◌∙◌}
use Prim.Native.Nat.{ℕ, ◌+◌, ◌*◌, ◌/◌}
use lib.ListN.{length}
use native.Mathlib.Omega.{arith}
use Rattle.pair_writers.specs.Pairs.{Filled}
use Rattle.pair_writers.proofs.Filling.{next_row, laid_real, laid_all}
use Rattle.pair_writers.proofs.slots.fill_rows.Goals as goal

pub nonzero_div-row-end : goal.nonzero_div-row-end
nonzero_div-row-end c = laid_real _ _ _ _ _ _ c.args.rows.laid

pub loop-row-preserved : goal.loop-row-preserved
loop-row-preserved c =
    let rows = c.args.rows in
    let inv = c.loop-row.invariant in
    let z : c.loop-row.row * rows.width + rows.width ≡ (c.loop-row.row + 1) * rows.width = sym (next_row c.loop-row.row rows.width) in (
      c.fill_searched.auto.slots ∙ inv.0,
      λ f. subst (λ (p : ℕ). Filled rows.encoding rows.table.now p c.fill_searched.new.slots) z (c.fill_searched.ensures (inv.1 f)),
    )

pub returns : goal.returns
returns c =
    let rows = c.args.rows in
    let z : c.loop-row.row ≡ length rows.table.now / rows.width = omega arith in
    let all : c.loop-row.row * rows.width ≡ length rows.table.now = ap (λ (n : ℕ). n * rows.width) z ∙ laid_all _ _ _ _ _ _ rows.laid in
    λ f. subst (λ (p : ℕ). Filled rows.encoding rows.table.now p c.loop-row.slots) all (c.loop-row.invariant.1 f)
