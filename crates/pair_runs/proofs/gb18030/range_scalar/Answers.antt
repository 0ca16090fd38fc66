use mathlib.Core.Path.{sym, ◌∙◌}
use native.Mathlib.Omega.{arith}
use Rattle.std.proofs.lemmas.Option.{IfSome_then}
use Rattle.pair_runs.proofs.RangeSearch.{found}
use Rattle.pair_runs.proofs.gb18030.range_scalar.Goals as goal

pub returns : goal.returns
returns c =
    let args = c.args in
    let after = c.pointer_after in
    IfSome_then c.pair_scalar.result c.pair_scalar.ensures (λ u e.
    (e.1 ∙ sym (found args.ranges.now args.p c.requires args.k (omega arith) e.0 (λ h. omega (arith, after.ensures h))), e.2))
