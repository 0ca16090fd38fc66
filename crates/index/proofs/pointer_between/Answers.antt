use Rattle.index.proofs.Search.{unmapped_missing, stretch_none, stretch_found}
use mathlib.Core.Path.{◌≡◌, sym, ap, ◌∙◌}
use Prim.Native.Nat.{ℕ, ◌+◌}
use borrow.Author.Rules.{rules}
use native.Mathlib.Omega.{arith}
use Rattle.std.specs.Prelude.{option_map}
use Rattle.index.specs.IndexCode.{pointer_of}
use Rattle.index.proofs.pointer_between.Goals as goal

pub returns-then-not-mapped : goal.returns-then-not-mapped
returns-then-not-mapped c = unmapped_missing c.args.c (sym c.mapped.ensures ∙ c.if-not-mapped.true) _ _

pub returns-in_err-stretch : goal.returns-in_err-stretch
returns-in_err-stretch c = ap pointer_of c.from_residual.ensures ∙ stretch_none c.args.table.now _ _ _ (omega (arith, c.in_err-stretch.ensures.lookup))

pub returns : goal.returns
returns c =
    let args = c.args in
    let onward : c.map.result ≡ option_map (λ (i : ℕ). args.start + i) c.find.result = search rules in
    let found = c.in_ok-stretch.ensures.lookup.0 in
    ap pointer_of onward ∙
    stretch_found args.table.now args.c args.start args.end (sym c.mapped.ensures ∙ c.if-not-mapped.false) _ c.min.ensures found.0 _ found.2 _ c.find.ensures
