use mathlib.Core.Path.{sym, ◌∙◌}
use Prim.Native.Nat.{◌+◌}
use lib.ListN.{get_or}
use Rattle.standard.specs.Encodings.{lent}
use Rattle.std.proofs.lemmas.Option.{IfSome_then}
use Rattle.standard.proofs.Laws.{mapped_real}
use Rattle.pair_runs.proofs.GbRuns.{at_front, four_told}
use native.Mathlib.Omega.{arith}
use Rattle.pair_runs.proofs.gb18030.four_at.Goals as goal

pub four_scalar-requires : goal.four_scalar-requires
four_scalar-requires g c =
    (omega arith, (c.requires.0, c.requires.2 c.if-not-ordered.false))

-- after the three tests of the pointer
pub returns-clause-scalar : goal.returns-clause-scalar
returns-clause-scalar g c =
    let args = c.args in
    let p = c.four_pointer-p in
    let chunk = args.chunk.now in
    let i = args.i in
    IfSome_then c.four_scalar.result c.four_scalar.ensures.scalar (λ u r. (
      c.if-not-ordered.false,
      omega arith,
      λ first. sym (at_front (lent first args.ranges.now) chunk i (omega arith)) ∙
          four_told args.ranges.now p.result u (get_or chunk i 0) (get_or chunk (i + 1) 0) (get_or chunk (i + 2) 0) (get_or chunk (i + 3) 0)
          p.ensures (sym c.gap.ensures ∙ c.if-gap.false) c.if-p-eq7457.false r.0 r.1 (λ z. omega (arith, mapped_real u r.1)) first,
    ))
