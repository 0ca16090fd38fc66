-- `pointer_outside`: what is found below the stretch, else what is found behind it. Assumes nothing.
use mathlib.Core.Path.{◌≡◌, ap, ◌∙◌}
use mathlib.Core.Option.{Option}
use Prim.Native.Nat.{ℕ, ◌+◌}
use lib.ListN.{length}
use lib.Seq.{slice}
use Rattle.std.specs.Prelude.{MatchOption, Some}
use Rattle.std.proofs.Common.{rules}
use Rattle.standard.specs.Search.{first, either, pointer_from}
use Rattle.index.specs.IndexCode.{pointer_of}
use Rattle.index.proofs.Search.{outside, either_first}
use Rattle.index.proofs.pointer_outside.Goals as goal

pub returns : goal.returns
returns c =
    let args = c.args in
    let high = args.high + 1 in
    let behind = pointer_from high (slice high (length args.table.now) args.table.now) args.c in
    let found : MatchOption c.pointer_between.result (pointer_of c.or_else.result ≡ behind) (λ p. c.or_else.result ≡ Some p) = search rules in
    either_first c.pointer_between.result _ behind found ∙
    ap (λ (o : Option ℕ). either first o behind) c.pointer_between.ensures ∙
    outside args.low args.high args.c args.table.now
