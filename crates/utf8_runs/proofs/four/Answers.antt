use mathlib.Core.Path.{◌≡◌, sym, ap, ◌∙◌}
use mathlib.Core.Bool.{true}
use Rattle.standard.proofs.FamilyLaws.{low_least}
use Rattle.standard.proofs.Leads.{in_four}
use Rattle.standard.proofs.Tests.{within_low}
use Rattle.standard.specs.Base.{within}
use Rattle.standard.specs.Leads.{lead_length}
use Rattle.standard.specs.Sequence.{scalar}
use Rattle.standard.specs.Sequences.Utf8.{utf8_low, utf8_high}
use Rattle.std.proofs.lemmas.Option.{IfSome_then}
use Rattle.utf8_runs.proofs.GoodUtf8.{good_four}
use native.Mathlib.Omega.{arith}
use Rattle.utf8_runs.proofs.four.Goals as goal
use Rattle.utf8_runs.proofs.four.Goals.{Then-within}

leads : (c : Then-within) → lead_length c.args.b0 ≡ 4
leads c =
    let at = c.before.before.before.before in
    omega (arith, at.lead_length.ensures, at.lead_length-2.ensures)

second : (c : Then-within) → within (utf8_low c.args.b0) c.args.b1 (utf8_high c.args.b0) ≡ true
second c =
    let e = sym c.within.ensures ∙ c.if-within.true in
    rw (c.low.ensures, c.high.ensures) at e

pub four_end-requires : goal.four_end-requires
four_end-requires c =
    let args = c.args in
    let low1 = within_low (utf8_low args.b0) args.b1 (utf8_high args.b0) (second c) in
    let least = low_least args.b0 in
    (within_low 0xF0 args.b0 0xF4 (in_four args.b0 (omega arith) (leads c)), omega arith)

pub returns-then-within : goal.returns-then-within
returns-then-within c =
    let args = c.args in
    let at = (goal.at.returns-then-within c).Then-within in
    IfSome_then c.four_end.result c.four_end.ensures (λ u rest xs.
    good_four args.b0 (omega arith) args.b1 xs args.b2 args.b3 (leads at) (second at) rest.0 rest.1
    ∙ ap (scalar 4) (sym rest.2))
