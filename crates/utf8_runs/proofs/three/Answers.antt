use native.Mathlib.Omega.{arith}
use mathlib.Core.Path.{◌≡◌}
use mathlib.Core.Bool.{true}
use Rattle.standard.specs.Base.{within}
use Rattle.standard.specs.Leads.{lead_length}
use Rattle.standard.proofs.Leads.{in_three}
use Rattle.standard.proofs.Tests.{holds, within_low, within_high}
use Rattle.utf8_runs.proofs.GoodUtf8.{three_below, three_above}
use Rattle.std.proofs.lemmas.Bool.{not_from_true}
use Rattle.utf8_runs.proofs.three.Goals as goal
use Rattle.utf8_runs.proofs.three.Goals.{Else-not-within-2}

leads : (c : Else-not-within-2) → lead_length c.args.b0 ≡ 3
leads c =
    let at = c.before.before.before.before in
    omega (arith, at.lead_length.ensures, at.lead_length-2.ensures)

second : (c : Else-not-within-2) → within 0x80 c.args.b1 0xBF ≡ true
second c = holds c.within.ensures (not_from_true _ c.if-not-within.false)

third : (c : Else-not-within-2) → within 0x80 c.args.b2 0xBF ≡ true
third c = holds c.within-2.ensures (not_from_true _ c.if-not-within-2.false)

pub three_bits-c-requires : goal.three_bits-c-requires
three_bits-c-requires c =
    let args = c.args in
    let lead = in_three args.b0 (omega arith) (leads c) in (
      within_low 0xE0 args.b0 0xEF lead,
      within_high 0xE0 args.b0 0xEF lead,
      within_low 0x80 args.b1 0xBF (second c),
      within_high 0x80 args.b1 0xBF (second c),
      within_low 0x80 args.b2 0xBF (third c),
    )

pub returns-then-c-lt55296 : goal.returns-then-c-lt55296
returns-then-c-lt55296 c =
    let at = c.before.before.before in
    let args = at.args in
    let e = c.three_bits-c.ensures in
    λ xs.
    let good = three_below args.b0 (omega arith) args.b1 xs args.b2 (leads (goal.at.returns-then-c-lt55296 c).Else-not-within-2) (second (goal.at.returns-then-c-lt55296 c).Else-not-within-2) (third (goal.at.returns-then-c-lt55296 c).Else-not-within-2) in
    rw e (good (omega (arith, e)) (omega (arith, e)))

pub returns : goal.returns
returns c =
    let at = c.before.before.before.before in
    let args = at.args in
    let e = c.three_bits-c.ensures in
    λ xs.
    let good = three_above args.b0 (omega arith) args.b1 xs args.b2 (leads (goal.at.returns c).Else-not-within-2) (second (goal.at.returns c).Else-not-within-2) (third (goal.at.returns c).Else-not-within-2) in
    rw e (good (omega (arith, e)) (omega (arith, e)))
