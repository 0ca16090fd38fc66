use mathlib.Core.Path.{◌≡◌, sym, ◌∙◌}
use Rattle.standard.specs.Leads.{lead_length}
use Rattle.standard.proofs.Leads.{in_two}
use Rattle.standard.proofs.Tests.{within_low}
use Rattle.utf8_runs.proofs.GoodUtf8.{good_two}
use native.Mathlib.Omega.{arith}
use Rattle.utf8_runs.proofs.two.Goals as goal

pub overflow_sub-result : goal.overflow_sub-result
overflow_sub-result c =
    let args = c.args in
    let leads : lead_length args.b0 ≡ 2 = omega (arith, c.lead_length.ensures, c.lead_length-2.ensures) in
    omega (arith, within_low 0xC2 args.b0 0xDF (in_two args.b0 (omega arith) leads))

pub overflow_sub-result-then-within : goal.overflow_sub-result-then-within
overflow_sub-result-then-within c =
    let args = c.args in
    let follows = sym c.within.ensures ∙ c.if-within.true in
    omega (arith, within_low 0x80 args.b1 0xBF follows)

pub returns-then-within : goal.returns-then-within
returns-then-within c =
    let args = c.args in
    let leads : lead_length args.b0 ≡ 2 = omega (arith, c.lead_length.ensures, c.lead_length-2.ensures) in
    let follows = sym c.within.ensures ∙ c.if-within.true in
    λ xs. good_two args.b0 (omega arith) args.b1 xs leads follows
