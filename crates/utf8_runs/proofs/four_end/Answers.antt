use mathlib.Core.Path.{refl, sym, ◌∙◌}
use Rattle.standard.proofs.Tests.{within_low}
use native.Mathlib.Omega.{arith}
use Rattle.utf8_runs.proofs.four_end.Goals as goal

pub overflow_sub-result-then-within-2-2 : goal.overflow_sub-result-then-within-2-2
overflow_sub-result-then-within-2-2 c =
    let args = c.args in
    let third = sym c.within.ensures ∙ c.if-within.true in
    let fourth = sym c.within-then-within.ensures ∙ c.if-within-2.true in
    let low2 = within_low 0x80 args.b2 0xBF third in
    let low3 = within_low 0x80 args.b3 0xBF fourth in
    omega arith

pub overflow_sub-result-then-within-2-3 : goal.overflow_sub-result-then-within-2-3
overflow_sub-result-then-within-2-3 c =
    let args = c.args in
    let third = sym c.within.ensures ∙ c.if-within.true in
    let fourth = sym c.within-then-within.ensures ∙ c.if-within-2.true in
    let low2 = within_low 0x80 args.b2 0xBF third in
    let low3 = within_low 0x80 args.b3 0xBF fourth in
    omega arith

pub returns-then-within-2 : goal.returns-then-within-2
returns-then-within-2 c =
    let args = c.args in
    let third = sym c.within.ensures ∙ c.if-within.true in
    let fourth = sym c.within-then-within.ensures ∙ c.if-within-2.true in
    let low2 = within_low 0x80 args.b2 0xBF third in
    let low3 = within_low 0x80 args.b3 0xBF fourth in
    (third, fourth, refl)
