use mathlib.Core.Path.{sym, ◌∙◌}
use mathlib.Core.List.{◌∷◌}
use lib.ListN.{take}
use Prim.Native.Nat.{◌-◌}
use Rattle.standard.proofs.Tests.{within_low}
use Rattle.standard.proofs.Leads.{in_two, in_three, in_four, utf8_two_lem, utf8_three_lem, utf8_four_lem, utf8_none}
use Rattle.sequences.proofs.Utf8Leaves.{utf8_ascii}
use native.Mathlib.Omega.{arith}
use Rattle.sequences.proofs.utf8.utf8.Goals as goal

pub returns-then-b0-lt128 : goal.returns-then-b0-lt128
returns-then-b0-lt128 c =
    let args = c.args in
    λ xs. c.gives.ensures ∙ sym (utf8_ascii args.have args.b0 args.b1 args.b2 args.b3 xs (omega arith))

pub two-requires : goal.two-requires
two-requires c =
    let args = c.args in
    let e = sym c.lead_length-n.ensures ∙ c.if-n-eq2.true in
    omega (arith, within_low 0xC2 args.b0 0xDF (in_two args.b0 (omega arith) e))

pub returns-then-n-eq2 : goal.returns-then-n-eq2
returns-then-n-eq2 c =
    let args = c.args in
    let e = sym c.lead_length-n.ensures ∙ c.if-n-eq2.true in
    λ xs. c.two.ensures (args.b2 ∷ args.b3 ∷ xs) ∙ sym (utf8_two_lem args.b0 (omega arith) (take (args.have - 1) (args.b1 ∷ args.b2 ∷ args.b3 ∷ xs)) e)

pub three-requires : goal.three-requires
three-requires c =
    let args = c.args in
    let e = sym c.lead_length-n.ensures ∙ c.if-n-eq3.true in
    within_low 0xE0 args.b0 0xEF (in_three args.b0 (omega arith) e)

pub returns-then-n-eq3 : goal.returns-then-n-eq3
returns-then-n-eq3 c =
    let args = c.args in
    let e = sym c.lead_length-n.ensures ∙ c.if-n-eq3.true in
    λ xs. c.three.ensures (args.b3 ∷ xs) ∙ sym (utf8_three_lem args.b0 (omega arith) (take (args.have - 1) (args.b1 ∷ args.b2 ∷ args.b3 ∷ xs)) e)

pub four-requires : goal.four-requires
four-requires c =
    let args = c.args in
    let e = sym c.lead_length-n.ensures ∙ c.if-n-eq4.true in
    within_low 0xF0 args.b0 0xF4 (in_four args.b0 (omega arith) e)

pub returns-then-n-eq4 : goal.returns-then-n-eq4
returns-then-n-eq4 c =
    let args = c.args in
    let e = sym c.lead_length-n.ensures ∙ c.if-n-eq4.true in
    λ xs. c.four.ensures xs ∙ sym (utf8_four_lem args.b0 (omega arith) (take (args.have - 1) (args.b1 ∷ args.b2 ∷ args.b3 ∷ xs)) e)

pub returns : goal.returns
returns c =
    let args = c.args in
    let e = c.lead_length-n.ensures in
    λ xs.
    c.wrong.ensures
    ∙ sym
    (utf8_none args.b0 (omega arith) (take (args.have - 1) (args.b1 ∷ args.b2 ∷ args.b3 ∷ xs)) (omega arith)
    (λ z. c.if-n-eq2.false (e ∙ z))
    (λ z. c.if-n-eq3.false (e ∙ z))
    (λ z. c.if-n-eq4.false (e ∙ z)))
