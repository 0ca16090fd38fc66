use native.Mathlib.Omega.{arith}
use borrow.Author.Tests.{eq-eqb, ne_eqb}
use Rattle.reading.proofs.Choosing.{choose_is}
use Rattle.reading.proofs.choice.choose.Goals as goal

pub returns-then-have-eq0 : goal.returns-then-have-eq0
returns-then-have-eq0 c =
    let a = c.args in
    rw (choose_is a.have a.first a.second a.third, eq-eqb a.have 0 (omega arith))

pub returns-in-239 : goal.returns-in-239
returns-in-239 c =
    let a = c.args in
    rw (
      choose_is a.have a.first a.second a.third,
      ne_eqb a.have 0 (omega arith),
      eq-eqb a.first 0xEF (omega arith),
    ) c.of_three.ensures

pub returns-in-254 : goal.returns-in-254
returns-in-254 c =
    let a = c.args in
    rw (
      choose_is a.have a.first a.second a.third,
      ne_eqb a.have 0 (omega arith),
      ne_eqb a.first 0xEF (omega arith),
      eq-eqb a.first 0xFE (omega arith),
    ) c.of_two.ensures

pub returns-in-255 : goal.returns-in-255
returns-in-255 c =
    let a = c.args in
    rw (
      choose_is a.have a.first a.second a.third,
      ne_eqb a.have 0 (omega arith),
      ne_eqb a.first 0xEF (omega arith),
      ne_eqb a.first 0xFE (omega arith),
      eq-eqb a.first 0xFF (omega arith),
    ) c.of_two-in-255.ensures

pub returns-in_default : goal.returns-in_default
returns-in_default c =
    let a = c.args in
    rw (
      choose_is a.have a.first a.second a.third,
      ne_eqb a.have 0 (omega arith),
      ne_eqb a.first 0xEF (omega arith),
      ne_eqb a.first 0xFE (omega arith),
      ne_eqb a.first 0xFF (omega arith),
    )
