use native.Mathlib.Omega.{arith}
use borrow.Author.Tests.{eq-eqb, ne_eqb, lt-ltb, le-ltb}
use Rattle.reading.proofs.Choosing.{three_is}
use Rattle.reading.proofs.choice.of_three.Goals as goal

pub returns-then-have-lt2 : goal.returns-then-have-lt2
returns-then-have-lt2 c =
    let a = c.args in
    rw (three_is a.have a.second a.third, lt-ltb a.have 2 (omega arith))

pub returns-then-second-ne187 : goal.returns-then-second-ne187
returns-then-second-ne187 c =
    let a = c.args in
    rw (three_is a.have a.second a.third, le-ltb a.have 2 (omega arith), ne_eqb a.second 0xBB (omega arith))

pub returns-then-have-lt3 : goal.returns-then-have-lt3
returns-then-have-lt3 c =
    let a = c.args in
    rw (
      three_is a.have a.second a.third,
      le-ltb a.have 2 (omega arith),
      eq-eqb a.second 0xBB (omega arith),
      lt-ltb a.have 3 (omega arith),
    )

pub returns-then-third-eq191 : goal.returns-then-third-eq191
returns-then-third-eq191 c =
    let a = c.args in
    rw (
      three_is a.have a.second a.third,
      le-ltb a.have 2 (omega arith),
      eq-eqb a.second 0xBB (omega arith),
      le-ltb a.have 3 (omega arith),
      eq-eqb a.third 0xBF (omega arith),
    )

pub returns : goal.returns
returns c =
    let a = c.args in
    rw (
      three_is a.have a.second a.third,
      le-ltb a.have 2 (omega arith),
      eq-eqb a.second 0xBB (omega arith),
      le-ltb a.have 3 (omega arith),
      ne_eqb a.third 0xBF (omega arith),
    )
