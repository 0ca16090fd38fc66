use native.Mathlib.Omega.{arith}
use borrow.Author.Tests.{eq-eqb, ne_eqb, lt-ltb, le-ltb}
use Rattle.reading.proofs.Choosing.{two_is}
use Rattle.reading.proofs.choice.of_two.Goals as goal

pub returns-then-have-lt2 : goal.returns-then-have-lt2
returns-then-have-lt2 c =
    let a = c.args in
    rw (two_is a.have a.b a.last a.stage, lt-ltb a.have 2 (omega arith))

pub returns-then-b-last : goal.returns-then-b-last
returns-then-b-last c =
    let a = c.args in
    rw (two_is a.have a.b a.last a.stage, le-ltb a.have 2 (omega arith), eq-eqb a.b a.last (omega arith))

pub returns : goal.returns
returns c =
    let a = c.args in
    rw (two_is a.have a.b a.last a.stage, le-ltb a.have 2 (omega arith), ne_eqb a.b a.last (omega arith))
