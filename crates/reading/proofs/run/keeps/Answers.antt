use borrow.Author.Tests.{eq-eqb, ne_eqb, lt-ltb, le-ltb}
use native.Mathlib.Omega.{arith}
use Rattle.reading.proofs.Counting.{keeps_is}
use Rattle.reading.proofs.run.keeps.Goals as goal

pub returns-then-encoding-lt36 : goal.returns-then-encoding-lt36
returns-then-encoding-lt36 c =
    let e = c.args.encoding in
    let low = lt-ltb e 36 (omega arith) in
    rw low (rw (ne_eqb e 33 (omega arith), low) at (keeps_is e))

pub returns-else-encoding-lt36 : goal.returns-else-encoding-lt36
returns-else-encoding-lt36 c =
    let e = c.args.encoding in
    rw (ne_eqb e 33 (omega arith), le-ltb e 36 (omega arith)) at (keeps_is e)

pub returns-else-encoding-ne33 : goal.returns-else-encoding-ne33
returns-else-encoding-ne33 c =
    let e = c.args.encoding in
    let same = eq-eqb e 33 (omega arith) in
    rw same (rw same at (keeps_is e))
