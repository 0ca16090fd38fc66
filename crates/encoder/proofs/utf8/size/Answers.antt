-- `utf8::size`: a byte more for each test that holds. Assumes nothing.
use native.Mathlib.Omega.{arith}
use Rattle.encoder.proofs.Counting.{one_more}
use Rattle.encoder.proofs.Scalars.{utf8_size}
use Rattle.encoder.proofs.utf8.size.Goals as goal

pub returns : goal.returns
returns c =
    let two = c.from.ensures in
    let three = c.from-2.ensures in
    let four = c.from-3.ensures in
    (utf8_size c.args.c _ _ _ two three four, omega (arith, one_more _ _ two, one_more _ _ three, one_more _ _ four))
