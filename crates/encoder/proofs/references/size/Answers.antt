-- `references::size`: three bytes more than the digits. Assumes nothing.
use Rattle.encoder.proofs.Rooms.{reference_length, reference_wide}
use native.Mathlib.Omega.{arith}
use Rattle.encoder.proofs.references.size.Goals as goal

pub returns : goal.returns
returns c =
    let all = reference_length c.args.c in (
      omega (arith, all, c.digits.ensures.0),
      omega (arith, c.digits.ensures.1),
      omega (arith, all, c.digits.ensures.0, reference_wide c.args.c (omega (arith, c.ranges.c))),
    )
