-- `remember`: nothing, or two bytes in their slot. Assumes nothing.
use mathlib.Core.Path.{◌≡◌}
use lib.ListN.{length}
use native.Mathlib.Omega.{arith}
use borrow.Author.Rules.{rules}
use Rattle.encoder.specs.WriterCode.{same}
use Rattle.encoder.proofs.PairSlots.{keeps_two}
use Rattle.encoder.proofs.pairs.remember.Goals as goal

pub returns-in_default : goal.returns-in_default
returns-in_default c = same

pub returns-else-slots-eq65536 : goal.returns-else-slots-eq65536
returns-else-slots-eq65536 c = same

pub returns-then-floor-v : goal.returns-then-floor-v
returns-then-floor-v c =
    let two : length c.in-Two.bytes ≡ 2 = omega arith in
    keeps_two _ _ _ _ _ c.in-Two.is two _ _ c.from.ensures c.from-2.ensures (search rules) c.if-slots-eq65536.true (omega arith) (omega (arith, c.if-floor-v.true, c.floor.ensures))
