use Rattle.sequences.proofs.Utf8Leaves.{low_e0, low_f0, low_other}
use mathlib.Core.Path.{sym}
use native.Mathlib.Omega.{arith}
use Rattle.sequences.proofs.utf8.low.Goals as goal

pub returns-then-b0-eq224 : goal.returns-then-b0-eq224
returns-then-b0-eq224 c = sym (low_e0 c.args.b0 (omega arith))

pub returns-then-b0-eq240 : goal.returns-then-b0-eq240
returns-then-b0-eq240 c = sym (low_f0 c.args.b0 (omega arith))

pub returns : goal.returns
returns c = sym (low_other c.args.b0 (omega arith) (omega arith))
