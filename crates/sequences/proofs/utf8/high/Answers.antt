use Rattle.sequences.proofs.Utf8Leaves.{high_ed, high_f4, high_other}
use mathlib.Core.Path.{sym}
use native.Mathlib.Omega.{arith}
use Rattle.sequences.proofs.utf8.high.Goals as goal

pub returns-then-b0-eq237 : goal.returns-then-b0-eq237
returns-then-b0-eq237 c = sym (high_ed c.args.b0 (omega arith))

pub returns-then-b0-eq244 : goal.returns-then-b0-eq244
returns-then-b0-eq244 c = sym (high_f4 c.args.b0 (omega arith))

pub returns : goal.returns
returns c = sym (high_other c.args.b0 (omega arith) (omega arith))
