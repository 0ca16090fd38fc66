-- `bucket`: a remainder is below its divisor. Assumes nothing.
use Rattle.reverse_index_spec.specs.ReverseIndex.{bucket}
use mathlib.Core.Path.{refl}
use Prim.Native.Nat.{◌/◌}
use native.Mathlib.Nat.{mod-lt}
use native.Mathlib.Omega.{arith}
use Rattle.reverse_index.proofs.links.bucket.Goals as goal

pub overflow_cast-result : goal.overflow_cast-result
overflow_cast-result c = omega (arith, mod-lt (c.args.c / 2) c.requires.0)

pub returns : goal.returns
unfolding bucket
returns c = (refl, mod-lt (c.args.c / 2) c.requires.0)
