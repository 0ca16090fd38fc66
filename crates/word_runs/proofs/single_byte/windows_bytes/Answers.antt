use native.Mathlib.Omega.{arith}
use mathlib.Core.Path.{◌≡◌, refl}
use Prim.Native.Nat.{◌-◌}
use lib.ListN.{length, length-set}
use Rattle.word_runs.proofs.ByteRuns.{through_none, through_more}
use Rattle.word_runs.specs.Bytes.{windows_scalar}
use Rattle.word_runs.proofs.single_byte.windows_bytes.Goals as goal

pub loop-k-init : goal.loop-k-init
loop-k-init c = (refl, through_none windows_scalar)

pub loop-k-preserved : goal.loop-k-preserved
loop-k-preserved c =
    (simp length-set c.loop-k.invariant.0, through_more windows_scalar c.loop-k.invariant.1 c.windows_scalar.result (omega arith) c.windows_scalar.ensures.1 c.windows_scalar.ensures.0)

pub returns : goal.returns
returns c = let all : c.loop-k.k ≡ length c.args.chunk.now - c.args.from = omega arith in rw all at c.loop-k.invariant.1
