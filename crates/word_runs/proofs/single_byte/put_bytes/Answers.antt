use native.Mathlib.Omega.{arith}
use mathlib.Core.Path.{◌≡◌, refl, ap}
use Prim.Native.Nat.{ℕ}
use lib.ListN.{get_or, length-set}
use Rattle.word_runs.proofs.ByteRuns.{through_none, through_more}
use Rattle.word_runs.proofs.single_byte.put_bytes.Goals as goal

pub loop-k-init : goal.loop-k-init
loop-k-init c = (refl, through_none (λ (b : ℕ). get_or c.args.table.now b 0))

pub loop-k-preserved : goal.loop-k-preserved
loop-k-preserved c = (simp length-set c.loop-k.invariant.0, through_more (λ (b : ℕ). get_or c.args.table.now b 0) c.loop-k.invariant.1 _ (omega arith) (omega arith) (ap (λ (j : ℕ). get_or c.args.table.now j 0) c.from.ensures))

pub returns : goal.returns
returns c = let all : c.loop-k.k ≡ c.args.n = omega arith in rw all at c.loop-k.invariant.1
