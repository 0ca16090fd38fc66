use native.Mathlib.Omega.{arith}
use mathlib.Core.Path.{refl, ap}
use Prim.Native.Nat.{◌+◌}
use lib.ListN.{length, get_or}
use Rattle.word_runs.specs.Bytes.{windows_scalar}
use Rattle.word_runs.proofs.ByteRuns.{replaced_none, replaced_more, replaced_all, windows_ascii, windows_upper, windows_same, irregular_length}
use Rattle.word_runs.proofs.single_byte.fill_windows.Goals as goal

pub loop-k-init : goal.loop-k-init
loop-k-init c = replaced_none _ _ (omega arith) c.places.ensures

pub bounds-cells-k : goal.bounds-cells-k
bounds-cells-k c = omega (arith, ap length c.requires, irregular_length)

pub loop-k-preserved : goal.loop-k-preserved
loop-k-preserved c = replaced_more _ c.loop-k.table c.loop-k.k c.loop-k.invariant (get_or c.args.cells.now c.loop-k.k 0) (omega arith) refl

pub returns : goal.returns
returns c =
    replaced_all _ c.loop-k.table c.loop-k.k c.loop-k.invariant windows_scalar (λ j l. windows_ascii j l) (λ j l. windows_upper c.args.cells.now c.requires j (omega arith)) (λ j l l'. windows_same (j + 128) (omega arith))
