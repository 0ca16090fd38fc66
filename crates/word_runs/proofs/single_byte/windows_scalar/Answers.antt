use native.Mathlib.Omega.{arith}
use mathlib.Core.Path.{ap, ◌∙◌}
use lib.ListN.{length}
use Rattle.word_runs.proofs.ByteRuns.{irregular_length}
use Rattle.word_runs.proofs.single_byte.windows_scalar.Goals as goal

pub bounds-cells-from : goal.bounds-cells-from
bounds-cells-from c = omega (arith, ap length c.requires ∙ irregular_length)
