use mathlib.Core.Path.{sym}
use native.Mathlib.Omega.{arith}
use Rattle.decoder.proofs.Checks.{record_5, record_6, record_0}
use Rattle.decoder.proofs.refusals.usable.Goals as goal

pub returns-then-not-valid : goal.returns-then-not-valid
returns-then-not-valid c = record_5 c.args.d (sym c.if-not-valid.ensures)

pub returns-then-d-eq1 : goal.returns-then-d-eq1
returns-then-d-eq1 c = record_6 c.args.d (sym c.if-not-valid.ensures) (omega arith)

pub returns : goal.returns
returns c = record_0 c.args.d (sym c.if-not-valid.ensures) (omega arith)
