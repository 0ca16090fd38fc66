use mathlib.Core.Path.{sym}
use Rattle.sequences.proofs.Utf16Leaves.{unit_be, unit_le}
use Rattle.sequences.proofs.utf_16.unit.Goals as goal

pub returns-then-be : goal.returns-then-be
returns-then-be c = let a = c.args in sym (unit_be a.be a.b a.c c.if-be.true)

pub returns : goal.returns
returns c = let a = c.args in sym (unit_le a.be a.b a.c c.if-be.false)
