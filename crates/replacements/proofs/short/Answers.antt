use native.Mathlib.Omega.{arith}
use mathlib.Core.Path.{sym, ◌∙◌}
use Prim.Native.Nat.{◌+◌, ◌*◌, ◌/◌}
use lib.Dec.{ltb}
use borrow.Author.Tests.{lt-ltb, le-ltb, ltb-true, ltb-false}
use Rattle.standard.proofs.Tests.{split}
use Rattle.replacements.proofs.short.Goals as goal

pub returns : goal.returns
returns c =
    let a = c.args in
    split (ltb a.cells (2 * (a.bytes + a.held)))
    (λ e. lt-ltb (a.cells / 2) c.saturating_add.result
    (omega (arith, c.saturating_add.ensures, c.from.ensures, ltb-true a.cells (2 * (a.bytes + a.held)) e)) ∙ sym e)
    (λ e. le-ltb (a.cells / 2) c.saturating_add.result
    (omega (arith, c.saturating_add.ensures, c.from.ensures, ltb-false a.cells (2 * (a.bytes + a.held)) e)) ∙ sym e)
