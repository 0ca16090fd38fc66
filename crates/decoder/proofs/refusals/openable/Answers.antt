use borrow.Author.Tests.{lt-ltb}
use lib.Dec.{ltb}
use mathlib.Core.Bool.{or-true}
use native.Mathlib.Omega.{arith}
use Rattle.decoder.proofs.Checks.{open_2, open_3, open_0}
use Rattle.decoder.proofs.refusals.openable.Goals as goal
use Rattle.decoder.proofs.refusals.openable.Goals.{then-mode-gt1-via-then-mode-gt1, then-mode-gt1-via-else-mode-gt1+then-rule-gt2}

pub returns-then-encoding-gt39 : goal.returns-then-encoding-gt39
returns-then-encoding-gt39 c = let a = c.args in open_2 a.encoding a.mode a.rule (omega arith)

pub returns-then-mode-gt1 : goal.returns-then-mode-gt1
returns-then-mode-gt1 c =
    let a = c.args in
    elim c.then-mode-gt1.branch [
      | then-mode-gt1-via-then-mode-gt1 w ↦ open_3 a.encoding a.mode a.rule (omega arith) (rw (lt-ltb 1 a.mode w.if-mode-gt1.true))
      | then-mode-gt1-via-else-mode-gt1+then-rule-gt2 w ↦ open_3 a.encoding a.mode a.rule (omega arith)
          (rw (lt-ltb 2 a.rule w.if-rule-gt2.true) (or-true (ltb 1 a.mode)))
    ]

pub returns : goal.returns
returns c = let a = c.args in open_0 a.encoding a.mode a.rule (omega arith) (omega arith) (omega arith)
