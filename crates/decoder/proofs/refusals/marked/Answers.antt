use mathlib.Core.Path.{sym, ◌∙◌}
use native.Mathlib.Omega.{arith}
use borrow.Author.Tests.{eq-eqb, ne_eqb}
use Rattle.decoder.proofs.Numbers.{marked_is}
use Rattle.decoder.proofs.refusals.marked.Goals as goal

pub returns-then-encoding-eq0 : goal.returns-then-encoding-eq0
returns-then-encoding-eq0 c =
    let e = c.args.encoding in
    let zero = eq-eqb e 0 (omega arith) in
    rw zero (sym (marked_is e ∙ rw zero))

pub returns-else-encoding-eq0 : goal.returns-else-encoding-eq0
returns-else-encoding-eq0 c =
    let e = c.args.encoding in
    c.utf_16.ensures ∙ sym (marked_is e ∙ rw (ne_eqb e 0 (omega arith)))
