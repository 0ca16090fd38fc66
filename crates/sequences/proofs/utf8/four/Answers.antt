use mathlib.Core.Path.{sym, ◌∙◌}
use Rattle.sequences.proofs.Utf8Leaves.{four_short, four_wrong}
use Rattle.sequences.proofs.utf8.four.Goals as goal

pub returns-in-Short : goal.returns-in-Short
returns-in-Short c =
    let a = c.args in
    λ xs. sym (four_short a.have a.b0 a.b1 a.b2 xs a.b3 (sym c.begun.ensures ∙ c.in-Short.is))

pub returns-in-Wrong : goal.returns-in-Wrong
returns-in-Wrong c =
    let a = c.args in
    λ xs. c.wrong.ensures ∙ sym (four_wrong a.have a.b0 a.b1 a.b2 xs a.b3 c.in-Wrong.width (sym c.begun.ensures ∙ c.in-Wrong.is))
