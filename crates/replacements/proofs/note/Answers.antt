use mathlib.Core.Path.{sym, ◌∙◌}
use Rattle.std.proofs.lemmas.Bool.{not_from_true, not_from_false}
use Rattle.replacements.proofs.Adding.{adds_none}
use Rattle.replacements.proofs.Walking.{noted_text, noted_error}
use borrow.Author.Tests.{not-true, not-false}
use Rattle.replacements.proofs.note.Goals as goal

pub returns-then-not-is_error : goal.returns-then-not-is_error
returns-then-not-is_error c =
    let a = c.args in
    let none = not-true c.is_error.result (not_from_false _ c.if-not-is_error.true) in
    adds_none a.spans.now a.n _ (noted_text a.place a.q (sym c.is_error.ensures ∙ none))

pub returns : goal.returns
returns c =
    let a = c.args in
    let one = not-false c.is_error.result (not_from_true _ c.if-not-is_error.false) in
    rw (noted_error a.place a.q (sym c.is_error.ensures ∙ one)) c.put_span.ensures
