use Rattle.std.proofs.Common.{◌∙◌}
use Rattle.list.proofs.Spanned.{span_none, span_to, stop_empty, stop_return, stop_plain, span_end}
use Rattle.list.proofs.cursor.line_at.Goals as goal
use Rattle.list.proofs.cursor.line_at.Goals.{then-length-gt0+then-text-end-eq-CARRIAGE_RETURN, else-length-gt0, else-length-gt0-via-then-length-gt0+else-text-end-eq-CARRIAGE_RETURN, else-length-gt0-via-else-length-gt0}

pub returns-then-at-text : goal.returns-then-at-text
returns-then-at-text c = span_none c.args.text.now c.args.at c.if-at-text.true

pub returns-after-length-gt0 : goal.returns-after-length-gt0
returns-after-length-gt0 c =
    let text = c.args.text.now in
    let a = c.args.at in
    let h = c.if-at-text.false in
    let k = c.in-Some.length in
    let e = c.in-Some.ensures.0 in
    let g = c.in-Some.ensures.1 in
    span_to text a h k e c.if-length-gt0.stop (elim c.if-length-gt0.branch [
      | then-length-gt0+then-text-end-eq-CARRIAGE_RETURN w ↦ w.stop-is ∙ stop_return text a h k e g w.if-length-gt0.true w.if-text-end-eq-CARRIAGE_RETURN.true
      | else-length-gt0 w ↦ w.stop-is ∙ elim w.else-length-gt0.branch [
        | else-length-gt0-via-then-length-gt0+else-text-end-eq-CARRIAGE_RETURN v ↦ stop_plain text a h k e g v.if-length-gt0.true v.if-text-end-eq-CARRIAGE_RETURN.false
        | else-length-gt0-via-else-length-gt0 v ↦ stop_empty text a h k e g v.if-length-gt0.false
      ]
    ])

pub returns-in-None : goal.returns-in-None
returns-in-None c = span_end c.args.text.now c.args.at c.if-at-text.false c.in-None.ensures
