use native.Mathlib.Omega.{arith}
use mathlib.Core.Path.{◌≡◌, ap, ◌∙◌}
use lib.ListN.{length-set}
use Rattle.standard.specs.Text.{bytes}
use Rattle.program_text.proofs.Numbers.{count_few}
use Rattle.program_text.proofs.Texts.{same}
use Rattle.mend_spec.specs.Mended.{span_line}
use Rattle.mend_spec.proofs.Report.{put_line}
use Rattle.mend.proofs.lines.put_span.Goals as goal

pub bounds-report-tab : goal.bounds-report-tab
bounds-report-tab c = let p = c.put_count-tab in
    omega (arith, count_few c.from.result, (p.ensures.put (omega arith)).behind, p.auto.out)

pub overflow_add-tab : goal.overflow_add-tab
overflow_add-tab c = let p = c.put_count-tab in
    record {
      fits = omega (
        arith,
        count_few c.from.result,
        (p.ensures.put (omega arith)).behind,
      );
    }

pub shape_of-report : goal.shape_of-report
shape_of-report c =
    let p = c.put_count-tab in
    let q = c.put_count-end in
    let r = c.put_bytes in
    r.auto.out ∙ simp length-set at q.auto.out ∙ p.auto.out

pub returns : goal.returns
unfolding bytes
returns c =
    let a = c.args in
    let p = c.put_count-tab in
    let q = c.put_count-end in
    let r = c.put_bytes in
    let first = p.ensures.put (omega arith) in
    let second = q.ensures.put (simp length-set (omega (arith, count_few c.from.result, first.behind, p.auto.out))) in
    let size = simp length-set at q.auto.out in
    let place : c.from.result ≡ a.place = c.from.ensures in
    let width : c.from-2.result ≡ a.width = c.from-2.ensures in
    same (ap (λ n. span_line n c.from-2.result) place ∙ ap (span_line a.place) width)
    (put_line a.report.now a.at c.from.result c.from-2.result first second
    (r.ensures.put (omega (arith, count_few c.from.result, count_few c.from-2.result, first.behind, second.behind, p.auto.out, size))))
