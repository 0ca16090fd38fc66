use Rattle.std.proofs.Common.{◌≡◌, sym, ap, ◌∙◌, ℕ, ◌<◌, List, [], ◌∷◌, ◌++◌, length, get_or, append_assoc, append-nil, length-append, arith}
use Rattle.std.specs.Slice.Iter.{chunks_exact_rest}
use Rattle.program_text.proofs.Texts.{same, then_put}
use Rattle.mend_spec.specs.Mended.{span_line, span_lines}
use Rattle.mend_spec.proofs.Report.{span_few}
use Rattle.mend.proofs.lines.put_spans.Goals as goal

-- the lines of two cells, and of those behind them
next_lines : (x rest rest' all text : List ℕ) → rest ≡ x ++ rest' → length x ≡ 2 → text ++ span_lines rest ≡ span_lines all →
    (text ++ span_line (get_or x 0 0) (get_or x 1 0)) ++ span_lines rest' ≡ span_lines all
unfolding span_lines
next_lines [] rest rest' all text e h f = absurd (omega arith)
next_lines (a ∷ []) rest rest' all text e h f = absurd (omega arith)
next_lines (a ∷ b ∷ []) rest rest' all text e h f =
    append_assoc text (span_line a b) (span_lines rest') ∙ ap (λ l. text ++ l) (sym (ap span_lines e)) ∙ f
next_lines (a ∷ b ∷ c ∷ x) rest rest' all text e h f = absurd (omega arith)

-- fewer than two have none
no_lines : (rest all text : List ℕ) → length rest < 2 → text ++ span_lines rest ≡ span_lines all → text ≡ span_lines all
unfolding span_lines
no_lines [] all text h f = sym (append-nil text) ∙ f
no_lines (a ∷ []) all text h f = sym (append-nil text) ∙ f
no_lines (a ∷ b ∷ rest) all text h f = absurd (omega arith)

pub loop-span-preserved : goal.loop-span-preserved
loop-span-preserved c =
    let i = c.loop-span.invariant in
    let s = c.in-Some.ensures.steps in
    let p = c.put_span-o in
    let x = c.in-Some.span.now in
    let text = i.lines.0 in
    let line = span_line (get_or x 0 0) (get_or x 1 0) in
    let rest = chunks_exact_rest c.loop-span.span-iterator in
    let rest' = chunks_exact_rest c.next.new.self in
    let two : length x ≡ 2 = s.1.1 ∙ i.size in
    record {
      report = p.auto.report ∙ i.report;
      size = s.0 ∙ i.size;
      lines = (
        text ++ line,
        then_put i.lines.1 p.ensures,
        next_lines x rest rest' c.args.spans.now text s.1.0 two i.lines.2,
        omega (arith, i.lines.3, two, ap length s.1.0, length-append x rest', length-append text line, span_few (get_or x 0 0) (get_or x 1 0)),
      );
    }

pub returns : goal.returns
returns c =
    let i = c.loop-span.invariant in
    let s = c.in-None.ensures.steps in
    same (no_lines (chunks_exact_rest c.loop-span.span-iterator) c.args.spans.now i.lines.0 (omega (arith, s.1.0, i.size)) i.lines.2) i.lines.1
