use Rattle.std.proofs.Common.{◌≡◌, List, ℕ, ◌+◌, ◌*◌, ◌≤◌, ◌++◌, length}
use Rattle.std.specs.Slice.Iter.{chunks_exact_rest, chunks_exact_size}
use Rattle.program_text.specs.Places.{Put}
use Rattle.mend_spec.specs.Mended.{span_lines}
use Rattle.mend.proofs.lines.put_spans.Given as goal

-- The lines so far stand at the front of the report, in at most 32 bytes for each cell; those of the cells that are left are the others.
abbrev pub invariant-loop-span : goal.invariant-loop-span
invariant-loop-span l = record {
  report : length l.report ≡ length l.initial.report;
  size : chunks_exact_size l.span-iterator ≡ 2;
  lines : (text : List ℕ) × Put l.initial.report 0 text l.o l.report × (text ++ span_lines (chunks_exact_rest l.span-iterator) ≡ span_lines l.spans) ×
      (length text + 32 * length (chunks_exact_rest l.span-iterator) ≤ 32 * length l.spans);
}
