-- `passed_over`. The loop's invariant: the cells that were passed lack the code point, and the iterator has the others. Assumes nothing.
use Rattle.std.proofs.Common.{◌≡◌, ◌==◌, length, take, drop, false, ◌+◌}
use Rattle.std.specs.List.{list_any}
use Rattle.std.specs.Slice.Iter.{chunks_exact_rest, chunks_exact_size}
use Rattle.index.proofs.passed_over.Given as goal

abbrev pub invariant-loop-block : goal.invariant-loop-block
invariant-loop-block l = record {
  size : chunks_exact_size l.block-iterator ≡ 64;
  whole : l.passed + length (chunks_exact_rest l.block-iterator) ≡ length l.cells;
  rest : chunks_exact_rest l.block-iterator ≡ drop l.passed l.cells;
  lacks : list_any (λ x. x == l.c) (take l.passed l.cells) ≡ false;
}
