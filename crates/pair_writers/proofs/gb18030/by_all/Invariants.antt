-- `by_all`. The loop's invariant: the search of all pairs is that of those that are left, with the answer so far. Assumes nothing.
use mathlib.Core.Path.{◌≡◌}
use Rattle.std.specs.Slice.Iter.{chunks_exact_rest, chunks_exact_size}
use Rattle.layouts.specs.Ranges.{last_sum}
use Rattle.pair_writers.proofs.gb18030.by_all.Given as goal

abbrev pub invariant-loop-pair : goal.invariant-loop-pair
invariant-loop-pair l = (chunks_exact_size l.pair-iterator ≡ 2) ×
    (last_sum l.back l.ranges l.x l.none ≡ last_sum l.back (chunks_exact_rest l.pair-iterator) l.x l.found)
