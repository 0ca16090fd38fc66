-- The samples, computed. Assumes nothing.
use mathlib.Core.Path.{refl}
use Rattle.standard.specs.Search.{search_from}
use Rattle.reverse_index_spec.specs.ReverseIndex.{fits, bucket, member, seek, next_of, cell_of, tabulate, build, place, linked, insert}
use Rattle.reverse_index_spec.specs.ReverseIndex.{hit, walk_first, walk_last, walk, look_up}
use Rattle.reverse_index_spec.specs.Calls.{index_size}
use Rattle.reverse_index_spec.specs.Samples.{Samples}

pub samples : Samples
unfolding fits bucket member seek next_of cell_of tabulate build place linked insert hit walk_first walk_last walk look_up search_from index_size
samples = record {
  sizes = (refl, refl, refl, refl);
  built = refl;
  entered = refl;
  firsts = refl;
  lasts = refl;
  over = refl;
  zeros = refl;
  outside = refl;
  false_cells = refl;
  missing = refl;
}
