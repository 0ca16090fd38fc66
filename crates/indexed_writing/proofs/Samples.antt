-- The samples, by computation. Assumes nothing.
use mathlib.Core.Path.{refl}
use Rattle.standard.specs.Base.{every}
use Rattle.standard.specs.Encodings.{traits, fits}
use Rattle.standard.specs.Indexes.{irregular, count_from, windows1252}
use Rattle.standard.specs.Search.{search_from}
use Rattle.standard.specs.Encoders.SingleByte.{single_byte_encode}
use Rattle.standard.specs.Writers.{writer_of}
use Rattle.encoder_spec.specs.Writing.{writing}
use Rattle.encoder_spec.specs.Writer.{call_by}
use Rattle.reverse_index_spec.specs.ReverseIndex.{fits as index_fits, bucket, hit, walk_first, walk, look_up}
use Rattle.indexed_writing.specs.Call.{indexed_call}
use Rattle.indexed_writing.specs.Samples.{Samples}

pub samples : Samples
unfolding every traits fits irregular count_from windows1252 search_from single_byte_encode writer_of writing call_by index_fits bucket hit walk_first
    walk look_up indexed_call
samples = record {
  2-before-15 = refl;
  3-before-15 = refl;
  5-before-15 = refl;
  9-before-15 = refl;
  4-before-15 = refl;
  15-before-8 = refl;
  15-before-10 = refl;
  15-before-7 = refl;
  windows-1252 = refl;
  no_table_15 = refl;
  zeros = refl;
  false_cells = refl;
  missing = refl;
}
