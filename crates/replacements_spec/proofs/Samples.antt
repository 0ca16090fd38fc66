-- The samples of specs/Statements.antt, by computing. Assumes nothing.
use mathlib.Core.Path.{refl}
use Rattle.standard.specs.Encodings.{family, traits}
use Rattle.standard.specs.Indexes.{irregular, count_from, windows1252}
use Rattle.standard.specs.Sequence.{cell}
use Rattle.standard.specs.Layouts.{pointer_of, pair_code}
use Rattle.standard.specs.Sequences.Utf8.{utf8, utf8_low, utf8_high}
use Rattle.standard.specs.Sequences.SingleByte.{single_byte}
use Rattle.standard.specs.Sequences.Iso2022Jp.{iso2022_jp, escaped, byte_out}
use Rattle.standard.specs.Sequences.ShiftJis.{shift_jis, shift_jis_code}
use Rattle.standard.specs.Sequences.Utf16.{utf16, unit}
use Rattle.standard.specs.Next.{next}
use Rattle.standard.specs.Decode.{reads, decode, one_error, iso_end, ending}
use Rattle.standard.specs.Choice.{choose, reader, chosen, read_from, end_from, everything_from}
use Rattle.replacements_spec.specs.Replaced.{replaced}
use Rattle.replacements_spec.specs.Statements.{TellsSamples}

pub tells_samples : TellsSamples
unfolding family traits irregular count_from windows1252 cell pointer_of pair_code utf8 utf8_low utf8_high single_byte iso2022_jp escaped byte_out shift_jis shift_jis_code utf16 unit next reads decode one_error iso_end ending choose reader chosen read_from end_from everything_from replaced
tells_samples = record {
  example = refl;
  example_mapped = refl;
  adjacent = refl;
  text_fffd = refl;
  cell_fffd = refl;
  two_shifts = refl;
  utf_16 = refl;
  eaten_mark = refl;
}
