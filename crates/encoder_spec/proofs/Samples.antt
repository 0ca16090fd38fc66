-- The samples, by computation. Assumes nothing.
use mathlib.Core.Path.{◌≡◌, refl, ap}
use mathlib.Core.Bool.{true}
use mathlib.Core.List.{List, [], ◌∷◌}
use Prim.Native.Nat.{ℕ}
use lib.ListN.{replicate}
use Rattle.standard.specs.Base.{every}
use Rattle.standard.specs.Encodings.{traits, fits, lent}
use Rattle.standard.specs.Indexes.{index_code_point, last_pair, ranges_code_point, ranges_pointer, irregular, count_from, windows1252}
use Rattle.standard.specs.Machine.{digits, reference}
use Rattle.standard.specs.Search.{search_from}
use Rattle.standard.specs.Encoders.Samples.{table, jis0208}
use Rattle.standard.specs.Encoders.Utf8.{utf8_following, utf8_bytes, utf8_encode}
use Rattle.standard.specs.Encoders.SingleByte.{single_byte_encode}
use Rattle.standard.specs.Encoders.Gb18030.{gb18030_encode}
use Rattle.standard.specs.Encoders.Big5.{big5_encode}
use Rattle.standard.specs.Encoders.EucJp.{euc_jp_encode}
use Rattle.standard.specs.Encoders.ShiftJis.{shift_jis_encode}
use Rattle.standard.specs.Encoders.EucKr.{euc_kr_encode}
use Rattle.standard.specs.Writers.{writer_of}
use Rattle.standard.specs.Ones.{iso2022_jp_encode}
use Rattle.standard.proofs.EmptyCells.{cells_from, by_table_lem}
use Rattle.encoder_spec.specs.Writing.{writing}
use Rattle.encoder_spec.specs.Writer.{call_by, writer_call, writer_finish}
use Rattle.encoder_spec.specs.Samples.{eight, shift_jis, euc_jp, iso, Samples, JapaneseSamples, ChineseSamples, IsoSamples}

-- Empty cells need not be walked through: a call searches the cells of a sample alone.
by_cells : (e m s n p : ℕ) (cells second cs room : List ℕ) →
    writer_call e m s (lent (table n p cells) second) cs room ≡ call_by (cells_from p cells) true e m s (lent (table n p cells) second) cs room
unfolding writer_call
by_cells e m s n p cells second cs room = ap (λ look. call_by look true e m s (lent (table n p cells) second) cs room) (by_table_lem n p cells)

by_shift_jis : (m p : ℕ) (cells cs : List ℕ) →
    shift_jis m p cells cs ≡ call_by (cells_from p cells) true 34 m 0 (lent (jis0208 p cells) []) cs eight
by_shift_jis m p cells cs = by_cells 34 m 0 11280 p cells [] cs eight

by_euc_jp : (m p : ℕ) (cells cs : List ℕ) →
    euc_jp m p cells cs ≡ call_by (cells_from p cells) true 32 m 0 (lent (jis0208 p cells) (replicate 8836 0)) cs eight
by_euc_jp m p cells cs = by_cells 32 m 0 11280 p cells (replicate 8836 0) cs eight

by_iso : (m s : ℕ) (cells cs room : List ℕ) →
    iso m s cells cs room ≡ call_by (cells_from 0 cells) true 33 m s (lent (jis0208 0 cells) (table 63 0 (0x30A2 ∷ []))) cs room
by_iso m s cells cs room = by_cells 33 m s 11280 0 cells (table 63 0 (0x30A2 ∷ [])) cs room

pub samples : Samples
unfolding every traits fits irregular count_from windows1252 digits reference search_from utf8_following utf8_bytes utf8_encode
    single_byte_encode writer_of writing call_by writer_call
samples = record {
  sample_15_html = refl;
  sample_15_refusing = refl;
  utf8_four = refl;
  second_unwritable = refl;
  room_exact = refl;
  room_small = refl;
  no_room_needed = refl;
  2-before-3 = refl;
  3-before-9 = refl;
  3-before-5 = refl;
  5-before-9 = refl;
  5-before-4 = refl;
  5-in-utf8 = refl;
  9-in-state-2 = refl;
  utf8_in_state_2 = refl;
  utf8_keeps_state = refl;
  9-before-4 = refl;
  4-before-8 = refl;
  8-before-10 = refl;
  16384-pass-8 = refl;
  10-before-7 = refl;
  10-before-11 = refl;
  9-before-15 = refl;
  4-before-15 = refl;
  15-before-8 = refl;
  7-before-11 = refl;
}

pub japanese_samples : JapaneseSamples
unfolding every traits fits digits reference search_from euc_jp_encode shift_jis_encode writer_of writing call_by writer_call
japanese_samples = record {
  shift_jis-writes = refl;
  euc_jp-writes = refl;
  shift_jis-each = by_shift_jis 1 0 (0x3042 ∷ []) (0x41 ∷ 0x80 ∷ 0xA5 ∷ 0x203E ∷ 0xFF61 ∷ 0xFF9F ∷ 0x3042 ∷ []);
  euc_jp-each = by_euc_jp 1 0 (0x3042 ∷ []) (0x41 ∷ 0xA5 ∷ 0x203E ∷ 0xFF61 ∷ 0x3042 ∷ []);
  euc_jp-80 = by_euc_jp 1 0 (0x3042 ∷ []) (0x41 ∷ 0x80 ∷ []);
  shift_jis-minus = by_shift_jis 1 1 (0xFF0D ∷ []) (0x2212 ∷ []);
  shift_jis-html = by_shift_jis 0 0 (0x2212 ∷ []) (0x2212 ∷ []);
  euc_jp-html = by_euc_jp 0 0 (0x2212 ∷ []) (0x2212 ∷ []);
  shift_jis-stops = by_shift_jis 1 0 (0x2212 ∷ []) (0x41 ∷ 0x2212 ∷ 0x42 ∷ []);
}

pub chinese_samples : ChineseSamples
unfolding every traits fits last_pair ranges_code_point ranges_pointer search_from gb18030_encode big5_encode euc_kr_encode writer_of writing
    call_by writer_call
chinese_samples = record {
  gbk_writes = refl;
  gb18030_writes = refl;
  big5_writes = refl;
  euc_kr-writes = refl;
  replacement_9 = refl;
  utf_16be_9 = refl;
  utf_16le_9 = refl;
  gbk_call = by_cells 29 1 0 23940 23939 (0x4E00 ∷ []) (0 ∷ 0x80 ∷ []) (0x41 ∷ 0x20AC ∷ 0x4E00 ∷ 0x4E8C ∷ []) eight;
  gb18030_call = by_cells 30 1 0 23940 23939 (0x4E00 ∷ []) (0 ∷ 0x80 ∷ []) (0x41 ∷ 0x4E00 ∷ 0x80 ∷ []) eight;
  big5_call = by_cells 31 1 0 19782 19781 (0x4E00 ∷ []) [] (0x41 ∷ 0x4E00 ∷ []) eight;
  euc_kr-call = by_cells 35 1 0 23940 23939 (0xAC00 ∷ []) [] (0x41 ∷ 0xAC00 ∷ []) eight;
}

pub iso_samples : IsoSamples
unfolding every traits fits digits reference index_code_point search_from iso2022_jp_encode writer_of writing call_by writer_call writer_finish
iso_samples = record {
  iso_writes = refl;
  no_katakana = refl;
  nothing = by_iso 0 0 [] [] [];
  to_roman = by_iso 1 0 [] (0xA5 ∷ 0x41 ∷ []) (1 ∷ 2 ∷ 3 ∷ 4 ∷ 5 ∷ 6 ∷ []);
  in_roman = by_iso 1 1 [] (0xA5 ∷ 0x41 ∷ []) (1 ∷ 2 ∷ 3 ∷ []);
  to_two_byte = by_iso 1 1 (0x3042 ∷ []) (0x3042 ∷ []) (1 ∷ 2 ∷ 3 ∷ 4 ∷ 5 ∷ []);
  in_two_byte = by_iso 1 2 (0x3042 ∷ []) (0x3042 ∷ []) (1 ∷ 2 ∷ []);
  katakana = by_iso 1 2 (0x30A2 ∷ []) (0xFF61 ∷ []) (1 ∷ 2 ∷ []);
  report_returns = by_iso 1 2 [] (0x3042 ∷ []) (1 ∷ 2 ∷ 3 ∷ 4 ∷ []);
  report_needs_room = by_iso 1 2 [] (0x3042 ∷ []) (1 ∷ 2 ∷ []);
  report_in_roman = by_iso 1 1 [] (0x41 ∷ 0x3042 ∷ []) (1 ∷ 2 ∷ []);
  html_returns = by_iso 0 2 [] (0x1B ∷ []) (replicate 11 0);
  html_roman = by_iso 0 1 [] (0x80 ∷ []) (replicate 7 0);
  finish_ascii = refl;
  finish_roman = refl;
  finish_two_byte = refl;
  finish_7 = refl;
  finish_5_before_7 = refl;
}
