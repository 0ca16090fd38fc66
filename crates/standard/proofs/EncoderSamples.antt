-- The samples of the encoders, by computation. Assumes nothing.
use mathlib.Core.Path.{◌≡◌, refl, ap}
use mathlib.Core.List.{List, [], ◌∷◌}
use Prim.Native.Nat.{ℕ}
use Rattle.standard.specs.Indexes.{index_code_point, last_pair, ranges_code_point, ranges_pointer}
use Rattle.standard.specs.Machine.{stream, deliver, run, fatal}
use Rattle.standard.specs.Search.{search_from}
use Rattle.standard.specs.Encoders.Gb18030.{gb18030_encode}
use Rattle.standard.specs.Encoders.Big5.{big5_encode}
use Rattle.standard.specs.Encoders.EucJp.{euc_jp_encode}
use Rattle.standard.specs.Encoders.ShiftJis.{shift_jis_encode}
use Rattle.standard.specs.Encoders.EucKr.{euc_kr_encode}
use Rattle.standard.specs.Encoders.Iso2022Jp.{iso2022_jp_handler}
use Rattle.standard.specs.Writers.{switching, encoder, standard_encode}
use Rattle.standard.specs.Encoders.Samples.{EncoderSamples, ChineseSamples, IsoSamples, shift_jis, euc_jp, big5, iso, one_cell, twice}
use Rattle.standard.proofs.EmptyCells.{cells_from, by_front, by_table_lem}

-- Empty cells need not be walked through: by the cells of a sample alone.
by_shift_jis : (p : ℕ) (cells : List ℕ) (c : ℕ) → shift_jis p cells c ≡ shift_jis_encode (cells_from p cells) c
by_shift_jis p cells c = ap (λ look. shift_jis_encode look c) (by_table_lem 11280 p cells)

by_euc_jp : (p : ℕ) (cells : List ℕ) (c : ℕ) → euc_jp p cells c ≡ euc_jp_encode (cells_from p cells) c
by_euc_jp p cells c = ap (λ look. euc_jp_encode look c) (by_table_lem 11280 p cells)

by_big5 : (p : ℕ) (cells : List ℕ) (c : ℕ) → big5 p cells c ≡ big5_encode (cells_from p cells) c
by_big5 p cells c = ap (λ look. big5_encode look c) (by_front p cells)

by_iso : (p : ℕ) (cells katakana : List ℕ) (s : ℕ) (cs : List ℕ) →
    iso p cells katakana s cs ≡ standard_encode (encoder (switching (cells_from p cells) katakana)) fatal s cs
by_iso p cells katakana s cs = ap (λ look. standard_encode (encoder (switching look katakana)) fatal s cs) (by_table_lem 11280 p cells)

pub encoder_samples : EncoderSamples
unfolding search_from euc_jp_encode shift_jis_encode
encoder_samples = record {
  shift_jis-8271 = by_shift_jis 8271 one_cell 0x4E00;
  shift_jis-8272 = by_shift_jis 8272 one_cell 0x4E00;
  shift_jis-10715 = by_shift_jis 10715 one_cell 0x4E00;
  shift_jis-10716 = by_shift_jis 10716 one_cell 0x4E00;
  euc_jp-8835 = by_euc_jp 8835 one_cell 0x4E00;
  euc_jp-8836 = by_euc_jp 8836 one_cell 0x4E00;
  euc_jp-11279 = by_euc_jp 11279 one_cell 0x4E00;
  first_of_two = by_shift_jis 2 (0x4E00 ∷ 0x4E00 ∷ []) 0x4E00;
  first_behind = by_shift_jis 10714 (0x4E00 ∷ 0x4E00 ∷ 0x4E00 ∷ 0x4E00 ∷ []) 0x4E00;
  shift_jis-80 = by_shift_jis 0 (0x80 ∷ []) 0x80;
  euc_jp-80 = by_euc_jp 0 (0x80 ∷ []) 0x80;
  euc_jp-no_80 = by_euc_jp 0 one_cell 0x80;
  shift_jis-a5 = by_shift_jis 0 (0xA5 ∷ []) 0xA5;
  euc_jp-a5 = by_euc_jp 0 (0xA5 ∷ []) 0xA5;
  shift_jis-203e = by_shift_jis 0 (0x203E ∷ []) 0x203E;
  euc_jp-203e = by_euc_jp 0 (0x203E ∷ []) 0x203E;
  shift_jis-ff61 = by_shift_jis 0 (0xFF61 ∷ []) 0xFF61;
  euc_jp-ff61 = by_euc_jp 0 (0xFF61 ∷ []) 0xFF61;
  shift_jis-2212 = by_shift_jis 0 (0x2212 ∷ 0xFF0D ∷ []) 0x2212;
  euc_jp-2212 = by_euc_jp 0 (0x2212 ∷ 0xFF0D ∷ []) 0x2212;
  shift_jis-no_ff0d = by_shift_jis 0 (0x2212 ∷ []) 0x2212;
  euc_jp-no_ff0d = by_euc_jp 0 (0x2212 ∷ []) 0x2212;
}

pub chinese_samples : ChineseSamples
unfolding last_pair ranges_code_point ranges_pointer search_from gb18030_encode big5_encode euc_kr_encode
chinese_samples = record {
  gbk_e5e5 = refl;
  gb18030_e5e5 = refl;
  gb18030_e5e5_pair = refl;
  gb18030_e5e6_pair = refl;
  gbk_20ac = refl;
  gb18030_20ac = refl;
  gb18030_20ac_pair = refl;
  gb18030_20ac_none = refl;
  gb18030_e7c7 = refl;
  gb18030_e7c7_none = refl;
  gb18030_e7c7_pair = refl;
  gbk_e7c7 = refl;
  gbk_pair = refl;
  pointer_39419 = refl;
  pointer_39420 = refl;
  pointer_188999 = refl;
  pointer_189000 = refl;
  pointer_1237575 = refl;
  pointer_1237576 = refl;
  first_pair = refl;
  last_pair = refl;
  list_order = refl;
  not_above = refl;
  surrogate_pair = refl;
  no_pair = refl;
  no_other_pair = refl;
  pointer_7457 = refl;
  reads_otherwise = refl;
  published_4dff = refl;
  published_4e00 = refl;
  published_9fa6 = refl;
  no_wrap = refl;
  big5_5023 = by_big5 5023 one_cell 0x4E00;
  big5_5024 = by_big5 5024 one_cell 0x4E00;
  big5_5023_last = by_big5 5023 (0x2550 ∷ []) 0x2550;
  big5_2550 = by_big5 5024 twice 0x2550;
  big5_255e = by_big5 5024 twice 0x255E;
  big5_2561 = by_big5 5024 twice 0x2561;
  big5_256a = by_big5 5024 twice 0x256A;
  big5_5341 = by_big5 5024 twice 0x5341;
  big5_5345 = by_big5 5024 twice 0x5345;
  big5_2551 = by_big5 5024 twice 0x2551;
  big5_5344 = by_big5 5024 twice 0x5344;
  gbk_first = refl;
  gbk_62 = refl;
  gbk_63 = refl;
  big5_5086 = by_big5 5086 one_cell 0x4E00;
  big5_5087 = by_big5 5087 one_cell 0x4E00;
  euc_kr-first = refl;
  euc_kr-62 = refl;
  euc_kr-63 = refl;
  euc_kr-none = refl;
}

pub iso_samples : IsoSamples
unfolding index_code_point stream deliver run search_from iso2022_jp_handler standard_encode
iso_samples = record {
  yen = by_iso 0 [] [] 0 (0xA5 ∷ []);
  overline = by_iso 0 [] [] 1 (0x203E ∷ []);
  nothing_in_ascii = by_iso 0 [] [] 0 [];
  roman_stays = by_iso 0 [] [] 1 (0x41 ∷ 0x0A ∷ []);
  roman_5c = by_iso 0 [] [] 1 (0x5C ∷ []);
  roman_7e = by_iso 0 [] [] 1 (0x7E ∷ []);
  two_byte_letter = by_iso 0 [] [] 2 (0x0A ∷ []);
  two_byte_yen = by_iso 0 [] [] 2 (0xA5 ∷ 0x41 ∷ []);
  pair = by_iso 0 one_cell [] 1 (0x4E00 ∷ 0x4E00 ∷ []);
  pair_8835 = by_iso 8835 one_cell [] 2 (0x4E00 ∷ []);
  pair_8836 = by_iso 8836 one_cell [] 0 (0x4E00 ∷ []);
  first_of_two = by_iso 2 (0x4E00 ∷ 0x4E00 ∷ []) [] 2 (0x4E00 ∷ []);
  control_ascii = by_iso 0 [] [] 0 (0x1B ∷ []);
  control_roman = by_iso 0 [] [] 1 (0x0E ∷ []);
  control_two_byte = by_iso 0 [] [] 2 (0x0F ∷ []);
  unwritable_roman = by_iso 0 [] [] 1 (0x4E00 ∷ []);
  unwritable_two_byte = by_iso 0 [] [] 2 (0x4E00 ∷ []);
  minus = by_iso 0 (0x2212 ∷ 0xFF0D ∷ []) [] 2 (0x2212 ∷ []);
  minus_named = by_iso 0 (0x2212 ∷ []) [] 0 (0x2212 ∷ []);
  katakana = by_iso 0 one_cell (0x4E00 ∷ []) 0 (0xFF61 ∷ []);
  katakana_named = by_iso 0 [] (0x4E00 ∷ []) 0 (0xFF61 ∷ []);
  katakana_unmapped = by_iso 0 (0xFF62 ∷ []) (0x4E00 ∷ []) 0 (0xFF62 ∷ []);
  cell_2212 = by_iso 0 (0x2212 ∷ 0xFF0D ∷ []) (0x2212 ∷ []) 0 (0xFF61 ∷ []);
  cell_a5 = by_iso 0 (0xA5 ∷ []) (0xA5 ∷ []) 0 (0xFF61 ∷ []);
  cell_ff62 = by_iso 0 (0xFF62 ∷ 0x4E00 ∷ []) (0xFF62 ∷ 0x4E00 ∷ []) 0 (0xFF61 ∷ []);
}
