-- Samples of the encoders of Shift_JIS and EUC-JP, of GBK, gb18030, Big5 and EUC-KR, and of ISO-2022-JP, by document 02.
-- Assumes nothing.
use Rattle.std.specs.Prelude.{◌≡◌, true, false, List, [], ◌∷◌, ◌++◌, ℕ, ◌+◌, ◌-◌, length, replicate}
use Rattle.std.proofs.Math.Option.{Option, some}
use Rattle.standard.specs.Machine.{Result, finished, tokens, error_with, fatal, Ran}
use Rattle.standard.specs.Search.{searching}
use Rattle.standard.specs.Encoders.Gb18030.{gb18030_encode}
use Rattle.standard.specs.Encoders.Big5.{big5_encode}
use Rattle.standard.specs.Encoders.EucJp.{euc_jp_encode}
use Rattle.standard.specs.Encoders.ShiftJis.{shift_jis_encode}
use Rattle.standard.specs.Encoders.EucKr.{euc_kr_encode}
use Rattle.standard.specs.Writers.{switching, encoder, standard_encode}

-- n cells: these from pointer p on, and none before and behind them; the 11,280 of jis0208
abbrev pub table : ℕ → ℕ → List ℕ → List ℕ
table n p cells = replicate p 0 ++ (cells ++ replicate (n - (p + length cells)) 0)

abbrev pub jis0208 : ℕ → List ℕ → List ℕ
jis0208 p cells = table 11280 p cells

-- a code point by such a table
abbrev pub shift_jis : ℕ → List ℕ → ℕ → Result
shift_jis p cells c = shift_jis_encode (searching (jis0208 p cells)) c

abbrev pub euc_jp : ℕ → List ℕ → ℕ → Result
euc_jp p cells c = euc_jp_encode (searching (jis0208 p cells)) c

-- one cell
abbrev pub one_cell : List ℕ
one_cell = 0x4E00 ∷ []

pub record EncoderSamples : Type 0 where
  -- Shift_JIS passes over 8,272 to 10,715
  pub shift_jis-8271 : shift_jis 8271 one_cell 0x4E00 ≡ tokens (0xEC ∷ 0xFC ∷ [])
  pub shift_jis-8272 : shift_jis 8272 one_cell 0x4E00 ≡ error_with 0x4E00
  pub shift_jis-10715 : shift_jis 10715 one_cell 0x4E00 ≡ error_with 0x4E00
  pub shift_jis-10716 : shift_jis 10716 one_cell 0x4E00 ≡ tokens (0xFA ∷ 0x40 ∷ [])
  -- EUC-JP over everything from 8,836
  pub euc_jp-8835 : euc_jp 8835 one_cell 0x4E00 ≡ tokens (0xFE ∷ 0xFE ∷ [])
  pub euc_jp-8836 : euc_jp 8836 one_cell 0x4E00 ≡ error_with 0x4E00
  pub euc_jp-11279 : euc_jp 11279 one_cell 0x4E00 ≡ error_with 0x4E00
  -- of several cells the first that is not passed over
  pub first_of_two : shift_jis 2 (0x4E00 ∷ 0x4E00 ∷ []) 0x4E00 ≡ tokens (0x81 ∷ 0x42 ∷ [])
  pub first_behind : shift_jis 10714 (0x4E00 ∷ 0x4E00 ∷ 0x4E00 ∷ 0x4E00 ∷ []) 0x4E00 ≡ tokens (0xFA ∷ 0x40 ∷ [])
  -- the fixed rules go before the search; U+0080 in EUC-JP goes by the table
  pub shift_jis-80 : shift_jis 0 (0x80 ∷ []) 0x80 ≡ tokens (0x80 ∷ [])
  pub euc_jp-80 : euc_jp 0 (0x80 ∷ []) 0x80 ≡ tokens (0xA1 ∷ 0xA1 ∷ [])
  pub euc_jp-no_80 : euc_jp 0 one_cell 0x80 ≡ error_with 0x80
  pub shift_jis-a5 : shift_jis 0 (0xA5 ∷ []) 0xA5 ≡ tokens (0x5C ∷ [])
  pub euc_jp-a5 : euc_jp 0 (0xA5 ∷ []) 0xA5 ≡ tokens (0x5C ∷ [])
  pub shift_jis-203e : shift_jis 0 (0x203E ∷ []) 0x203E ≡ tokens (0x7E ∷ [])
  pub euc_jp-203e : euc_jp 0 (0x203E ∷ []) 0x203E ≡ tokens (0x7E ∷ [])
  pub shift_jis-ff61 : shift_jis 0 (0xFF61 ∷ []) 0xFF61 ≡ tokens (0xA1 ∷ [])
  pub euc_jp-ff61 : euc_jp 0 (0xFF61 ∷ []) 0xFF61 ≡ tokens (0x8E ∷ 0xA1 ∷ [])
  -- U+2212 is looked up and named as U+FF0D
  pub shift_jis-2212 : shift_jis 0 (0x2212 ∷ 0xFF0D ∷ []) 0x2212 ≡ tokens (0x81 ∷ 0x41 ∷ [])
  pub euc_jp-2212 : euc_jp 0 (0x2212 ∷ 0xFF0D ∷ []) 0x2212 ≡ tokens (0xA1 ∷ 0xA2 ∷ [])
  pub shift_jis-no_ff0d : shift_jis 0 (0x2212 ∷ []) 0x2212 ≡ error_with 0xFF0D
  pub euc_jp-no_ff0d : euc_jp 0 (0x2212 ∷ []) 0x2212 ≡ error_with 0xFF0D

-- a code point by a table of these cells, and with ranges
abbrev pub gbk : List ℕ → List ℕ → ℕ → Result
gbk cells ranges c = gb18030_encode true (searching cells) ranges c

abbrev pub gb18030 : List ℕ → List ℕ → ℕ → Result
gb18030 cells ranges c = gb18030_encode false (searching cells) ranges c

-- by a table of these cells from pointer p on
abbrev pub big5 : ℕ → List ℕ → ℕ → Result
big5 p cells c = big5_encode (searching (replicate p 0 ++ cells)) c

abbrev pub euc_kr : ℕ → List ℕ → ℕ → Result
euc_kr p cells c = euc_kr_encode (searching (replicate p 0 ++ cells)) c

-- Big5's six scalars of the last pointer and two others, in order, and again
abbrev pub eight_cells : List ℕ
eight_cells = 0x2550 ∷ 0x255E ∷ 0x2561 ∷ 0x256A ∷ 0x5341 ∷ 0x5345 ∷ 0x2551 ∷ 0x5344 ∷ []

abbrev pub twice : List ℕ
twice = eight_cells ++ eight_cells

pub record ChineseSamples : Type 0 where
  -- U+E5E5 is an error even where a cell or a pair has it
  pub gbk_e5e5 : gbk (0xE5E5 ∷ []) (0 ∷ 0xE5E5 ∷ []) 0xE5E5 ≡ error_with 0xE5E5
  pub gb18030_e5e5 : gb18030 (0xE5E5 ∷ []) (0 ∷ 0xE5E5 ∷ []) 0xE5E5 ≡ error_with 0xE5E5
  pub gb18030_e5e5_pair : gb18030 [] (0 ∷ 0xE5E5 ∷ []) 0xE5E5 ≡ error_with 0xE5E5
  pub gb18030_e5e6_pair : gb18030 [] (0 ∷ 0xE5E5 ∷ []) 0xE5E6 ≡ tokens (0x81 ∷ 0x30 ∷ 0x81 ∷ 0x31 ∷ [])
  -- U+20AC is 80 in GBK even where a cell has it; in gb18030 it goes by the table, then the ranges
  pub gbk_20ac : gbk (0x20AC ∷ []) [] 0x20AC ≡ tokens (0x80 ∷ [])
  pub gb18030_20ac : gb18030 (0x20AC ∷ []) (0 ∷ 0x20AC ∷ []) 0x20AC ≡ tokens (0x81 ∷ 0x40 ∷ [])
  pub gb18030_20ac_pair : gb18030 [] (0 ∷ 0x20AC ∷ []) 0x20AC ≡ tokens (0x81 ∷ 0x30 ∷ 0x81 ∷ 0x30 ∷ [])
  pub gb18030_20ac_none : gb18030 [] [] 0x20AC ≡ error_with 0x20AC
  -- U+E7C7 goes by the table, then by pointer 7,457 with any ranges; GBK has no use for the ranges
  pub gb18030_e7c7 : gb18030 (0xE7C7 ∷ []) [] 0xE7C7 ≡ tokens (0x81 ∷ 0x40 ∷ [])
  pub gb18030_e7c7_none : gb18030 [] [] 0xE7C7 ≡ tokens (0x81 ∷ 0x35 ∷ 0xF4 ∷ 0x37 ∷ [])
  pub gb18030_e7c7_pair : gb18030 [] (0 ∷ 0xE7C7 ∷ []) 0xE7C7 ≡ tokens (0x81 ∷ 0x35 ∷ 0xF4 ∷ 0x37 ∷ [])
  pub gbk_e7c7 : gbk [] (0 ∷ 0xE7C7 ∷ []) 0xE7C7 ≡ error_with 0xE7C7
  pub gbk_pair : gbk [] (0 ∷ 0x80 ∷ []) 0x80 ≡ error_with 0x80
  -- the ends of the pointers that four bytes have
  pub pointer_39419 : gb18030 [] (39419 ∷ 0xFFFF ∷ []) 0xFFFF ≡ tokens (0x84 ∷ 0x31 ∷ 0xA4 ∷ 0x39 ∷ [])
  pub pointer_39420 : gb18030 [] (39420 ∷ 0xFFFF ∷ []) 0xFFFF ≡ error_with 0xFFFF
  pub pointer_188999 : gb18030 [] (188999 ∷ 0x10000 ∷ []) 0x10000 ≡ error_with 0x10000
  pub pointer_189000 : gb18030 [] (189000 ∷ 0x10000 ∷ []) 0x10000 ≡ tokens (0x90 ∷ 0x30 ∷ 0x81 ∷ 0x30 ∷ [])
  pub pointer_1237575 : gb18030 [] (189000 ∷ 0x10000 ∷ []) 0x10FFFF ≡ tokens (0xE3 ∷ 0x32 ∷ 0x9A ∷ 0x35 ∷ [])
  pub pointer_1237576 : gb18030 [] (189001 ∷ 0x10000 ∷ []) 0x10FFFF ≡ error_with 0x10FFFF
  -- the last pair whose code point is not above the scalar, though the first would do, or another has a nearer code point
  pub first_pair : gb18030 [] (5 ∷ 0x80 ∷ []) 0x80 ≡ tokens (0x81 ∷ 0x30 ∷ 0x81 ∷ 0x35 ∷ [])
  pub last_pair : gb18030 [] (5 ∷ 0x80 ∷ 10 ∷ 0x70 ∷ []) 0x80 ≡ tokens (0x81 ∷ 0x30 ∷ 0x83 ∷ 0x36 ∷ [])
  pub list_order : gb18030 [] (100 ∷ 0x90 ∷ 0 ∷ 0x80 ∷ []) 0x95 ≡ tokens (0x81 ∷ 0x30 ∷ 0x83 ∷ 0x31 ∷ [])
  pub not_above : gb18030 [] (5 ∷ 0x80 ∷ 10 ∷ 0x82 ∷ []) 0x81 ≡ tokens (0x81 ∷ 0x30 ∷ 0x81 ∷ 0x36 ∷ [])
  -- its code point is any number
  pub surrogate_pair : gb18030 [] (0 ∷ 0xD800 ∷ []) 0xE000 ≡ tokens (0x81 ∷ 0x31 ∷ 0xCF ∷ 0x38 ∷ [])
  -- an error where there is none, or its pointer has no code point or another; no other pair is tried
  pub no_pair : gb18030 [] (0 ∷ 0x81 ∷ []) 0x80 ≡ error_with 0x80
  pub no_other_pair : gb18030 [] (5 ∷ 0x80 ∷ 1237576 ∷ 0x70 ∷ []) 0x80 ≡ error_with 0x80
  pub pointer_7457 : gb18030 [] (7457 ∷ 0x80 ∷ []) 0x80 ≡ error_with 0x80
  pub reads_otherwise : gb18030 [] (0 ∷ 0x80 ∷ 5 ∷ 0x90 ∷ []) 0x8A ≡ error_with 0x8A
  -- two of the published pairs, and a scalar between that only the table has
  pub published_4dff : gb18030 [] (18962 ∷ 0x4DAF ∷ 19043 ∷ 0x9FA6 ∷ []) 0x4DFF ≡ tokens (0x82 ∷ 0x35 ∷ 0x8F ∷ 0x32 ∷ [])
  pub published_4e00 : gb18030 [] (18962 ∷ 0x4DAF ∷ 19043 ∷ 0x9FA6 ∷ []) 0x4E00 ≡ error_with 0x4E00
  pub published_9fa6 : gb18030 [] (18962 ∷ 0x4DAF ∷ 19043 ∷ 0x9FA6 ∷ []) 0x9FA6 ≡ tokens (0x82 ∷ 0x35 ∷ 0x8F ∷ 0x33 ∷ [])
  -- pointer plus difference does not wrap: at 32 bits it would be pointer 0, which reads as the scalar
  pub no_wrap : gb18030 [] (0 ∷ 0x81 ∷ 4294967295 ∷ 0x80 ∷ []) 0x81 ≡ error_with 0x81
  -- Big5 uses pointers from 5,024 on, whichever it takes
  pub big5_5023 : big5 5023 one_cell 0x4E00 ≡ error_with 0x4E00
  pub big5_5024 : big5 5024 one_cell 0x4E00 ≡ tokens (0xA1 ∷ 0x40 ∷ [])
  pub big5_5023_last : big5 5023 (0x2550 ∷ []) 0x2550 ≡ error_with 0x2550
  -- the last pointer for six scalars, the first for others
  pub big5_2550 : big5 5024 twice 0x2550 ≡ tokens (0xA1 ∷ 0x48 ∷ [])
  pub big5_255e : big5 5024 twice 0x255E ≡ tokens (0xA1 ∷ 0x49 ∷ [])
  pub big5_2561 : big5 5024 twice 0x2561 ≡ tokens (0xA1 ∷ 0x4A ∷ [])
  pub big5_256a : big5 5024 twice 0x256A ≡ tokens (0xA1 ∷ 0x4B ∷ [])
  pub big5_5341 : big5 5024 twice 0x5341 ≡ tokens (0xA1 ∷ 0x4C ∷ [])
  pub big5_5345 : big5 5024 twice 0x5345 ≡ tokens (0xA1 ∷ 0x4D ∷ [])
  pub big5_2551 : big5 5024 twice 0x2551 ≡ tokens (0xA1 ∷ 0x46 ∷ [])
  pub big5_5344 : big5 5024 twice 0x5344 ≡ tokens (0xA1 ∷ 0x47 ∷ [])
  -- of several cells the first; the columns on both sides of the gap, which EUC-KR has not
  pub gbk_first : gbk (0x4E00 ∷ 0x4E00 ∷ []) [] 0x4E00 ≡ tokens (0x81 ∷ 0x40 ∷ [])
  pub gbk_62 : gbk (replicate 62 0 ++ one_cell) [] 0x4E00 ≡ tokens (0x81 ∷ 0x7E ∷ [])
  pub gbk_63 : gbk (replicate 63 0 ++ one_cell) [] 0x4E00 ≡ tokens (0x81 ∷ 0x80 ∷ [])
  pub big5_5086 : big5 5086 one_cell 0x4E00 ≡ tokens (0xA1 ∷ 0x7E ∷ [])
  pub big5_5087 : big5 5087 one_cell 0x4E00 ≡ tokens (0xA1 ∷ 0xA1 ∷ [])
  pub euc_kr-first : euc_kr 0 (0x4E00 ∷ 0x4E00 ∷ []) 0x4E00 ≡ tokens (0x81 ∷ 0x41 ∷ [])
  pub euc_kr-62 : euc_kr 62 one_cell 0x4E00 ≡ tokens (0x81 ∷ 0x7F ∷ [])
  pub euc_kr-63 : euc_kr 63 one_cell 0x4E00 ≡ tokens (0x81 ∷ 0x80 ∷ [])
  pub euc_kr-none : euc_kr 0 one_cell 0xAC00 ≡ error_with 0xAC00

-- ISO-2022-JP's encoder run from a state (0 ASCII, 1 Roman, 2 two-byte) to the end of the stream, with these cells of jis0208 from pointer
-- p on, and these first cells of the katakana table
abbrev pub iso : ℕ → List ℕ → List ℕ → ℕ → List ℕ → Option Ran
iso p cells katakana s cs = standard_encode (encoder (switching (searching (jis0208 p cells)) katakana)) fatal s cs

-- these bytes, and finished; these bytes, and an error that names a code point
abbrev pub gives : List ℕ → Option Ran
gives bs = some (record { result = finished; output = bs })

abbrev pub fails : List ℕ → ℕ → Option Ran
fails bs n = some (record { result = error_with n; output = bs })

pub record IsoSamples : Type 0 where
  -- 000: "Encoding U+00A5 gives 0x1B 0x28 0x4A 0x5C 0x1B 0x28 0x42"
  pub yen : iso 0 [] [] 0 (0xA5 ∷ []) ≡ gives (0x1B ∷ 0x28 ∷ 0x4A ∷ 0x5C ∷ 0x1B ∷ 0x28 ∷ 0x42 ∷ [])
  pub overline : iso 0 [] [] 1 (0x203E ∷ []) ≡ gives (0x7E ∷ 0x1B ∷ 0x28 ∷ 0x42 ∷ [])
  pub nothing_in_ascii : iso 0 [] [] 0 [] ≡ gives []
  -- a letter and a line feed stay in Roman; 5C and 7E leave it
  pub roman_stays : iso 0 [] [] 1 (0x41 ∷ 0x0A ∷ []) ≡ gives (0x41 ∷ 0x0A ∷ 0x1B ∷ 0x28 ∷ 0x42 ∷ [])
  pub roman_5c : iso 0 [] [] 1 (0x5C ∷ []) ≡ gives (0x1B ∷ 0x28 ∷ 0x42 ∷ 0x5C ∷ [])
  pub roman_7e : iso 0 [] [] 1 (0x7E ∷ []) ≡ gives (0x1B ∷ 0x28 ∷ 0x42 ∷ 0x7E ∷ [])
  -- every ASCII scalar leaves the two-byte state; U+00A5 leads to Roman from there
  pub two_byte_letter : iso 0 [] [] 2 (0x0A ∷ []) ≡ gives (0x1B ∷ 0x28 ∷ 0x42 ∷ 0x0A ∷ [])
  pub two_byte_yen : iso 0 [] [] 2 (0xA5 ∷ 0x41 ∷ []) ≡ gives (0x1B ∷ 0x28 ∷ 0x4A ∷ 0x5C ∷ 0x41 ∷ 0x1B ∷ 0x28 ∷ 0x42 ∷ [])
  -- pairs, up to pointer 8,835; the first of several cells
  pub pair : iso 0 one_cell [] 1 (0x4E00 ∷ 0x4E00 ∷ []) ≡
      gives (0x1B ∷ 0x24 ∷ 0x42 ∷ 0x21 ∷ 0x21 ∷ 0x21 ∷ 0x21 ∷ 0x1B ∷ 0x28 ∷ 0x42 ∷ [])
  pub pair_8835 : iso 8835 one_cell [] 2 (0x4E00 ∷ []) ≡ gives (0x7E ∷ 0x7E ∷ 0x1B ∷ 0x28 ∷ 0x42 ∷ [])
  pub pair_8836 : iso 8836 one_cell [] 0 (0x4E00 ∷ []) ≡ fails [] 0x4E00
  pub first_of_two : iso 2 (0x4E00 ∷ 0x4E00 ∷ []) [] 2 (0x4E00 ∷ []) ≡ gives (0x21 ∷ 0x23 ∷ 0x1B ∷ 0x28 ∷ 0x42 ∷ [])
  -- 0E, 0F, 1B are errors that name U+FFFD; an error in the two-byte state first returns to ASCII, in Roman it stays
  pub control_ascii : iso 0 [] [] 0 (0x1B ∷ []) ≡ fails [] 0xFFFD
  pub control_roman : iso 0 [] [] 1 (0x0E ∷ []) ≡ fails [] 0xFFFD
  pub control_two_byte : iso 0 [] [] 2 (0x0F ∷ []) ≡ fails (0x1B ∷ 0x28 ∷ 0x42 ∷ []) 0xFFFD
  pub unwritable_roman : iso 0 [] [] 1 (0x4E00 ∷ []) ≡ fails [] 0x4E00
  pub unwritable_two_byte : iso 0 [] [] 2 (0x4E00 ∷ []) ≡ fails (0x1B ∷ 0x28 ∷ 0x42 ∷ []) 0x4E00
  -- U+2212 is looked up and named as U+FF0D
  pub minus : iso 0 (0x2212 ∷ 0xFF0D ∷ []) [] 2 (0x2212 ∷ []) ≡ gives (0x21 ∷ 0x22 ∷ 0x1B ∷ 0x28 ∷ 0x42 ∷ [])
  pub minus_named : iso 0 (0x2212 ∷ []) [] 0 (0x2212 ∷ []) ≡ fails [] 0xFF0D
  -- a katakana of half width by its cell, and named as it; an unmapped cell names the scalar
  pub katakana : iso 0 one_cell (0x4E00 ∷ []) 0 (0xFF61 ∷ []) ≡ gives (0x1B ∷ 0x24 ∷ 0x42 ∷ 0x21 ∷ 0x21 ∷ 0x1B ∷ 0x28 ∷ 0x42 ∷ [])
  pub katakana_named : iso 0 [] (0x4E00 ∷ []) 0 (0xFF61 ∷ []) ≡ fails [] 0x4E00
  pub katakana_unmapped : iso 0 (0xFF62 ∷ []) (0x4E00 ∷ []) 0 (0xFF62 ∷ []) ≡ fails [] 0xFF62
  -- the cell is not treated again, whatever it is
  pub cell_2212 : iso 0 (0x2212 ∷ 0xFF0D ∷ []) (0x2212 ∷ []) 0 (0xFF61 ∷ []) ≡
      gives (0x1B ∷ 0x24 ∷ 0x42 ∷ 0x21 ∷ 0x21 ∷ 0x1B ∷ 0x28 ∷ 0x42 ∷ [])
  pub cell_a5 : iso 0 (0xA5 ∷ []) (0xA5 ∷ []) 0 (0xFF61 ∷ []) ≡ gives (0x1B ∷ 0x24 ∷ 0x42 ∷ 0x21 ∷ 0x21 ∷ 0x1B ∷ 0x28 ∷ 0x42 ∷ [])
  pub cell_ff62 : iso 0 (0xFF62 ∷ 0x4E00 ∷ []) (0xFF62 ∷ 0x4E00 ∷ []) 0 (0xFF61 ∷ []) ≡
      gives (0x1B ∷ 0x24 ∷ 0x42 ∷ 0x21 ∷ 0x21 ∷ 0x1B ∷ 0x28 ∷ 0x42 ∷ [])
