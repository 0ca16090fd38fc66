-- Samples of the writer's call: sample 15 of document 01, the order of the refusals, and what document 02 says of Shift_JIS and EUC-JP, of
-- the tables of the Chinese and Korean encodings, and of ISO-2022-JP with its state and finish. Assumes nothing.
use Rattle.std.specs.Prelude.{◌≡◌, false, List, [], ◌∷◌, ◌++◌, ℕ, length, drop, replicate}
use Rattle.standard.specs.Encodings.{lent, no_tables}
use Rattle.standard.specs.Search.{searching}
use Rattle.standard.specs.Encoders.Samples.{table, jis0208}
use Rattle.encoder_spec.specs.Writer.{Outcome, call_by, writer_call, writer_finish}

-- a lent room of eight cells, and what a call leaves of it, in a state and in state 0
abbrev pub eight : List ℕ
eight = 1 ∷ 2 ∷ 3 ∷ 4 ∷ 5 ∷ 6 ∷ 7 ∷ 8 ∷ []

abbrev pub leaves_in : ℕ → ℕ → ℕ → ℕ → List ℕ → Outcome
leaves_in s n i refusal room = record { answer = record { written = n; index = i; refusal = refusal; state = s }; room = room }

abbrev pub leaves : ℕ → ℕ → ℕ → List ℕ → Outcome
leaves n i refusal room = leaves_in 0 n i refusal room

-- these bytes and no refusal; these bytes and report 11 with an index
abbrev pub fills : List ℕ → Outcome
fills bs = leaves (length bs) 0 0 (bs ++ drop (length bs) eight)

abbrev pub stops : List ℕ → ℕ → Outcome
stops bs i = leaves (length bs) i 11 (bs ++ drop (length bs) eight)

-- a call in a mode, with these cells of jis0208 from pointer p on, and some scalars: Shift_JIS (34) and EUC-JP (32)
abbrev pub shift_jis : ℕ → ℕ → List ℕ → List ℕ → Outcome
shift_jis m p cells cs = writer_call 34 m 0 (lent (jis0208 p cells) []) cs eight

abbrev pub euc_jp : ℕ → ℕ → List ℕ → List ℕ → Outcome
euc_jp m p cells cs = writer_call 32 m 0 (lent (jis0208 p cells) (replicate 8836 0)) cs eight

-- Sample 15 of document 01, and the order of the refusals where several hold.
pub record Samples : Type 0 where
  pub sample_15_html : writer_call 21 0 0 no_tables (0x4E00 ∷ []) eight ≡ fills (0x26 ∷ 0x23 ∷ 0x31 ∷ 0x39 ∷ 0x39 ∷ 0x36 ∷ 0x38 ∷ 0x3B ∷ [])
  pub sample_15_refusing : writer_call 21 1 0 no_tables (0x4E00 ∷ []) eight ≡ stops [] 0
  pub utf8_four : writer_call 0 1 0 no_tables (0x1F4A9 ∷ []) eight ≡ fills (0xF0 ∷ 0x9F ∷ 0x92 ∷ 0xA9 ∷ [])
  -- the bytes before the error are written, and its index is given
  pub second_unwritable : writer_call 21 1 0 no_tables (0x20AC ∷ 0x4E00 ∷ 0x41 ∷ []) eight ≡ stops (0x80 ∷ []) 1
  -- exactly the bytes need room, in refusing mode those before the error
  pub room_exact : writer_call 0 1 0 no_tables (0xE9 ∷ []) (1 ∷ 2 ∷ []) ≡ leaves 2 0 0 (0xC3 ∷ 0xA9 ∷ [])
  pub room_small : writer_call 0 1 0 no_tables (0xE9 ∷ []) (1 ∷ []) ≡ leaves 0 0 7 (1 ∷ [])
  pub no_room_needed : writer_call 21 1 0 no_tables (0x4E00 ∷ 0x41 ∷ []) [] ≡ leaves 0 0 11 []
  pub 2-before-3 : writer_call 40 2 0 no_tables [] [] ≡ leaves 0 0 2 []
  pub 3-before-9 : writer_call 36 2 0 no_tables [] [] ≡ leaves 0 0 3 []
  -- 5 for every encoding, a number that no state has; a refused call hands the state back
  pub 3-before-5 : writer_call 36 2 3 no_tables [] [] ≡ leaves_in 3 0 0 3 []
  pub 5-before-9 : writer_call 36 0 3 no_tables [] [] ≡ leaves_in 3 0 0 5 []
  pub 5-before-4 : writer_call 33 0 255 no_tables [] [] ≡ leaves_in 255 0 0 5 []
  pub 5-in-utf8 : writer_call 0 0 3 no_tables (0x41 ∷ []) eight ≡ leaves_in 3 0 0 5 eight
  pub 9-in-state-2 : writer_call 36 0 2 no_tables [] [] ≡ leaves_in 2 0 0 9 []
  -- the others hand it back unchanged
  pub utf8_in_state_2 : writer_call 0 0 2 no_tables (0x41 ∷ []) [] ≡ leaves_in 2 0 0 7 []
  pub utf8_keeps_state : writer_call 0 1 1 no_tables (0xE9 ∷ []) (1 ∷ 2 ∷ []) ≡ leaves_in 1 2 0 0 (0xC3 ∷ 0xA9 ∷ [])
  pub 9-before-4 : writer_call 36 0 0 (lent (0 ∷ []) []) [] [] ≡ leaves 0 0 9 []
  pub 4-before-8 : writer_call 1 0 0 no_tables (replicate 16385 0x41) [] ≡ leaves 0 0 4 []
  pub 8-before-10 : writer_call 0 0 0 no_tables (replicate 16385 0xD800) [] ≡ leaves 0 0 8 []
  pub 16384-pass-8 : writer_call 0 0 0 no_tables (replicate 16384 0xD800) [] ≡ leaves 0 0 10 []
  pub 10-before-7 : writer_call 0 0 0 no_tables (0x41 ∷ 0xD800 ∷ []) [] ≡ leaves 0 0 10 []
  pub 10-before-11 : writer_call 21 1 0 no_tables (0x4E00 ∷ 0xD800 ∷ []) [] ≡ leaves 0 0 10 []
  -- (02) an index of the wrong length: 9 and 4 come before it, 8, 10 and 7 behind it
  pub 9-before-15 : call_by (searching []) false 36 0 0 no_tables [] [] ≡ leaves 0 0 9 []
  pub 4-before-15 : call_by (searching []) false 1 0 0 no_tables [] [] ≡ leaves 0 0 4 []
  pub 15-before-8 : call_by (searching []) false 0 0 1 no_tables (replicate 16385 0xD800) [] ≡ leaves_in 1 0 0 15 []
  pub 7-before-11 : writer_call 21 1 0 no_tables (0x41 ∷ 0x4E00 ∷ []) [] ≡ leaves 0 0 7 []

-- Document 02, Ask 5; the cells that each encoder finds are sampled beside it, in `standard/specs/Encoders/Samples.antt`.
pub record JapaneseSamples : Type 0 where
  -- 9 is given for neither
  pub shift_jis-writes : writer_call 34 0 0 no_tables [] [] ≡ leaves 0 0 4 []
  pub euc_jp-writes : writer_call 32 0 0 no_tables [] [] ≡ leaves 0 0 4 []
  -- ASCII, U+0080 in Shift_JIS, U+00A5, U+203E, half-width katakana, and a cell
  pub shift_jis-each : shift_jis 1 0 (0x3042 ∷ []) (0x41 ∷ 0x80 ∷ 0xA5 ∷ 0x203E ∷ 0xFF61 ∷ 0xFF9F ∷ 0x3042 ∷ []) ≡
      fills (0x41 ∷ 0x80 ∷ 0x5C ∷ 0x7E ∷ 0xA1 ∷ 0xDF ∷ 0x81 ∷ 0x40 ∷ [])
  pub euc_jp-each : euc_jp 1 0 (0x3042 ∷ []) (0x41 ∷ 0xA5 ∷ 0x203E ∷ 0xFF61 ∷ 0x3042 ∷ []) ≡
      fills (0x41 ∷ 0x5C ∷ 0x7E ∷ 0x8E ∷ 0xA1 ∷ 0xA1 ∷ 0xA1 ∷ [])
  pub euc_jp-80 : euc_jp 1 0 (0x3042 ∷ []) (0x41 ∷ 0x80 ∷ []) ≡ stops (0x41 ∷ []) 1
  -- U+2212 as U+FF0D: html names this, and report 11's index is the place of the scalar as lent
  pub shift_jis-minus : shift_jis 1 1 (0xFF0D ∷ []) (0x2212 ∷ []) ≡ fills (0x81 ∷ 0x41 ∷ [])
  pub shift_jis-html : shift_jis 0 0 (0x2212 ∷ []) (0x2212 ∷ []) ≡ fills (0x26 ∷ 0x23 ∷ 0x36 ∷ 0x35 ∷ 0x32 ∷ 0x39 ∷ 0x33 ∷ 0x3B ∷ [])
  pub euc_jp-html : euc_jp 0 0 (0x2212 ∷ []) (0x2212 ∷ []) ≡ fills (0x26 ∷ 0x23 ∷ 0x36 ∷ 0x35 ∷ 0x32 ∷ 0x39 ∷ 0x33 ∷ 0x3B ∷ [])
  pub shift_jis-stops : shift_jis 1 0 (0x2212 ∷ []) (0x41 ∷ 0x2212 ∷ 0x42 ∷ []) ≡ stops (0x41 ∷ []) 1

-- Document 02, Ask 7.
pub record ChineseSamples : Type 0 where
  -- 9 is given for none of the four; for replacement and the UTF-16 pair it is
  pub gbk_writes : writer_call 29 0 0 no_tables [] [] ≡ leaves 0 0 4 []
  pub gb18030_writes : writer_call 30 0 0 no_tables [] [] ≡ leaves 0 0 4 []
  pub big5_writes : writer_call 31 0 0 no_tables [] [] ≡ leaves 0 0 4 []
  pub euc_kr-writes : writer_call 35 0 0 no_tables [] [] ≡ leaves 0 0 4 []
  pub replacement_9 : writer_call 36 0 0 no_tables [] [] ≡ leaves 0 0 9 []
  pub utf_16be_9 : writer_call 37 0 0 no_tables [] [] ≡ leaves 0 0 9 []
  pub utf_16le_9 : writer_call 38 0 0 no_tables [] [] ≡ leaves 0 0 9 []
  -- ASCII, U+20AC in GBK, and the last cell of the table that is lent; GBK and gb18030 are lent ranges
  pub gbk_call : writer_call 29 1 0 (lent (table 23940 23939 (0x4E00 ∷ [])) (0 ∷ 0x80 ∷ [])) (0x41 ∷ 0x20AC ∷ 0x4E00 ∷ 0x4E8C ∷ []) eight ≡
      stops (0x41 ∷ 0x80 ∷ 0xFE ∷ 0xFE ∷ []) 3
  pub gb18030_call : writer_call 30 1 0 (lent (table 23940 23939 (0x4E00 ∷ [])) (0 ∷ 0x80 ∷ [])) (0x41 ∷ 0x4E00 ∷ 0x80 ∷ []) eight ≡
      fills (0x41 ∷ 0xFE ∷ 0xFE ∷ 0x81 ∷ 0x30 ∷ 0x81 ∷ 0x30 ∷ [])
  pub big5_call : writer_call 31 1 0 (lent (table 19782 19781 (0x4E00 ∷ [])) []) (0x41 ∷ 0x4E00 ∷ []) eight ≡ fills (0x41 ∷ 0xFE ∷ 0xFE ∷ [])
  pub euc_kr-call : writer_call 35 1 0 (lent (table 23940 23939 (0xAC00 ∷ [])) []) (0x41 ∷ 0xAC00 ∷ []) eight ≡ fills (0x41 ∷ 0xFE ∷ 0xFE ∷ [])

-- Document 02, Ask 6: a call in ISO-2022-JP (33) in a mode, from a state, with these first cells of jis0208, and a katakana table of 63 cells
-- that begins with U+30A2.
abbrev pub iso : ℕ → ℕ → List ℕ → List ℕ → List ℕ → Outcome
iso m s cells cs room = writer_call 33 m s (lent (jis0208 0 cells) (table 63 0 (0x30A2 ∷ []))) cs room

pub record IsoSamples : Type 0 where
  -- 9 is not given; the tables are 11,280 and 63 cells
  pub iso_writes : writer_call 33 0 0 no_tables [] [] ≡ leaves 0 0 4 []
  pub no_katakana : writer_call 33 0 0 (lent (jis0208 0 []) []) [] [] ≡ leaves 0 0 4 []
  pub nothing : iso 0 0 [] [] [] ≡ leaves 0 0 0 []
  -- the state goes in and comes back
  pub to_roman : iso 1 0 [] (0xA5 ∷ 0x41 ∷ []) (1 ∷ 2 ∷ 3 ∷ 4 ∷ 5 ∷ 6 ∷ []) ≡ leaves_in 1 5 0 0 (0x1B ∷ 0x28 ∷ 0x4A ∷ 0x5C ∷ 0x41 ∷ 6 ∷ [])
  pub in_roman : iso 1 1 [] (0xA5 ∷ 0x41 ∷ []) (1 ∷ 2 ∷ 3 ∷ []) ≡ leaves_in 1 2 0 0 (0x5C ∷ 0x41 ∷ 3 ∷ [])
  pub to_two_byte : iso 1 1 (0x3042 ∷ []) (0x3042 ∷ []) (1 ∷ 2 ∷ 3 ∷ 4 ∷ 5 ∷ []) ≡ leaves_in 2 5 0 0 (0x1B ∷ 0x24 ∷ 0x42 ∷ 0x21 ∷ 0x21 ∷ [])
  pub in_two_byte : iso 1 2 (0x3042 ∷ []) (0x3042 ∷ []) (1 ∷ 2 ∷ []) ≡ leaves_in 2 2 0 0 (0x21 ∷ 0x21 ∷ [])
  pub katakana : iso 1 2 (0x30A2 ∷ []) (0xFF61 ∷ []) (1 ∷ 2 ∷ []) ≡ leaves_in 2 2 0 0 (0x21 ∷ 0x21 ∷ [])
  -- a return to ASCII before a report 11 counts as written, and needs room; the state is the one then reached
  pub report_returns : iso 1 2 [] (0x3042 ∷ []) (1 ∷ 2 ∷ 3 ∷ 4 ∷ []) ≡ leaves_in 0 3 0 11 (0x1B ∷ 0x28 ∷ 0x42 ∷ 4 ∷ [])
  pub report_needs_room : iso 1 2 [] (0x3042 ∷ []) (1 ∷ 2 ∷ []) ≡ leaves_in 2 0 0 7 (1 ∷ 2 ∷ [])
  pub report_in_roman : iso 1 1 [] (0x41 ∷ 0x3042 ∷ []) (1 ∷ 2 ∷ []) ≡ leaves_in 1 1 1 11 (0x41 ∷ 2 ∷ [])
  -- html: a return, and a reference to what the error names
  pub html_returns : iso 0 2 [] (0x1B ∷ []) (replicate 11 0) ≡
      leaves 11 0 0 (0x1B ∷ 0x28 ∷ 0x42 ∷ 0x26 ∷ 0x23 ∷ 0x36 ∷ 0x35 ∷ 0x35 ∷ 0x33 ∷ 0x33 ∷ 0x3B ∷ [])
  pub html_roman : iso 0 1 [] (0x80 ∷ []) (replicate 7 0) ≡ leaves_in 1 6 0 0 (0x26 ∷ 0x23 ∷ 0x31 ∷ 0x32 ∷ 0x38 ∷ 0x3B ∷ 0 ∷ [])
  -- a finish: room for exactly what it writes; 5 before 7
  pub finish_ascii : writer_finish 0 [] ≡ leaves 0 0 0 []
  pub finish_roman : writer_finish 1 (1 ∷ 2 ∷ 3 ∷ 4 ∷ []) ≡ leaves 3 0 0 (0x1B ∷ 0x28 ∷ 0x42 ∷ 4 ∷ [])
  pub finish_two_byte : writer_finish 2 (1 ∷ 2 ∷ 3 ∷ []) ≡ leaves 3 0 0 (0x1B ∷ 0x28 ∷ 0x42 ∷ [])
  pub finish_7 : writer_finish 2 (1 ∷ 2 ∷ []) ≡ leaves_in 2 0 0 7 (1 ∷ 2 ∷ [])
  pub finish_5_before_7 : writer_finish 3 [] ≡ leaves_in 3 0 0 5 []
