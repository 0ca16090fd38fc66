-- Document 01, "Sample readings": those marked with a star, by their numbers; one more of gb18030, and some of Shift_JIS's user rows.
-- Document 02, Ask 1: some of a mark that chooses. Each is fed, then finished, in replacing mode but for the last. Assumes nothing.
use Rattle.std.specs.Prelude.{◌≡◌, List, [], ◌∷◌, ◌++◌, ℕ, ◌+◌, ◌≤◌, length, replicate}
use Rattle.standard.specs.Base.{line_feeds}
use Rattle.standard.specs.Encodings.{Family, family, Second, cells, ranges, traits, Tables}
use Rattle.decoder.specs.Record.{closed}
use Rattle.demands.specs.Histories.{start}
use Rattle.demands.specs.Statements.{Piece, cutting, Report, Account, account}

-- tables of the lengths that fit, every cell c; no ranges
abbrev pub second_cells : Second → ℕ
second_cells (cells n) = n
second_cells ranges = 0

unfoldable pub filled : ℕ → Family → Tables
filled c f = record { first = replicate (traits f).first c; second = replicate (second_cells (traits f).second) c }

-- Encoding e in mode m, by a mark rule, lent the tables t: the bytes xs are fed at once, and finished.
abbrev pub at_once : ℕ → ℕ → ℕ → Tables → List ℕ → Account
at_once e m rule t xs =
    let once : Piece = record { chunk = xs; room = replicate (length xs + 3) 0 } in
    account (start e m rule) (cutting t (once ∷ []) (replicate 3 0))

-- They are read as the scalars cs, by a mark rule, and by all three.
abbrev pub gives : ℕ → ℕ → Tables → List ℕ → List ℕ → Type 0
gives e rule t xs cs =
    ◌≡◌ {A = Account} (at_once e 0 rule t xs) (record { handed = cs; reports = []; decoder = closed e 0 0 (line_feeds cs) })

abbrev pub Reads : ℕ → Tables → List ℕ → List ℕ → Type 0
Reads e t xs cs = gives e 0 t xs cs × gives e 1 t xs cs × gives e 2 t xs cs

-- the same with nothing mapped
abbrev pub Unmapped : ℕ → List ℕ → List ℕ → Type 0
Unmapped e xs cs = Reads e (filled 0 (family e)) xs cs

-- the same with nothing mapped and with all mapped, in Shift_JIS
abbrev pub WhateverCells : List ℕ → List ℕ → Type 0
WhateverCells xs cs = Unmapped 34 xs cs × Reads 34 (filled 0x3042 (family 34)) xs cs

pub record Samples : Type 0 where
  pub no_bytes_1 : (e : ℕ) → e ≤ 39 → Unmapped e [] []
  pub utf8_2 : Unmapped 0 (0xF0 ∷ 0x9F ∷ 0x92 ∷ 0xA9 ∷ []) (0x1F4A9 ∷ [])
  pub utf8_3 : Unmapped 0 (0xE2 ∷ 0x82 ∷ []) (0xFFFD ∷ [])
  pub utf8_4 : Unmapped 0 (0xED ∷ 0xA0 ∷ 0x80 ∷ []) (0xFFFD ∷ 0xFFFD ∷ 0xFFFD ∷ [])
  pub utf8_4_overlong : Unmapped 0 (0xC0 ∷ 0x80 ∷ []) (0xFFFD ∷ 0xFFFD ∷ [])
  pub shift_jis-5 : Unmapped 34 (0x82 ∷ 0x22 ∷ []) (0xFFFD ∷ 0x22 ∷ [])
  pub gb18030_6 : Unmapped 30 (0x81 ∷ 0x30 ∷ 0x2C ∷ []) (0xFFFD ∷ 0x30 ∷ 0x2C ∷ [])
  pub gb18030_7 : Unmapped 30 (0x81 ∷ 0x30 ∷ []) (0xFFFD ∷ [])
  pub gb18030_8 : Unmapped 30 (0x81 ∷ 0x35 ∷ 0xF4 ∷ 0x37 ∷ []) (0xE7C7 ∷ [])
  pub gb18030_8_pair : Reads 30
      (record { first = replicate 23940 0; second = 189000 ∷ 65536 ∷ [] })
      (0x90 ∷ 0x30 ∷ 0x81 ∷ 0x30 ∷ []) (0x10000 ∷ [])
  pub utf16le_9 : Unmapped 38 (0x3D ∷ 0xD8 ∷ 0xA9 ∷ 0xDC ∷ []) (0x1F4A9 ∷ [])
  pub utf16le_9_lone : Unmapped 38 (0x3D ∷ 0xD8 ∷ 0x41 ∷ 0x00 ∷ []) (0xFFFD ∷ 0x41 ∷ [])
  pub iso2022jp_10 : Unmapped 33 (0x1B ∷ 0x28 ∷ 0x42 ∷ 0x1B ∷ 0x28 ∷ 0x42 ∷ []) (0xFFFD ∷ [])
  pub iso2022jp_10_cut : Unmapped 33 (0x1B ∷ 0x24 ∷ []) (0xFFFD ∷ 0x24 ∷ [])
  pub eucjp_11 : Unmapped 32 (0x8F ∷ 0xA1 ∷ 0x09 ∷ []) (0xFFFD ∷ 0x09 ∷ [])
  pub big5_12 : Unmapped 31 (0x88 ∷ 0x62 ∷ []) (0xCA ∷ 0x304 ∷ [])
  pub gb18030_fourth : Unmapped 30 (0x81 ∷ 0x30 ∷ 0x81 ∷ 0x20 ∷ []) (0xFFFD ∷ 0x30 ∷ 0xFFFD ∷ 0x20 ∷ [])
  pub shift_jis-first : WhateverCells (0xF0 ∷ 0x40 ∷ []) (0xE000 ∷ [])
  pub shift_jis-last : WhateverCells (0xF9 ∷ 0xFC ∷ []) (0xE757 ∷ [])
  pub shift_jis-below_gap : WhateverCells (0xF0 ∷ 0x7E ∷ []) (0xE03E ∷ [])
  pub shift_jis-gap : WhateverCells (0xF0 ∷ 0x7F ∷ []) (0xFFFD ∷ 0x7F ∷ [])
  pub shift_jis-above_gap : WhateverCells (0xF0 ∷ 0x80 ∷ []) (0xE03F ∷ [])
  pub shift_jis-separator : WhateverCells (0xF0 ∷ 0x22 ∷ []) (0xFFFD ∷ 0x22 ∷ [])
  pub shift_jis-before : Reads 34 (filled 0x3042 (family 34)) (0xEF ∷ 0xFC ∷ []) (0x3042 ∷ [])
  pub shift_jis-behind : Reads 34 (filled 0x3042 (family 34)) (0xFA ∷ 0x40 ∷ []) (0x3042 ∷ [])

-- By rule 2, with nothing mapped.
abbrev pub Chooses : ℕ → List ℕ → List ℕ → Type 0
Chooses e xs cs = gives e 2 (filled 0 (family e)) xs cs

-- By rule 2 in refusing mode: the scalars cs are handed out, and then an error is reported at a place, in a line.
abbrev pub ReportsAt : ℕ → Tables → List ℕ → List ℕ → ℕ → ℕ → Type 0
ReportsAt e t xs cs place line =
    let here : Report = record { handed = length cs; place = place; line = line } in
    ◌≡◌ {A = Account} (at_once e 1 2 t xs) (record { handed = cs; reports = here ∷ []; decoder = closed e 1 0 (line_feeds cs) })

-- a mark of UTF-8; a table of IBM866's size in which EF is mapped and no other byte
abbrev pub utf8_mark : List ℕ
utf8_mark = 0xEF ∷ 0xBB ∷ 0xBF ∷ []

abbrev pub only_ef : Tables
only_ef = record { first = replicate 0x6F 0 ++ 0x44F ∷ replicate 0x10 0; second = [] }

pub record Choices : Type 0 where
  -- a mark chooses, whatever the label's encoding is
  pub utf8_chosen : Chooses 21 (utf8_mark ++ 0x41 ∷ []) (0x41 ∷ [])
  pub utf16be_chosen : Chooses 21 (0xFE ∷ 0xFF ∷ 0x00 ∷ 0x41 ∷ []) (0x41 ∷ [])
  pub utf16le_chosen : Chooses 21 (0xFF ∷ 0xFE ∷ 0x41 ∷ 0x00 ∷ []) (0x41 ∷ [])
  pub behind_replacement : Chooses 36 (0xFF ∷ 0xFE ∷ 0x41 ∷ 0x00 ∷ []) (0x41 ∷ [])
  -- a second mark is a character
  pub second_mark : Chooses 21 (utf8_mark ++ utf8_mark) (0xFEFF ∷ [])
  pub second_mark_utf8 : Chooses 0 (utf8_mark ++ utf8_mark) (0xFEFF ∷ [])
  -- no mark, or a part of one: the label's encoding reads the bytes that wait
  pub no_bytes : Chooses 21 [] []
  pub no_mark : Chooses 21 (0xFF ∷ []) (0xFF ∷ [])
  pub no_mark_utf8 : Chooses 0 (0xFF ∷ []) (0xFFFD ∷ [])
  pub part_utf8 : Chooses 0 (0xEF ∷ 0xBB ∷ []) (0xFFFD ∷ [])
  -- so that a finish may hand out a character before it reports an error
  pub part_reported : ReportsAt 1 only_ef (0xEF ∷ 0xBB ∷ []) (0x44F ∷ []) 1 1
