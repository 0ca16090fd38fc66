-- Where the pairs of a two-byte encoding lie in its index, and the way back from a pointer to two bytes: a divisor, and what is added to the row and the column. Assumes nothing.
use Rattle.std.specs.Prelude.{◌≡◌, Bool, true, ◌&&◌, ◌||◌, List, [], ◌∷◌, ℕ, ◌+◌, ◌-◌, ◌*◌, ◌/◌, ◌%◌, ltb}
use Rattle.standard.specs.Base.{◌then◌else◌, within}
use Rattle.standard.specs.Sequence.{cell}

-- 000's offsets: one for all numbers; or two, the lower for numbers below `gap`, otherwise the higher.
pub data Offset : Type 0 where
  one : ℕ → Offset
  two : ℕ → ℕ → ℕ → Offset

-- the byte of a number
abbrev pub placed : Offset → ℕ → ℕ
placed (one low) n = n + low
placed (two gap low high) n = n + (ltb n gap then low else high)

-- the number of a byte
abbrev pub number : Offset → ℕ → ℕ
number (one low) b = b - low
number (two gap low high) b = b - (ltb b (gap + low) then low else high)

-- the bytes of n numbers
abbrev pub ranges : Offset → ℕ → ℕ → Bool
ranges (one low) n b = within low b (n + low - 1)
ranges (two gap low high) n b = within low b (gap + low - 1) || within (gap + high) b (n + high - 1)

-- A row for each lead byte, a column for each trail byte; the divisor is the cells of a row.
pub record Layout : Type 0 where
  pub rows : ℕ
  pub divisor : ℕ
  pub lead : Offset
  pub trail : Offset

abbrev pub leads : Layout → ℕ → Bool
leads y b = ranges y.lead y.rows b

abbrev pub trails : Layout → ℕ → Bool
trails y c = ranges y.trail y.divisor c

-- the decoders' pointer
unfoldable pub pointer_of : Layout → ℕ → ℕ → ℕ
pointer_of y lead trail = number y.lead lead * y.divisor + number y.trail trail

-- the decoders' code point of two bytes, 0 for null
unfoldable pub pair_code : Layout → List ℕ → ℕ → ℕ → ℕ
pair_code y index lead trail = leads y lead && trails y trail then cell index (pointer_of y lead trail) else 0

-- the encoders' two bytes: "Let lead be pointer / divisor, let trail be pointer % divisor; return two bytes whose values are lead + lead offset and trail + offset."
abbrev pub lead_of : Layout → ℕ → ℕ
lead_of y p = placed y.lead (p / y.divisor)

abbrev pub trail_of : Layout → ℕ → ℕ
trail_of y p = placed y.trail (p % y.divisor)

abbrev pub two_bytes : Layout → ℕ → List ℕ
two_bytes y p = lead_of y p ∷ trail_of y p ∷ []

-- GBK and gb18030, Big5, EUC-JP, ISO-2022-JP, Shift_JIS, EUC-KR
abbrev pub gb18030_layout : Layout
gb18030_layout = record { rows = 126; divisor = 190; lead = one 0x81; trail = two 0x3F 0x40 0x41 }

abbrev pub big5_layout : Layout
big5_layout = record { rows = 126; divisor = 157; lead = one 0x81; trail = two 0x3F 0x40 0x62 }

abbrev pub euc_jp_layout : Layout
euc_jp_layout = record { rows = 94; divisor = 94; lead = one 0xA1; trail = one 0xA1 }

abbrev pub iso2022_jp_layout : Layout
iso2022_jp_layout = record { rows = 94; divisor = 94; lead = one 0x21; trail = one 0x21 }

abbrev pub shift_jis_layout : Layout
shift_jis_layout = record { rows = 60; divisor = 188; lead = two 0x1F 0x81 0xC1; trail = two 0x3F 0x40 0x41 }

abbrev pub euc_kr_layout : Layout
euc_kr_layout = record { rows = 126; divisor = 190; lead = one 0x81; trail = one 0x41 }

-- THE LAW OF A LAYOUT: a pointer into its rows has a lead and a trail byte in the decoders' ranges, and they give it back.
pub record TwoBytes (y : Layout) (p : ℕ) : Type 0 where
  pub lead_fits : leads y (lead_of y p) ≡ true
  pub trail_fits : trails y (trail_of y p) ≡ true
  pub back : pointer_of y (lead_of y p) (trail_of y p) ≡ p
