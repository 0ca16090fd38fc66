-- What the code's values stand for: the answer for one scalar, slots, and what a look-up is given. Contracts of functions inside the
-- library cite this. Assumes nothing.
use Rattle.std.specs.Prelude.{◌≡◌, true, false, ◌&&◌, List, [], ◌∷◌, ℕ, ◌+◌, ◌*◌, ◌/◌, ◌%◌, ◌≤◌, ◌<◌, ltb, leb, eqb, length, get_or, set, replicate, Option, Some, None}
use Rattle.std.proofs.Math.Option.{Option as Optional, some, none}
use Rattle.standard.specs.Base.{◌then◌else◌, within, mapped}
use Rattle.standard.specs.Machine.{Result, tokens, error_with}
use Rattle.standard.specs.Layouts.{Layout, lead_of, trail_of}
use Rattle.standard.specs.Search.{PassedOver, passed, pass_over, Lookup}
use Rattle.standard.specs.Encoders.Gb18030.{gb18030_encode}
use Rattle.standard.specs.Encoders.Big5.{big5_encode}
use Rattle.standard.specs.Encoders.EucJp.{euc_jp_encode}
use Rattle.standard.specs.Encoders.ShiftJis.{shift_jis_encode}
use Rattle.standard.specs.Encoders.EucKr.{euc_kr_encode}
use Rattle.standard.specs.Encoders.Iso2022Jp.{control}
use Rattle.standard.specs.Ones.{iso2022_jp_encode, state_for}
use Rattle.index.specs.IndexCode.{pointer_of}
use Rattle.layouts.specs.Rows.{cells, layout_of}
use Rattle.reverse_index_spec.specs.ReverseIndex.{look_up}
use Rattle.pair_writers.specs.declared.One.{One}
use Rattle.pair_writers.specs.declared.One.TheVariants.{Unwritable, Byte, Two, Four}

-- The bytes of the code's answer, and the encoder's word for it.
abbrev pub bytes_of : One → List ℕ
bytes_of (Unwritable n) = []
bytes_of (Byte b) = b ∷ []
bytes_of (Two bs) = bs
bytes_of (Four bs) = bs

abbrev pub told : One → Result
told (Unwritable n) = error_with n
told (Byte b) = tokens (b ∷ [])
told (Two bs) = tokens bs
told (Four bs) = tokens bs

-- A code point, or null where the code has none.
abbrev pub optional : Option ℕ → Optional ℕ
optional (Some d) = some d
optional None = none

-- The encoder of an encoding number, of those that write pairs, with a look-up in its first table, and its second table.
unfoldable pub pair_encode : ℕ → Lookup → List ℕ → ℕ → Result
pair_encode e look second =
    leb e 30 then gb18030_encode (eqb e 29) look second else
    eqb e 31 then big5_encode look else
    eqb e 32 then euc_jp_encode look else
    eqb e 33 then iso2022_jp_encode look second else
    eqb e 34 then shift_jis_encode look else
    euc_kr_encode look

-- The state after a scalar, from a state, by what the encoder answers: it stays but in ISO-2022-JP.
abbrev pub pair_state : ℕ → ℕ → ℕ → Result → ℕ
pair_state e s c r = eqb e 33 then state_for s c r else s

-- An ASCII scalar whose one byte leaves the state as it is.
pub record Plain (e s c : ℕ) : Type 0 where
  pub is_ascii : c < 0x80
  pub no_control : eqb e 33 && control c ≡ false
  pub stays : pair_state e s c (tokens (c ∷ [])) ≡ s

-- The pointers that it passes over, from low to high; from 1 to 0 there is none. And the cells of its first table.
abbrev pub low_of : ℕ → ℕ
low_of e = leb e 30 then 1 else eqb e 31 then 0 else leb e 33 then 8836 else eqb e 34 then 8272 else 1

abbrev pub high_of : ℕ → ℕ
high_of e = leb e 30 then 0 else eqb e 31 then 5023 else leb e 33 then 11279 else eqb e 34 then 10715 else 0

abbrev pub cells_of : ℕ → ℕ
cells_of e = leb e 30 then 23940 else eqb e 31 then 19782 else leb e 34 then 11280 else 23940

-- The pointers that an encoding passes over.
abbrev pub over_of : ℕ → PassedOver
over_of e = pass_over (low_of e) (high_of e)

-- SLOTS: 65,536 numbers by code point; all code points above U+FFFF share the slot of U+0000.
abbrev pub slot_of : ℕ → ℕ
slot_of c = ltb c 0x10000 then c else 0

-- The bytes of a number in a slot: two from the encoding's floor on, below it one.
abbrev pub floor_of : ℕ → ℕ
floor_of e = eqb e 33 then 256 else 0x8000

abbrev pub bytes_in : ℕ → ℕ → List ℕ
bytes_in e v = leb (floor_of e) v then v / 256 ∷ v % 256 ∷ [] else v / 256 ∷ []

-- A pointer that is searched, whose cell counts as mapped and has this slot.
pub record Has (over : PassedOver) (table : List ℕ) (k q : ℕ) : Type 0 where
  pub inside : q < length table
  pub searched : passed over q ≡ false
  pub is_mapped : mapped (get_or table q 0) ≡ true
  pub slot_is : slot_of (get_or table q 0) ≡ k

-- How slots are filled, pointer after pointer. The two bytes of a pointer as a number; a cell put into its slot: the first that has it
-- with its number, a further one with 1.
abbrev pub pair_number : Layout → ℕ → ℕ
pair_number y p = lead_of y p * 256 + trail_of y p

abbrev pub entered : List ℕ → ℕ → ℕ → List ℕ
entered slots c v =
    mapped c then (ltb 0xFFFF c then set slots 0 1 else set slots c (eqb (get_or slots c 0) 0 then v else 1)) else slots

-- What stands in slot k once the pointers below p are in: 0 where none of them has it, the number of the only one that has, or 1.
pub data Slot (y : Layout) (over : PassedOver) (table : List ℕ) (p k : ℕ) : ℕ → Type 0 where
  nothing : ((q : ℕ) → q < p → Has over table k q → ⊥) → Slot y over table p k 0
  only : (q : ℕ) → Has over table k q → ((r : ℕ) → r < p → Has over table k r → r ≡ q) → 0 < k → Slot y over table p k (pair_number y q)
  several : Slot y over table p k 1

pub record Filled (e : ℕ) (table : List ℕ) (p : ℕ) (slots : List ℕ) : Type 0 where
  pub size : length slots ≡ 0x10000
  pub slot : (k : ℕ) → k < 0x10000 → Slot (layout_of e) (over_of e) table p k (get_or slots k 0)

-- A row of n pointers, none of them passed over: the number of each is a lead's and a trail's.
pub record Row (e at n lead : ℕ) (trails : List ℕ) : Type 0 where
  pub number : (j : ℕ) → j < n → lead + get_or trails j 0 ≡ pair_number (layout_of e) (at + j)
  pub searched : (j : ℕ) → j < n → passed (over_of e) (at + j) ≡ false

-- The trails of the columns.
abbrev pub Trails : ℕ → ℕ → List ℕ → Type 0
Trails e n trails = (j : ℕ) → j < n → get_or trails j 0 ≡ trail_of (layout_of e) j

-- What the rows of an encoding are filled by.
pub record Laid (e : ℕ) (table : List ℕ) (low high width : ℕ) (trails : List ℕ) : Type 0 where
  pub cells : length table ≡ cells_of e
  pub is_low : low ≡ low_of e
  pub is_high : high ≡ high_of e
  pub is_width : width ≡ (layout_of e).divisor
  pub columns : width ≤ length trails
  pub trail : Trails e width trails

-- ASCII in its slots, but in ISO-2022-JP.
pub record Plainly (e : ℕ) (before after : List ℕ) : Type 0 where
  pub ascii : (e ≡ 33 → ⊥) → (k : ℕ) → 0 < k → k < 0x80 → get_or after k 0 ≡ k * 256
  pub others : (k : ℕ) → 0x80 ≤ k → get_or after k 0 ≡ get_or before k 0
  pub null : get_or after 0 0 ≡ get_or before 0 0
  pub shifting : e ≡ 33 → (k : ℕ) → get_or after k 0 ≡ get_or before k 0

-- Code points that some encoder does not look up as they are, or answers otherwise: their slots tell nothing.
pub record Usual (k : ℕ) : Type 0 where
  pub no_80 : k ≡ 0x80 → ⊥
  pub no_yen : k ≡ 0xA5 → ⊥
  pub no_overline : k ≡ 0x203E → ⊥
  pub no_euro : k ≡ 0x20AC → ⊥
  pub no_minus : k ≡ 0x2212 → ⊥
  pub no_e5e5 : k ≡ 0xE5E5 → ⊥
  pub no_katakana : within 0xFF61 k 0xFF9F ≡ false

pub record Excepted (before after : List ℕ) : Type 0 where
  pub zero_still : (k : ℕ) → get_or after k 0 ≡ 0 → get_or before k 0 ≡ 0
  pub bytes_still : (k : ℕ) → 256 ≤ get_or after k 0 → get_or before k 0 ≡ get_or after k 0
  pub usual : (k : ℕ) → 256 ≤ get_or after k 0 → Usual k

-- An empty slot tells that no pointer has it.
abbrev pub Empty : PassedOver → List ℕ → List ℕ → Type 0
Empty over table slots = (k : ℕ) → k < 0x10000 → get_or slots k 0 ≡ 0 → (q : ℕ) → Has over table k q → ⊥

-- Slots that are right, whatever the cells of a reverse index: a number of 256 and more is the bytes of its code point.
pub record Right (e : ℕ) (table links second slots : List ℕ) : Type 0 where
  pub empty : Empty (over_of e) table slots
  pub bytes : (k : ℕ) → 256 ≤ get_or slots k 0 → pair_encode e (look_up table links) second k ≡ tokens (bytes_in e (get_or slots k 0))

-- The slots from one up to another are 1, the others as they were.
pub record Marked (before : List ℕ) (from to : ℕ) (after : List ℕ) : Type 0 where
  pub inside : (k : ℕ) → from ≤ k → k < to → get_or after k 0 ≡ 1
  pub front : (k : ℕ) → k < from → get_or after k 0 ≡ get_or before k 0
  pub behind : (k : ℕ) → to ≤ k → get_or after k 0 ≡ get_or before k 0

-- What a look-up is lent: a table of n cells, and slots that are right, or none; by the encoding number.
abbrev pub Aids : PassedOver → List ℕ → List ℕ → Type 0
Aids over table slots = length slots ≡ 0x10000 → Empty over table slots

abbrev pub Helped : ℕ → PassedOver → List ℕ → List ℕ → Type 0
Helped n over table slots = (length table ≡ n) × Aids over table slots

abbrev pub Ready : ℕ → List ℕ → List ℕ → List ℕ → List ℕ → Type 0
Ready e table links second slots = (length table ≡ cells_of e) × (length slots ≡ 0x10000 → Right e table links second slots)

-- its first table, and empty slots
abbrev pub Fillable : ℕ → List ℕ → List ℕ → Type 0
Fillable e table slots = (length table ≡ cells_of e) × (slots ≡ replicate 0x10000 0)

-- The pointers that are searched stand in the rows of a layout.
abbrev pub InRows : ℕ → ℕ → List ℕ → Layout → Type 0
InRows low high table y = (p : ℕ) → p < length table → passed (pass_over low high) p ≡ false → p < cells y

-- A pointer that is found stands in them.
abbrev pub Inside : Layout → Option ℕ → Type 0
Inside y found = (p : ℕ) → pointer_of found ≡ some p → p < cells y
