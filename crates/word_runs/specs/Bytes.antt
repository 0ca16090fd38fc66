-- The scalar of a byte in the single-byte encodings. Contracts of functions inside the library cite these; no promise of a public call rests on them. Assumes nothing.
use Rattle.std.specs.Prelude.{◌≡◌, List, ℕ, ◌-◌, ◌*◌, ◌/◌, ◌%◌, ◌<◌, ◌+◌, ltb, eqb, get_or}
use Rattle.standard.specs.Base.{◌then◌else◌}
use Rattle.standard.specs.Indexes.{irregular}
use Rattle.standard.specs.Sequence.{cell}
use Rattle.runs.specs.Run.{patch}
use Rattle.word_runs.specs.Units.{values}

-- what an unmapped byte gives: U+FFFD, and 0x110000, which is no scalar, in mode 1
abbrev pub unmapped : ℕ → ℕ
unmapped m = eqb m 1 then 0x110000 else 0xFFFD

abbrev pub byte_scalar : ℕ → List ℕ → ℕ → ℕ
byte_scalar m cells b = ltb b 0x80 then b else eqb (cell cells (b - 0x80)) 0 then unmapped m else cell cells (b - 0x80)

-- windows-1252
abbrev pub windows_scalar : ℕ → ℕ
windows_scalar b = ltb b 0x80 then b else ltb b 0xA0 then get_or irregular (b - 0x80) 0 else b

-- n bytes from a place of the chunk on, through v, in the room
pub record Through (v : ℕ → ℕ) (chunk : List ℕ) (from n place : ℕ) (room room' : List ℕ) : Type 0 where
  pub bytes : (j : ℕ) → j < n → get_or chunk (from + j) 0 < 256
  pub wrote : room' ≡ patch place (values (λ (j : ℕ). v (get_or chunk (from + j) 0)) n) room

-- The first n cells of a table are scalars; those of the first n bytes from a place of the chunk on are.
abbrev pub Gapless : List ℕ → ℕ → Type 0
Gapless table n = (j : ℕ) → j < n → get_or table j 0 ≡ 0x110000 → ⊥

abbrev pub Sound : List ℕ → List ℕ → ℕ → ℕ → Type 0
Sound table chunk from n = (j : ℕ) → j < n → get_or chunk (from + j) 0 < 256 → get_or table (get_or chunk (from + j) 0) 0 ≡ 0x110000 → ⊥

-- 256 numbers of 32 bits, and the same in the upper half of 64
pub record Halves (low high : List ℕ) : Type 0 where
  pub small : (j : ℕ) → j < 256 → get_or low j 0 < 4294967296
  pub upper : (j : ℕ) → j < 256 → get_or high j 0 ≡ get_or low j 0 * 4294967296

-- the byte at a place of words, the lower one of a word first
abbrev pub byte_of : List ℕ → ℕ → ℕ
byte_of words k = eqb (k % 2) 0 then get_or words (k / 2) 0 % 256 else get_or words (k / 2) 0 / 256
