-- Code units of UTF-16 in a row. Contracts of functions inside the library cite these; no promise of a public call rests on them. Assumes nothing.
use Rattle.std.specs.Prelude.{◌≡◌, Bool, List, [], ◌∷◌, ◌++◌, ℕ, zero, suc, ◌+◌, ◌-◌, ◌*◌, ◌/◌, ◌%◌, ◌<◌, ◌⊎◌, get_or}
use Rattle.standard.specs.Base.{◌then◌else◌, line_feeds}
use Rattle.standard.specs.Encodings.{Family, UTF-16BE, UTF-16LE, no_tables}
use Rattle.standard.specs.Sequence.{plain}
use Rattle.standard.specs.Next.{next}
use Rattle.standard.specs.Sequences.Utf16.{unit}
use Rattle.line_feeds.specs.Parts.{part}
use Rattle.runs.specs.Run.{Runs}
use Rattle.word_runs.specs.declared.utf_16.Reached.{Reached}

-- `be`: the upper byte of a unit is its first
abbrev pub utf16_family : Bool → Family
utf16_family be = be then UTF-16BE else UTF-16LE

-- the first values of a function
unfoldable pub values : (ℕ → ℕ) → ℕ → List ℕ
values f zero = []
values f (suc n) = values f n ++ (f n ∷ [])

-- the unit at a place, so many units on
abbrev pub unit_at : Bool → List ℕ → ℕ → ℕ → ℕ
unit_at be xs at k = unit be (get_or xs (at + k * 2) 0) (get_or xs (at + k * 2 + 1) 0)

-- a unit that is no surrogate
abbrev pub NoSurrogate : ℕ → Type 0
NoSurrogate u = (u < 0xD800) ⊎ (0xDFFF < u)

-- the unit of a word, whose second byte is the upper one
abbrev pub oriented : Bool → ℕ → ℕ
oriented be w = be then w % 256 * 256 + w / 256 else w

-- The contract of a part of a run, from a place of the chunk and of the room to another, with the line feeds that it writes.
pub record UnitRun (be : Bool) (m : ℕ) (chunk : List ℕ) (from place : ℕ) (r : Reached) (room room' : List ℕ) : Type 0 where
  pub runs : Runs (next no_tables (utf16_family be)) m chunk from r.at plain plain place r.written room room'
  pub lines : r.lines ≡ line_feeds (part room' place (r.written - place))
