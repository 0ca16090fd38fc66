-- Where a run may begin, and what a run over part of a chunk leaves.
-- Contracts of functions inside the library cite these; no promise of a public call rests on them. Assumes nothing.
use Rattle.std.specs.Prelude.{◌≡◌, Bool, false, ◌&&◌, List, [], ◌∷◌, ◌++◌, ℕ, ◌+◌, ◌-◌, ◌≤◌, leb, eqb, length, take, drop}
use Rattle.standard.specs.Encodings.{Tables, Family}
use Rattle.standard.specs.Sequence.{Shift, Out, error, Next, item, shift}
use Rattle.standard.specs.Next.{next}
use Rattle.standard.specs.Decode.{Item, span, Read, put, decode, given, shown, broken}
use Rattle.sequences.specs.Code.{shift_of}
use Rattle.sequences.specs.declared.Sequence.{Sequence}
use Rattle.runs.specs.declared.Place.{Place}

-- From a place of so many bytes on there is space for a scalar of each byte, and there are not too many.
unfoldable pub ready : ℕ → ℕ → ℕ → ℕ → Bool
ready bytes from space place = leb from bytes && leb bytes 65536 && leb place space && leb (bytes - from) (space - place)

-- the same at a place without a shift
unfoldable pub ready_plain : ℕ → ℕ → Place → Bool
ready_plain bytes space p = eqb p.state 0 && eqb p.flag 0 && ready bytes p.at space p.written

-- what each loop needs of it
pub record Ready (chunk : List ℕ) (from : ℕ) (room : List ℕ) (place : ℕ) : Type 0 where
  pub begun : from ≤ length chunk
  pub short : length chunk ≤ 65536
  pub fits : place + (length chunk - from) ≤ length room

-- the room with scalars written from a place on
abbrev pub patch : ℕ → List ℕ → List ℕ → List ℕ
patch w cs room = take w room ++ cs ++ drop (w + length cs) room

-- some items read, and then the rest
unfoldable pub puts : List Item → Read → Read
puts [] r = r
puts (span w o ∷ is) r = put w o (puts is r)

-- From shift s at xs to shift s' at ys: what the sequences between give stands in the room from place w to w'. In mode 1 none is an error.
pub record Ran (f : Shift → List ℕ → Next) (m : ℕ) (s s' : Shift) (xs ys : List ℕ) (w w' : ℕ) (room room' : List ℕ) : Type 0 where
  pub items : List Item
  pub read : decode f s xs ≡ puts items (decode f s' ys)
  pub sound : m ≡ 1 → broken items ≡ false
  pub count : w' ≡ w + length (shown items)
  pub wrote : room' ≡ patch w (shown items) room

-- A run from a place of the chunk to another: it goes on, not past the end, and writes no more scalars than it reads bytes.
pub record Runs (f : Shift → List ℕ → Next) (m : ℕ) (chunk : List ℕ) (from to : ℕ) (s s' : Shift) (w w' : ℕ) (room room' : List ℕ) : Type 0 where
  pub ahead : from ≤ to
  pub inside : from ≤ length chunk → to ≤ length chunk
  pub space : w' + (length chunk - to) ≤ w + (length chunk - from)
  pub size : length room' ≡ length room
  pub ran : Ran f m s s' (drop from chunk) (drop to chunk) w w' room room'

-- A sequence of one scalar: of its text, or U+FFFD for an error, which is none in mode 1.
pub record Gives (m : ℕ) (a : Next) (width : ℕ) (s : Shift) (c : ℕ) : Type 0 where
  pub out : Out
  pub is : a ≡ item width s out
  pub gives : given out ≡ c ∷ []
  pub allowed : m ≡ 1 → out ≡ error → ⊥

-- the shift that a sequence leaves
abbrev pub left : Sequence → Shift
left q = shift_of q.shift

-- the shift at a place
abbrev pub shift_at : Place → Shift
shift_at p = shift p.state (eqb p.flag 1)

-- a place by its numbers
abbrev pub placed : ℕ → ℕ → ℕ → ℕ → Place
placed at written state flag = record { at = at; written = written; state = state; flag = flag }

-- The contract of a run: of an encoding with its tables, in a mode, from a place of the chunk and of the room to another.
abbrev pub Run : Tables → Family → ℕ → List ℕ → Place → Place → List ℕ → List ℕ → Type 0
Run t f m chunk p r room room' = Runs (next t f) m chunk p.at r.at (shift_at p) (shift_at r) p.written r.written room room'
