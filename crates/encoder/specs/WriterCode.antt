-- What the code's values stand for: the bytes of one scalar, the encoder of an encoding number, what a call wrote, and its refusal.
-- Assumes nothing.
use Rattle.std.specs.Prelude.{◌≡◌, Bool, true, false, not, ◌&&◌, ◌||◌, List, [], ◌∷◌, ℕ, ◌+◌, ◌*◌, ◌/◌, ◌%◌, ◌≤◌, ◌<◌, ltb, leb, eqb, length, take, drop, get_or, set, Option, Some, None, Result as Outcome, Ok, Err}
use Rattle.standard.specs.Base.{◌then◌else◌, within, scalars, mapped}
use Rattle.standard.specs.Encodings.{family, Tables, lent, fits}
use Rattle.standard.specs.Indexes.{windows1252}
use Rattle.standard.specs.Machine.{Result, tokens, error_with}
use Rattle.standard.specs.Search.{Lookup, searching}
use Rattle.standard.specs.Encoders.Utf8.{utf8_bytes, utf8_encode}
use Rattle.standard.specs.Encoders.SingleByte.{single_byte_encode}
use Rattle.standard.specs.Encoders.UserDefined.{user_defined_encode}
use Rattle.standard.specs.Writers.{stateless}
use Rattle.standard.specs.Ones.{One, wrote, shift_to, answered, encode_one}
use Rattle.reverse_index_spec.specs.ReverseIndex.{look_up}
use Rattle.pair_writers.specs.Pairs.{pair_encode, pair_state, cells_of, floor_of, bytes_in}
use Rattle.pair_writers.specs.declared.One.{One as Answer}
use Rattle.pair_writers.specs.declared.One.TheVariants.{Two}
use Rattle.encoder_spec.specs.Writing.{Writing, onward, writing}
use Rattle.encoder_spec.specs.Writer.{write}
use Rattle.encoder_spec.specs.declared.Written.{Written}
use Rattle.encoder.specs.declared.refusals.Refusal.{Refusal}
use Rattle.encoder.specs.declared.refusals.Refusal.TheVariants.{NoEncoding, NoMode, NoState, NoWriter, WrongTables, WrongIndex, TooLong, NoScalars, NoRoom}

-- The number of a refusal, and 0 where a call is not refused.
abbrev pub number_of : Refusal → ℕ
number_of NoEncoding = 2
number_of NoMode = 3
number_of NoState = 5
number_of NoWriter = 9
number_of WrongTables = 4
number_of WrongIndex = 15
number_of TooLong = 8
number_of NoScalars = 10
number_of NoRoom = 7

abbrev pub number_in : Outcome (Unit {0}) Refusal → ℕ
number_in (Ok u) = 0
number_in (Err r) = number_of r

-- A byte, or an error that names the scalar.
abbrev pub given : ℕ → Option ℕ → Result
given c (Some b) = tokens (b ∷ [])
given c None = error_with c

-- The bytes of a scalar in UTF-8.
abbrev pub utf8_of : ℕ → List ℕ
utf8_of c =
    ltb c 0x80 then c ∷ [] else
    leb c 0x7FF then utf8_bytes 1 0xC0 c else
    leb c 0xFFFF then utf8_bytes 2 0xE0 c else
    utf8_bytes 3 0xF0 c

-- The answer of a call that is refused.
abbrev pub refused : ℕ → ℕ → Written
refused n s = record { written = 0; index = 0; refusal = n; state = s }

-- Does this encoding write pairs? Is there a writer for it?
abbrev pub pairs : ℕ → Bool
pairs e = within 29 e 35

abbrev pub writes : ℕ → Bool
writes e = leb e 28 || (pairs e || eqb e 39)

-- The encoder of UTF-8 and of the encodings of one byte a scalar, with a look-up in their table.
unfoldable pub encoder_of : ℕ → Lookup → ℕ → Result
encoder_of e look =
    eqb e 0 then utf8_encode else
    eqb e 21 then single_byte_encode (searching windows1252) else
    leb e 28 then single_byte_encode look else
    user_defined_encode

-- Its first table: of so many cells where it writes pairs, else of 128 or none.
pub record Tabled (e : ℕ) (table : List ℕ) : Type 0 where
  pub of_pairs : pairs e ≡ true → length table ≡ cells_of e
  pub of_bytes : pairs e ≡ false → length table ≤ 128

-- (02) Tables for writing: as for reading, and in ISO-2022-JP the katakana cells.
abbrev pub tables_fit : ℕ → Tables → Bool
tables_fit e t = eqb e 33 then fits (family e) (lent t.first []) && eqb (length t.second) 63 else fits (family e) t

-- An encoder of one scalar, whatever the state; those of an encoding number: of one byte a scalar, of pairs, and any with a writer.
abbrev pub plain : (ℕ → Result) → ℕ → ℕ → One
plain encode = encode_one (stateless encode)

abbrev pub one_of : ℕ → Lookup → ℕ → ℕ → One
one_of e look = plain (encoder_of e look)

abbrev pub pair_of : ℕ → Lookup → List ℕ → ℕ → ℕ → One
pair_of e look second s c =
    let r = pair_encode e look second c in
    answered (shift_to s (pair_state e s c r)) (pair_state e s c r) r

unfoldable pub lent_of : Lookup → ℕ → Tables → ℕ → ℕ → One
lent_of look e t = pairs e then pair_of e look t.second else one_of e look

-- Every slot holds a scalar, times 256, and its byte.
pub record Slots (encode : ℕ → Result) (slots : List ℕ) : Type 0 where
  pub right : (k : ℕ) → encode (get_or slots k 0 / 256) ≡ tokens (get_or slots k 0 % 256 ∷ [])

-- Slots of the writers of pairs (`pair_writers`, `Right`): two bytes of a scalar put into its slot, or nothing.
pub data Keeps (e : ℕ) (before : List ℕ) (c : ℕ) (o : Answer) : List ℕ → Type 0 where
  same : Keeps e before c o before
  put : (u v : ℕ) → o ≡ Two (u ∷ v ∷ []) → length before ≡ 0x10000 → c < 0x10000 → v < 256 → floor_of e ≤ u * 256 + v →
      Keeps e before c o (set before c (u * 256 + v))

-- Their numbers are the bytes of one scalar in a state, which it leaves as it is; in ISO-2022-JP in the two-byte state only.
abbrev pub Stays : ℕ → ℕ → List ℕ → (ℕ → ℕ → One) → Type 0
Stays e s slots one =
    length slots ≡ 0x10000 → (e ≡ 33 → s ≡ 2) → (k : ℕ) → 256 ≤ get_or slots k 0 → one s k ≡ wrote (bytes_in e (get_or slots k 0)) s

-- An encoding of one byte a scalar, with its table.
abbrev pub OneByte : ℕ → List ℕ → Type 0
OneByte e table = (1 ≤ e) × (length table ≤ 128)

-- What a loop of such an encoding is lent: its table, a reverse index or none, and slots.
abbrev pub BySlots : ℕ → List ℕ → List ℕ → List ℕ → Type 0
BySlots e table links slots = OneByte e table × Slots (encoder_of e (look_up table links)) slots

-- A pointer that is found in a table of 128 cells or fewer.
abbrev pub Found128 : Option ℕ → Type 0
Found128 found = (p : ℕ) → found ≡ Some p → p < 128

-- A cell and its byte put into their slot, where it counts as mapped.
abbrev pub entered : List ℕ → ℕ → ℕ → List ℕ
entered slots c b = mapped c then set slots (c % 2048) (c * 256 + b) else slots

-- What an encoding writes of some scalars: one of one byte a scalar, one of pairs, and any.
abbrev pub writing_of : Lookup → ℕ → ℕ → List ℕ → Writing
writing_of look e m cs = writing (one_of e look) m 0 cs

abbrev pub pair_writing : Lookup → ℕ → ℕ → ℕ → List ℕ → List ℕ → Writing
pair_writing look e m s second cs = writing (pair_of e look second) m s cs

abbrev pub lent_writing : Lookup → ℕ → ℕ → ℕ → Tables → List ℕ → Writing
lent_writing look e m s t cs = writing (lent_of look e t) m s cs

-- The bytes that may stand in front of those of one scalar; and the most bytes that it writes of one.
abbrev pub front_of : ℕ → ℕ
front_of e = eqb e 33 then 3 else 0

abbrev pub most_of : ℕ → ℕ → ℕ
most_of e m =
    eqb e 0 then 4 else
    eqb m 1 then (eqb e 30 then 4 else eqb e 33 then 5 else pairs e then 2 else 1) else
    10 + front_of e

-- The second and third byte of the escape sequence to a state.
abbrev pub middle_of : ℕ → ℕ
middle_of s = ltb s 2 then 0x28 else 0x24

abbrev pub last_of : ℕ → ℕ
last_of s = eqb s 1 then 0x4A else 0x42

-- An answer with a state handed back.
abbrev pub handed_back : ℕ → Written → Written
handed_back s a = record { written = a.written; index = a.index; refusal = a.refusal; state = s }

-- A room has space for a writing.
abbrev pub Space : Writing → List ℕ → Type 0
Space w room = length w.bytes ≤ length room

-- A writing, put into a room: the answer and the room afterwards.
pub record Wrote (w : Writing) (room : List ℕ) (answer : Written) (after : List ℕ) : Type 0 where
  pub answers : answer ≡ (write w room).answer
  pub leaves : after ≡ (write w room).room

-- A writing of scalars from state s₀ that has come to the scalar at i, in state s: its bytes so far, o of them, stand at the front of the
-- room, and the rest of the room is as it was.
pub record Running (one : ℕ → ℕ → One) (m s₀ : ℕ) (cs room₀ room : List ℕ) (i o s : ℕ) : Type 0 where
  pub inside : o ≤ length room
  pub size : length room ≡ length room₀
  pub same : writing one m s₀ cs ≡ onward i (take o room) (writing one m s (drop i cs))
  pub rest : drop o room ≡ drop o room₀

-- The refusal that depends on the scalars, with so many bytes of room, or 0: 8, 10, 7.
unfoldable pub text_refusal : Lookup → ℕ → ℕ → ℕ → Tables → List ℕ → ℕ → ℕ
text_refusal look e m s t cs n =
    ltb 16384 (length cs) then 8 else
    not (scalars cs) then 10 else
    ltb n (length (lent_writing look e m s t cs).bytes) then 7 else
    0

-- The refusal of a call: 2, 3, 5, 9, 4, 15, then those.
unfoldable pub refusal_of : Lookup → Bool → ℕ → ℕ → ℕ → Tables → List ℕ → ℕ → ℕ
refusal_of look right e m s t cs n =
    ltb 39 e then 2 else
    ltb 1 m then 3 else
    ltb 2 s then 5 else
    not (writes e) then 9 else
    not (tables_fit e t) then 4 else
    not right then 15 else
    text_refusal look e m s t cs n
