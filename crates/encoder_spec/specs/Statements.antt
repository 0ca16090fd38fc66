-- Writing is the standard's, and calls keep their room. Assumes nothing.
use Rattle.std.specs.Prelude.{◌≡◌, Bool, List, ◌++◌, ℕ, length, drop}
use Rattle.std.proofs.Math.Option.{some, none}
use Rattle.standard.specs.Encodings.{Tables}
use Rattle.standard.specs.Machine.{finished, error_with, fatal, html, Ran}
use Rattle.standard.specs.Search.{Lookup}
use Rattle.standard.specs.Writers.{Writer, coding, encoder, standard_encode}
use Rattle.standard.specs.Ones.{encode_one, finish_bytes}
use Rattle.encoder_spec.specs.Writing.{Writing, writing}
use Rattle.encoder_spec.specs.Writer.{Outcome, call_by, writer_call, writer_finish}

-- What 000's `run` of an encoder answers: all is written, and a finish, since `run` reads the end of the stream; or the error that stopped
-- it, with the code point that it names.
abbrev pub ran : Writing → Ran
ran w = elim w.unwritable [
  | none ↦ record { result = finished; output = w.bytes ++ finish_bytes w.state }
  | some f ↦ record { result = error_with f.code_point; output = w.bytes }
]

-- Writing is the standard's: for every writer, by any look-up and second table, from a state that it has, any scalars, in both modes.
-- Where 02 changes a step the handler is changed: (02) marks it in `standard/specs/Encoders`. What 02 changes of ISO-2022-JP is that its
-- steps 8 and 9 come once for a scalar, that an unmapped katakana cell is an error naming the scalar, that pointers from 8,836 are passed
-- over, and that an unwritable scalar in the two-byte state first returns to ASCII.
pub record WritingIsStandard (w : Writer) (look : Lookup) (second : List ℕ) (s : ℕ) (cs : List ℕ) : Type 0 where
  pub refusing : standard_encode (encoder (coding w look second)) fatal s cs ≡ some (ran (writing (encode_one (coding w look second)) 1 s cs))
  pub html_mode : standard_encode (encoder (coding w look second)) html s cs ≡ some (ran (writing (encode_one (coding w look second)) 0 s cs))

-- What a call leaves of a room: its length, and every cell behind what is written.
pub record Kept (room : List ℕ) (o : Outcome) : Type 0 where
  pub size : length o.room ≡ length room
  pub behind : drop o.answer.written o.room ≡ drop o.answer.written room

-- No call writes past the room, whatever is asked and lent.
pub record RoomKept : Type 0 where
  pub by_writing : (e m s : ℕ) (t : Tables) (cs room : List ℕ) → Kept room (writer_call e m s t cs room)
  pub by_look_up : (look : Lookup) (right : Bool) (e m s : ℕ) (t : Tables) (cs room : List ℕ) → Kept room (call_by look right e m s t cs room)
  pub by_finish : (s : ℕ) (room : List ℕ) → Kept room (writer_finish s room)
