-- Document 01, "Writing rules", and 02, Asks 6 and 8: what the writer and its finish answer: refusal, bytes written, the unwritable scalar's index,
-- the state, and the room afterwards. Assumes nothing.
use Rattle.std.specs.Prelude.{Bool, true, not, List, ◌++◌, ℕ, ltb, length, drop}
use Rattle.std.proofs.Math.Option.{Option, some, none}
use Rattle.standard.specs.Base.{◌then◌else◌, scalars}
use Rattle.standard.specs.Encodings.{Tables}
use Rattle.standard.specs.Search.{Lookup, searching}
use Rattle.standard.specs.Writers.{Writer, writer_of, coding, writer_fits}
use Rattle.standard.specs.Ones.{One, encode_one, finish_bytes}
use Rattle.encoder_spec.specs.Writing.{Fault, Writing, writing}
use Rattle.encoder_spec.specs.declared.Written.{Written}

-- What a call leaves: its answer, and every cell of the room.
pub record Outcome : Type 0 where
  pub answer : Written
  pub room : List ℕ

-- A refused call hands back the state that it was handed.
abbrev pub refuse : ℕ → ℕ → List ℕ → Outcome
refuse n s room = record { answer = record { written = 0; index = 0; refusal = n; state = s }; room = room }

-- so many bytes written, the state then reached, and report 11 where a scalar is unwritable
abbrev pub answer_of : ℕ → ℕ → Option Fault → Written
answer_of n s none = record { written = n; index = 0; refusal = 0; state = s }
answer_of n s (some f) = record { written = n; index = f.index; refusal = 11; state = s }

abbrev pub write : Writing → List ℕ → Outcome
write w room = record {
  answer = answer_of (length w.bytes) w.state w.unwritable;
  room = w.bytes ++ drop (length w.bytes) room;
}

-- 8, 10, 7, then 11
abbrev pub write_accepted : (ℕ → ℕ → One) → ℕ → ℕ → List ℕ → List ℕ → Outcome
write_accepted one m s cs room =
    ltb 16384 (length cs) then refuse 8 s room else
    not (scalars cs) then refuse 10 s room else
    ltb (length room) (length (writing one m s cs).bytes) then refuse 7 s room else
    write (writing one m s cs) room

-- one scalar in a state, by a look-up in the first table that is lent; and by a search of it
abbrev pub one_by : Writer → Lookup → Tables → ℕ → ℕ → One
one_by w look t = encode_one (coding w look t.second)

abbrev pub lent_one : Writer → Tables → ℕ → ℕ → One
lent_one w t = one_by w (searching t.first) t

-- 9, 4, (02) 15 where an index of the wrong length is lent, then those
abbrev pub write_by : Lookup → Bool → Option Writer → ℕ → ℕ → Tables → List ℕ → List ℕ → Outcome
write_by look right none m s t cs room = refuse 9 s room
write_by look right (some w) m s t cs room =
    writer_fits w t then (right then write_accepted (one_by w look t) m s cs room else refuse 15 s room) else refuse 4 s room

-- Writing from a state, by a look-up in the first table: 2, 3, (02) 5 for every encoding, then those.
unfoldable pub call_by : Lookup → Bool → ℕ → ℕ → ℕ → Tables → List ℕ → List ℕ → Outcome
call_by look right e m s t cs room =
    ltb 39 e then refuse 2 s room else
    ltb 1 m then refuse 3 s room else
    ltb 2 s then refuse 5 s room else
    write_by look right (writer_of e) m s t cs room

-- The writer's call: by a search, with no index to refuse.
unfoldable pub writer_call : ℕ → ℕ → ℕ → Tables → List ℕ → List ℕ → Outcome
writer_call e m s t cs room = call_by (searching t.first) true e m s t cs room

-- (02) A finish returns to ASCII, whatever the encoding: it sees the state only. 5, 7.
unfoldable pub writer_finish : ℕ → List ℕ → Outcome
writer_finish s room =
    ltb 2 s then refuse 5 s room else
    ltb (length room) (length (finish_bytes s)) then refuse 7 s room else
    write (record { bytes = finish_bytes s; state = 0; unwritable = none }) room
