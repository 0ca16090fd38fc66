-- 02, Ask 8: what is proved of writing by a reverse index beside the first table. Assumes nothing.
use Rattle.std.specs.Prelude.{◌≡◌, Bool, true, false, ◌||◌, List, ℕ, eqb, length}
use Rattle.std.proofs.Math.Option.{some}
use Rattle.standard.specs.Base.{◌then◌else◌}
use Rattle.standard.specs.Encodings.{Tables}
use Rattle.standard.specs.Search.{PassedOver, Side, Lookup}
use Rattle.standard.specs.Encoders.Pairs.{minus}
use Rattle.standard.specs.Encoders.Iso2022Jp.{changed, changed_name}
use Rattle.standard.specs.Writers.{Writer, utf-8, single-byte, windows-1252, gbk, gb18030, big5, euc-jp, iso-2022-jp, shift-jis, euc-kr}
use Rattle.standard.specs.Writers.{x-user-defined, coding}
use Rattle.standard.specs.Ones.{One, encode_one}
use Rattle.encoder_spec.specs.Writing.{Writing, writing}
use Rattle.encoder_spec.specs.Writer.{refuse, one_by, writer_call}
use Rattle.encoder_spec.specs.Calls.{Piece, CutBy}
use Rattle.encoder_spec.specs.Statements.{Kept}
use Rattle.reverse_index_spec.specs.ReverseIndex.{True, fits, look_up}
use Rattle.reverse_index_spec.specs.Statements.{MissAlike}
use Rattle.indexed_writing.specs.Call.{indexed_call, indexed_calls}

-- The code point that a writer looks up for a scalar.
abbrev pub looked_up : Writer → List ℕ → ℕ → ℕ
looked_up utf-8 second c = c
looked_up single-byte second c = c
looked_up windows-1252 second c = c
looked_up gbk second c = c
looked_up gb18030 second c = c
looked_up big5 second c = c
looked_up euc-jp second c = minus c
looked_up iso-2022-jp second c = changed_name (changed second c) c
looked_up shift-jis second c = minus c
looked_up euc-kr second c = c
looked_up x-user-defined second c = c

-- Bytes by two look-ups: the same, or both look-ups gave a pointer for the code point d.
pub data SameBytes (look look' : Lookup) (d : ℕ) : List ℕ → List ℕ → Type 0 where
  same : (bs : List ℕ) → SameBytes look look' d bs bs
  by_pointers : (bs ds : List ℕ) (side : Side) (over : PassedOver) (p q : ℕ) →
      look side over d ≡ some p → look' side over d ≡ some q → SameBytes look look' d bs ds

-- One scalar: as many bytes, the same state after them, and the same code point named; other bytes only by pointers.
pub record SameOne (look look' : Lookup) (d : ℕ) (o o' : One) : Type 0 where
  pub sizes : length o.bytes ≡ length o'.bytes
  pub states : o.state ≡ o'.state
  pub names : o.named ≡ o'.named
  pub which : SameBytes look look' d o.bytes o'.bytes

-- Writings of one shape: as many bytes, the same state after them, and the same report with its index and the code point named.
pub record SameShape (w v : Writing) : Type 0 where
  pub lengths : length w.bytes ≡ length v.bytes
  pub states : w.state ≡ v.state
  pub reports : w.unwritable ≡ v.unwritable

-- what a writer writes of some scalars from a state, in a mode, by a look-up
abbrev pub writing_by : Writer → Lookup → List ℕ → ℕ → ℕ → List ℕ → Writing
writing_by w look second m s cs = writing (encode_one (coding w look second)) m s cs

-- Two look-ups in one writer: scalar by scalar, and for any scalars, so that the bytes of each have the same place.
pub record Alike (w : Writer) (look look' : Lookup) (second : List ℕ) : Type 0 where
  pub one_scalar : (s c : ℕ) →
      SameOne look look' (looked_up w second c) (encode_one (coding w look second) s c) (encode_one (coding w look' second) s c)
  pub shapes : (m s : ℕ) (cs : List ℕ) → SameShape (writing_by w look second m s cs) (writing_by w look' second m s cs)

-- Look-ups that miss alike write alike.
abbrev pub WriteAlike : Type 0
WriteAlike = (w : Writer) (look look' : Lookup) (second : List ℕ) → MissAlike look look' → Alike w look look' second

-- the refusals that come before 15
abbrev pub before15 : ℕ → Bool
before15 n = eqb n 2 || eqb n 3 || eqb n 5 || eqb n 9 || eqb n 4

-- The call with an index, beside the writer's call with the same tables; for every encoding number, mode and state, known or not.
pub record IndexedCall (e m s : ℕ) (t : Tables) (index cs room : List ℕ) : Type 0 where
  -- by the true index, the same answer and the same room
  pub by_true : True t.first index → indexed_call e m s t index cs room ≡ writer_call e m s t cs room
  -- by any cells of the right length, the same answer: refusal, bytes written, index and state
  pub by_any : fits (length t.first) (length index) ≡ true → (indexed_call e m s t index cs room).answer ≡ (writer_call e m s t cs room).answer
  -- an index of the wrong length: 15 where the writer's call goes on behind 4
  pub wrong_length : fits (length t.first) (length index) ≡ false → indexed_call e m s t index cs room ≡
      (before15 (writer_call e m s t cs room).answer.refusal then writer_call e m s t cs room else refuse 15 s room)
  -- the room
  pub kept : Kept room (indexed_call e m s t index cs room)

-- Calls with the same index, cut in any way.
abbrev pub CutIndexed : Writer → ℕ → ℕ → Tables → List ℕ → ℕ → List Piece → Type 0
CutIndexed w e m t index s ps = CutBy (indexed_calls e m t index) (one_by w (look_up t.first index) t) m s ps
