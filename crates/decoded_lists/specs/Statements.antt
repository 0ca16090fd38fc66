-- Document 02, Ask 11, "over the decoder, and knowing only its promise": the list call on the characters that a decoder hands out, for
-- bytes in any encoding. Assumes nothing.
use Rattle.std.specs.Prelude.{◌≡◌, List, ℕ, ◌+◌, ◌-◌, ◌≤◌, ◌<◌, T, length, get_or, take, drop}
use Rattle.std.proofs.Math.Option.{Option, some, none}
use Rattle.standard.specs.Base.{Bytes, separators, line_feeds}
use Rattle.standard.specs.Encodings.{family, traits, Tables}
use Rattle.demands.specs.Histories.{Call, History, after, accepted_calls, start}
use Rattle.demands.specs.Statements.{Piece, joined, cutting, Account, account, Accepts, mark_by, standard_account}
use Rattle.list_spec.specs.ListCall.{Outcome, list_call}
use Rattle.list_spec.specs.Statements.{Faultless, AtFault}

-- What the list call leaves for the characters of an account.
abbrev pub list_of : Option Account → List ℕ → List ℕ → Option Outcome
list_of none names room = none
list_of (some a) names room = some (list_call a.handed names room)

-- For an accepted opening of encoding e in mode m with a mark rule, and tables t at each call; of any known names and any room.
pub record DecodedList (t : Tables) (e m rule : ℕ) (names room : List ℕ) : Type 0 where
  -- any bytes, cut anywhere into accepted feeds, and finished: what is read is what is read from what 000's `run` puts out for the whole
  pub as_standard : (ps : List Piece) (last : List ℕ) → Bytes (joined ps) → Accepts t (start e m rule) ps last →
      some (list_call (account (start e m rule) (cutting t ps last)).handed names room) ≡
      list_of (standard_account t e m rule (joined ps)) names room
  -- and with refused calls anywhere among them
  pub refused_among : (cs : List Call) (ps : List Piece) (last : List ℕ) →
      accepted_calls (start e m rule) cs ≡ accepted_calls (start e m rule) (cutting t ps last) →
      Bytes (joined ps) → Accepts t (start e m rule) ps last →
      some (list_call (account (start e m rule) cs).handed names room) ≡ list_of (standard_account t e m rule (joined ps)) names room
  -- and the same from any other cutting, in answer and room
  pub any_cutting : (ps qs : List Piece) (last last' : List ℕ) → joined ps ≡ joined qs →
      Accepts t (start e m rule) ps last → Accepts t (start e m rule) qs last' →
      list_call (account (start e m rule) (cutting t ps last)).handed names room ≡
      list_call (account (start e m rule) (cutting t qs last')).handed names room

-- The line n, which begins at a place of the characters, begins at a place of the bytes taken: so many bytes 0A stand before it, the last
-- of them just before it, and the separators before and behind the two places are the same.
pub record BeginsInBytes (h : History) (at n : ℕ) : Type 0 where
  pub place : ℕ
  pub within : place ≤ length h.taken
  pub counted : n ≡ 1 + line_feeds (take place h.taken)
  pub behind : 0 < place → get_or h.taken (place - 1) 0 ≡ 0x0A
  pub same_before : separators (take place h.taken) ≡ separators (take at h.handed)
  pub same_behind : separators (drop place h.taken) ≡ separators (drop at h.handed)

-- The line of a refusal 16, 17 or 18 counts the bytes 0A before it: for every list of calls on a decoder in replacing mode in which the
-- encoding that reads keeps separators (demand 3), whatever the mark rule, the chunks, the tables and the refused calls among them.
pub record FaultInBytes (e rule : ℕ) (names room : List ℕ) : Type 0 where
  pub line_of_bytes : (calls : List Call) →
      let h = after (start e 0 rule) calls in
      T (traits (family (mark_by e rule h.taken).encoding)).separators →
      let a = (list_call h.handed names room).answer in
      (Faultless h.handed names → ⊥) →
      (f : AtFault h.handed names a) × BeginsInBytes h f.line.start a.line
