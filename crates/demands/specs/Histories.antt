-- Lists of calls on one decoder: the bytes taken, the characters handed out, the decoder afterwards, and the records that calls leave. Assumes nothing.
use Rattle.std.specs.Prelude.{Bool, false, ◌||◌, not, List, [], ◌∷◌, ◌++◌, ℕ, ◌^◌, T, eqb, take}
use Rattle.standard.specs.Base.{◌then◌else◌, below, Bytes}
use Rattle.standard.specs.Encodings.{Tables}
use Rattle.decoder.specs.Calls.{Outcome, open_refusal, opening, feeding, finishing}
use Rattle.decoder.specs.declared.Decoder.{Decoder}

-- A call, with what it is lent.
pub data Call : Type 0 where
  feed : (chunk : List ℕ) → (tables : Tables) → (room : List ℕ) → Call
  finish : (tables : Tables) → (room : List ℕ) → Call

pub record History : Type 0 where
  pub taken : List ℕ
  pub handed : List ℕ
  pub decoder : Decoder

-- Report 11 is given by accepted calls.
abbrev pub accepted : ℕ → Bool
accepted refusal = eqb refusal 0 || eqb refusal 11

-- An accepted feed takes the whole chunk; a call hands out as many cells at the front of its room as its written number says.
abbrev pub noted : History → List ℕ → Outcome → History
noted h chunk o = record {
  taken = h.taken ++ (accepted o.answer.refusal then chunk else []);
  handed = h.handed ++ take o.answer.written o.room;
  decoder = o.answer.decoder;
}

abbrev pub outcome : History → Call → Outcome
outcome h (feed chunk t room) = feeding h.decoder t chunk room
outcome h (finish t room) = finishing h.decoder t room

abbrev pub chunk_of : Call → List ℕ
chunk_of (feed chunk t room) = chunk
chunk_of (finish t room) = []

-- the history after a call, and after a list of calls
abbrev pub after_one : History → Call → History
after_one h c = noted h (chunk_of c) (outcome h c)

unfoldable pub after : History → List Call → History
after h [] = h
after h (c ∷ cs) = after (after_one h c) cs

-- The calls of a list that are accepted, the refused ones left out.
unfoldable pub accepted_calls : History → List Call → List Call
accepted_calls h [] = []
accepted_calls h (c ∷ cs) =
    accepted (outcome h c).answer.refusal then c ∷ accepted_calls (after_one h c) cs else
    accepted_calls (after_one h c) cs

-- the history of an opening, refused or not
unfoldable pub start : ℕ → ℕ → ℕ → History
start e m rule = record { taken = []; handed = []; decoder = (opening e m rule).decoder }

-- Does a call end the decoder: an accepted finish, or a report 11?
abbrev pub ends : Call → ℕ → Bool
ends (feed chunk t room) refusal = eqb refusal 11
ends (finish t room) refusal = accepted refusal

unfoldable pub any_ends : History → List Call → Bool
any_ends h [] = false
any_ends h (c ∷ cs) = ends c (outcome h c).answer.refusal || any_ends (after_one h c) cs

-- Has the decoder ended: by a refused opening, an accepted finish or a report 11?
abbrev pub has_ended : ℕ → ℕ → ℕ → List Call → Bool
has_ended e m rule cs = not (eqb (open_refusal e m rule) 0) || any_ends (start e m rule) cs

-- Some opening, accepted feeds and finish (any tables) leave exactly this record.
pub data Reachable : Decoder → Type 0 where
  opened : (e m rule : ℕ) → Reachable (opening e m rule).decoder
  fed : {d : Decoder} → Reachable d → (t : Tables) (chunk room : List ℕ) →
      Bytes chunk → T (below (2 ^ 32) t.first) → T (below (2 ^ 32) t.second) →
      T (accepted (feeding d t chunk room).answer.refusal) → Reachable (feeding d t chunk room).answer.decoder
  finished : {d : Decoder} → Reachable d → (t : Tables) (room : List ℕ) →
      T (below (2 ^ 32) t.first) → T (below (2 ^ 32) t.second) →
      T (accepted (finishing d t room).answer.refusal) → Reachable (finishing d t room).answer.decoder
