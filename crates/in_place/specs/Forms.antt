-- Document 02, Ask 14: lists of calls on one decoder in which each call has either form: the decoder is handed over and handed back, or
-- it is lent and altered where it stands. Assumes nothing.
use Rattle.std.specs.Prelude.{◌≡◌, List, [], ◌∷◌, ◌++◌, ℕ, eqb, length, take}
use Rattle.std.proofs.Math.Option.{some}
use Rattle.standard.specs.Base.{◌then◌else◌, Bytes}
use Rattle.standard.specs.Encodings.{Tables}
use Rattle.decoder.specs.Calls.{Outcome, open_refusal}
use Rattle.decoder.specs.declared.Decoder.{Decoder}
use Rattle.demands.specs.Histories.{Call, History, accepted, chunk_of, outcome, after_one, after, accepted_calls, start}
use Rattle.demands.specs.Statements.{Piece, joined, cutting, Accepts, Report, Account, account, untaken, standard_account, Demand3}
use Rattle.in_place.specs.Replies.{reply_of}
use Rattle.in_place.specs.declared.Reply.{Reply}

pub data Form : Type 0 where
  by_value lent : Form

-- A call in a form, and the calls without their forms.
pub record Formed : Type 0 where
  pub form : Form
  pub call : Call

unfoldable pub calls : List Formed → List Call
calls [] = []
calls (f ∷ fs) = f.call ∷ calls fs

-- What a call leaves, by the contracts of `feed` and `finish` of a lent decoder: its reply, the decoder where it stands, and every cell of
-- the room.
pub record Left : Type 0 where
  pub reply : Reply
  pub decoder : Decoder
  pub room : List ℕ

abbrev pub left_by : Outcome → Left
left_by o = record { reply = reply_of o.answer; decoder = o.answer.decoder; room = o.room }

-- the history after such a call, by its reply and by what it was lent; and after a call in either form
abbrev pub after_lent : History → List ℕ → Left → History
after_lent h chunk l = record {
  taken = h.taken ++ (accepted l.reply.refusal then chunk else []);
  handed = h.handed ++ take l.reply.written l.room;
  decoder = l.decoder;
}

abbrev pub after_form : Form → History → Call → History
after_form by_value h c = after_one h c
after_form lent h c = after_lent h (chunk_of c) (left_by (outcome h c))

unfoldable pub after_forms : History → List Formed → History
after_forms h [] = h
after_forms h (f ∷ fs) = after_forms (after_form f.form h f.call) fs

-- what the call itself says: a reply, or the answer's numbers
abbrev pub said_by : Form → Outcome → Reply
said_by by_value o = reply_of o.answer
said_by lent o = (left_by o).reply

-- the reports 11, with the characters handed out before the error, its place and its line
unfoldable pub reports_forms : History → List Formed → List Report
reports_forms h [] = []
reports_forms h (f ∷ fs) =
    let h' = after_form f.form h f.call in
    let r = said_by f.form (outcome h f.call) in
    let here : Report = record { handed = length h'.handed; place = r.place; line = r.line } in
    eqb r.refusal 11 then here ∷ reports_forms h' fs else reports_forms h' fs

unfoldable pub account_forms : History → List Formed → Account
account_forms h fs = record {
  handed = (after_forms h fs).handed;
  reports = reports_forms h fs;
  decoder = untaken (after_forms h fs).decoder;
}

-- The forms change nothing: history and account are those of the calls without them.
pub record Mixed (h : History) (fs : List Formed) : Type 0 where
  pub same_history : after_forms h fs ≡ after h (calls fs)
  pub same_account : account_forms h fs ≡ account h (calls fs)

-- Demands 2 and 3 of a mix of both forms on one decoder, refused calls among them.
pub record MixedDemands (t : Tables) (e m rule : ℕ) (fs : List Formed) : Type 0 where
  pub as_standard : open_refusal e m rule ≡ 0 → (ps : List Piece) (last : List ℕ) →
      accepted_calls (start e m rule) (calls fs) ≡ accepted_calls (start e m rule) (cutting t ps last) →
      Bytes (joined ps) → Accepts t (start e m rule) ps last →
      some (account_forms (start e m rule) fs) ≡ standard_account t e m rule (joined ps)
  pub demand_3 : Demand3 e m rule (calls fs) (after_forms (start e m rule) fs)
