-- What a call on a lent decoder answers, and what it leaves. Assumes nothing.
use Rattle.std.specs.Prelude.{◌≡◌, List, ℕ}
use Rattle.decoder.specs.declared.Decoder.{Decoder}
use Rattle.decoder.specs.declared.Answer.{Answer}
use Rattle.decoder.specs.Calls.{Outcome}
use Rattle.in_place.specs.declared.Reply.{Reply}

-- an answer without the decoder
abbrev pub reply_of : Answer → Reply
reply_of a = record { written = a.written; place = a.place; line = a.line; refusal = a.refusal }

-- the reply, the lent record and the room afterwards are those of the by-value call's outcome
abbrev pub Leaves : Outcome → Reply → Decoder → List ℕ → Type 0
Leaves out r d room = (r ≡ reply_of out.answer) × (d ≡ out.answer.decoder) × (room ≡ out.room)
