-- What the program's calls leave, buffer after buffer, and what they print in all. Assumes nothing.
use Rattle.std.specs.Prelude.{◌≡◌, List, [], ◌∷◌, ◌++◌, ℕ, ◌+◌, ◌≤◌, ◌<◌, ltb, eqb, length, take, drop, Result, Ok, Err}
use Rattle.standard.specs.Base.{◌then◌else◌}
use Rattle.standard.specs.Text.{bytes}
use Rattle.standard.specs.Encodings.{no_tables}
use Rattle.labels_spec.specs.Labels.{label, name}
use Rattle.decoder.specs.Calls.{Outcome, opening, feeding, finishing}
use Rattle.decoder.specs.declared.Decoder.{Decoder}
use Rattle.showtext.specs.Output.{first_line, after_line, count, line, refused, scalar_lines}
use Rattle.program_text.specs.Places.{Put}
use Rattle.showtext.specs.Refusals.{number}
use Rattle.showtext.specs.declared.Progress.{Progress}
use Rattle.showtext.specs.declared.Refusal.{Refusal}

-- What a buffer leaves in numbers: the decoder, a refusal number or 0, how many bytes of text there are, and the scalars so far.
pub record Shown : Type 0 where
  pub decoder : Decoder
  pub refusal : ℕ
  pub length : ℕ
  pub count : ℕ

-- The code's value, which has no refusal.
abbrev pub as_shown : Progress → Shown
as_shown p = record { decoder = p.decoder; refusal = 0; length = p.length; count = p.count }

-- What a call leaves: its answer, the room of the scalars, and the room of the text.
pub record Leaves : Type 0 where
  pub shown : Shown
  pub room : List ℕ
  pub out : List ℕ

-- What a call prints.
abbrev pub text : Leaves → List ℕ
text l = take l.shown.length l.out

-- An answer after n scalars in all, with a text put into out from a place on.
pub record Answers (d : Decoder) (n : ℕ) (out : List ℕ) (at : ℕ) (text : List ℕ) (p : Progress) (after : List ℕ) : Type 0 where
  pub decoder : p.decoder ≡ d
  pub count : p.count ≡ n
  pub put : Put out at text p.length after

-- A text written at the front of out, after n scalars in all.
abbrev pub leave : Decoder → ℕ → ℕ → List ℕ → List ℕ → List ℕ → Leaves
leave d n refusal text room out =
    record { shown = record { decoder = d; count = n; length = length text; refusal = refusal }; room = room; out = text ++ drop (length text) out }

-- This answer, room and out are what a call is to leave.
pub record Left (l : Leaves) (p : Progress) (room out : List ℕ) : Type 0 where
  pub answer : as_shown p ≡ l.shown
  pub scalars : room ≡ l.room
  pub bytes : out ≡ l.out

-- What a call is to leave is the line of this refusal.
pub record Refused (l : Leaves) (r : Refusal) : Type 0 where
  pub refusal : l.shown.refusal ≡ number r
  pub some : 0 < number r
  pub line : text l ≡ refused (number r)

abbrev pub Gives : Leaves → Result Progress Refusal → List ℕ → List ℕ → Type 0
Gives l (Ok p) room out = Left l p room out
Gives l (Err r) room out = Refused l r

-- What a call is to print stands in so many bytes at the front of out.
pub record Ends (l : Leaves) (n : ℕ) (out : List ℕ) : Type 0 where
  pub printed : take n out ≡ text l
  pub few : n ≤ length out

-- The lines of the scalars that a feed or finish wrote, n having come before.
abbrev pub lines_of : ℕ → Outcome → List ℕ
lines_of n o = scalar_lines n (take o.answer.written o.room)

-- The first buffer: the label, opening (replacing, rule drop), and the feed of the rest, with empty tables.
unfoldable pub beginning : List ℕ → List ℕ → List ℕ → Leaves
beginning input room out =
    let found = label (first_line input) in
    let d = (opening found.encoding 0 0).decoder in
    let fed = feeding d no_tables (after_line input) room in
    let a = fed.answer in
    let heading = line (bytes "encoding") (name found.encoding) in
    ltb 255 (length (first_line input)) then leave d 0 1 (refused 1) room out else
    eqb found.refusal 1 then leave d 0 1 (refused 1) room out else
    eqb a.refusal 0 then leave a.decoder a.written 0 (heading ++ lines_of 0 fed) fed.room out else
    leave d 0 a.refusal (refused a.refusal) fed.room out

-- A further buffer, after n scalars. Behind 4,294,967,295 bytes it is refused with 14.
unfoldable pub going_on : Decoder → ℕ → List ℕ → List ℕ → List ℕ → Leaves
going_on d n chunk room out =
    let fed = feeding d no_tables chunk room in
    let a = fed.answer in
    eqb a.refusal 0 then leave a.decoder (n + a.written) 0 (lines_of n fed) fed.room out else
    leave d 0 a.refusal (refused a.refusal) fed.room out

-- The end of input, after n scalars, with empty tables.
unfoldable pub closing : Decoder → ℕ → List ℕ → List ℕ → Leaves
closing d n room out =
    let last = finishing d no_tables room in
    let a = last.answer in
    let all = n + a.written in
    leave a.decoder all a.refusal (lines_of n last ++ line (bytes "end") (count all)) last.room out

-- The steps are numbered: 0 the first buffer, 1 a further one, 2 the end of input, 3 the program is over.
-- What a step leaves, after what the one before it left.
unfoldable pub turning : ℕ → Shown → List ℕ → List ℕ → List ℕ → Leaves
turning step s chunk room out =
    eqb step 0 then beginning chunk room out else
    eqb step 1 then going_on s.decoder s.count chunk room out else
    closing s.decoder s.count room out

-- The step after a step that ended with a refusal number or 0, and for which n bytes were read into a buffer of `full`. A refusal
-- ends the program, and so does the end of input; a buffer that is not full was the last one.
abbrev pub next_step : ℕ → ℕ → ℕ → ℕ → ℕ
next_step step refusal n full =
    eqb step 2 then 3 else
    eqb refusal 0 then (ltb n full then 2 else 1) else 3

-- Further buffers, and then the end of input.
unfoldable pub later : Leaves → List (List ℕ) → List ℕ
later l [] = text (closing l.shown.decoder l.shown.count l.room l.out)
later l (b ∷ bs) =
    let l' = going_on l.shown.decoder l.shown.count b l.room l.out in
    text l' ++ later l' bs

-- All that is printed for a first buffer and further ones, with a room and an out. A refusal is the only line.
unfoldable pub program : List ℕ → List ℕ → List ℕ → List (List ℕ) → List ℕ
program room out first bs =
    let l = beginning first room out in
    eqb l.shown.refusal 0 then text l ++ later l bs else text l

-- All that is printed by the steps, from one of them on, for what is read before each: a buffer, and nothing before the last step.
unfoldable pub by_step : ℕ → ℕ → Shown → List ℕ → List ℕ → List (List ℕ) → List ℕ
by_step full step s room out [] = []
by_step full step s room out (b ∷ bs) =
    let l = turning step s b room out in
    let next = next_step step l.shown.refusal (length b) full in
    text l ++ (ltb next 3 then by_step full next l.shown l.room l.out bs else [])
