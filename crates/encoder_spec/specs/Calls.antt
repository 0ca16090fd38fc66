-- 02, Ask 6: lists of the writer's calls, the state going from call to call; over any cutting they leave what one piece is. Assumes nothing.
use Rattle.std.specs.Prelude.{◌≡◌, Bool, true, ◌&&◌, ◌||◌, List, [], ◌∷◌, ◌++◌, ℕ, ◌+◌, eqb, length, take}
use Rattle.std.proofs.Math.Option.{Option, some, none}
use Rattle.standard.specs.Base.{◌then◌else◌}
use Rattle.standard.specs.Encodings.{Tables}
use Rattle.standard.specs.Search.{Lookup}
use Rattle.standard.specs.Writers.{Writer}
use Rattle.standard.specs.Ones.{One}
use Rattle.encoder_spec.specs.Writing.{Fault, Writing, writing}
use Rattle.encoder_spec.specs.Writer.{Outcome, lent_one, call_by, writer_call}

-- A call of a list: its scalars, and its room. The list has one encoding, one mode and the same tables throughout: what such a call
-- leaves, from a state, is a function of these two.
pub record Piece : Type 0 where
  pub scalars : List ℕ
  pub room : List ℕ

abbrev pub Calling : Type 0
Calling = ℕ → Piece → Outcome

-- by a look-up, and by a search of the first table
abbrev pub calls_by : Lookup → Bool → ℕ → ℕ → Tables → Calling
calls_by look right e m t s p = call_by look right e m s t p.scalars p.room

abbrev pub calls_of : ℕ → ℕ → Tables → Calling
calls_of e m t s p = writer_call e m s t p.scalars p.room

unfoldable pub all_scalars : List Piece → List ℕ
all_scalars [] = []
all_scalars (p ∷ ps) = p.scalars ++ all_scalars ps

-- what a call wrote, at the front of its room
abbrev pub written : Outcome → List ℕ
written o = take o.answer.written o.room

-- What the calls up to the first report 11 leave: what they wrote, joined; the state; and the scalar of the report, counted from the first
-- scalar of the list.
pub record Account : Type 0 where
  pub output : List ℕ
  pub state : ℕ
  pub report : Option ℕ

abbrev pub counted : ℕ → Option ℕ → Option ℕ
counted n none = none
counted n (some i) = some (n + i)

-- a call of n scalars, and those after it
abbrev pub and_then : ℕ → Outcome → Account → Account
and_then n o r =
    eqb o.answer.refusal 11 then
    record { output = written o; state = o.answer.state; report = some o.answer.index } else
    record { output = written o ++ r.output; state = r.state; report = counted n r.report }

unfoldable pub account : Calling → ℕ → List Piece → Account
account call s [] = record { output = []; state = s; report = none }
account call s (p ∷ ps) = and_then (length p.scalars) (call s p) (account call (call s p).answer.state ps)

-- No call up to the first report 11 is refused.
unfoldable pub accepted : Calling → ℕ → List Piece → Bool
accepted call s [] = true
accepted call s (p ∷ ps) =
    eqb (call s p).answer.refusal 11 || (eqb (call s p).answer.refusal 0 && accepted call (call s p).answer.state ps)

-- what the writing in one piece is, in the same words
abbrev pub index_of : Option Fault → Option ℕ
index_of none = none
index_of (some f) = some f.index

abbrev pub one_piece : Writing → Account
one_piece w = record { output = w.bytes; state = w.state; report = index_of w.unwritable }

-- Over any cutting of the scalars into accepted calls, for every writer of single scalars, from any state:
pub record CutBy (call : Calling) (one : ℕ → ℕ → One) (m s : ℕ) (ps : List Piece) : Type 0 where
  -- joined output, state and report are those of the scalars written in one piece
  pub as_one_piece : account call s ps ≡ one_piece (writing one m s (all_scalars ps))
  -- and so those of any other cutting
  pub as_another : (qs : List Piece) → all_scalars qs ≡ all_scalars ps → accepted call s qs ≡ true → account call s qs ≡ account call s ps

-- The writer's calls, for every writer.
abbrev pub CutCalls : Writer → ℕ → ℕ → Tables → ℕ → List Piece → Type 0
CutCalls w e m t s ps = CutBy (calls_of e m t) (lent_one w t) m s ps
