-- What the functions between the calls and reading answer. A wrong line here would break a proof. Assumes nothing.
use Rattle.std.specs.Prelude.{◌≡◌, Bool, ◌&&◌, ◌||◌, not, List, ℕ, ◌+◌, ◌-◌, ◌/◌, ◌≤◌, eqb, Result, Ok, Err}
use Rattle.standard.specs.Base.{◌then◌else◌}
use Rattle.standard.specs.Encodings.{family, Tables, fits}
use Rattle.standard.specs.Choice.{Spot}
use Rattle.reading.specs.Reading.{leaves, read_refusal}
use Rattle.reading.specs.declared.Held.{Held}
use Rattle.reading.specs.declared.Left.{Left}
use Rattle.reading.specs.declared.Stop.{Stop}
use Rattle.reading.specs.declared.Stop.TheVariants.{Refused, Report}
use Rattle.decoder.specs.Valid.{valid}
use Rattle.decoder.specs.Record.{closed, holding}
use Rattle.decoder.specs.declared.Decoder.{Decoder}
use Rattle.decoder.specs.declared.Answer.{Answer}
use Rattle.decoder.specs.declared.refusals.Refusal.{Refusal}
use Rattle.decoder.specs.declared.refusals.Refusal.TheVariants.{UnknownEncoding, UnknownMode, TablesMisfit, InvalidRecord, Ended}

-- the number of a refusal
abbrev pub number : Refusal → ℕ
number UnknownEncoding = 2
number UnknownMode = 3
number TablesMisfit = 4
number InvalidRecord = 5
number Ended = 6

-- The record d of encoding e and mode m, after n bytes and k line feeds, stands at the spot that reading leaves, with its bytes.
abbrev pub Holds : ℕ → ℕ → ℕ → ℕ → Left → Decoder → Type 0
Holds e m n k l d = (w b : ℕ) (p : Spot) (xs : List ℕ) → l ≡ leaves w b p xs → d ≡ holding e m n k p xs

-- the answers: of a call that wrote w scalars, of a report, and of a refused call
abbrev pub accepting : ℕ → Decoder → Answer
accepting w d = record { written = w; place = 0; line = 0; refusal = 0; decoder = d }

abbrev pub reporting : ℕ → ℕ → ℕ → ℕ → ℕ → ℕ → Answer
reporting e m n k w place = record { written = w; place = place; line = 1 + k; refusal = 11; decoder = closed e m n k }

abbrev pub refusing : ℕ → Decoder → Answer
refusing n d = record { written = 0; place = 0; line = 0; refusal = n; decoder = d }

-- the bytes held, as reading takes them
abbrev pub held_in : Decoder → Held
held_in d = record { count = d.held; first = d.first; second = d.second; third = d.third }

-- the bytes that a decoder may still take
abbrev pub still_to_take : Decoder → ℕ
still_to_take d = 4294967295 - d.taken

-- UTF-16BE or UTF-16LE, and the most line feeds that an encoding gives of n bytes
abbrev pub utf16 : ℕ → Bool
utf16 e = eqb e 37 || eqb e 38

unfoldable pub most_lines : ℕ → ℕ → ℕ
most_lines e n =
    eqb e 36 then 0 else
    utf16 e then n / 2 else n

-- the refusal that a record alone gives
unfoldable pub record_refusal : Decoder → ℕ
record_refusal d =
    not (valid d) then 5 else
    eqb d.ended 1 then 6 else 0

-- the tables that are lent are looked at, and do not fit: at a finish
abbrev pub misfit : Decoder → Tables → Bool
misfit d t = eqb d.stage 1 && not (fits (family d.encoding) t)

-- The answer a of a call by what reading leaves: what was read, a report, or a refusal.
-- n: the bytes taken after the call. after: the decoder after so many line feeds, at a spot, with some bytes left.
abbrev pub Answers : Decoder → ℕ → (ℕ → Spot → List ℕ → Decoder) → Result Left Stop → Answer → Type 0
Answers d n after (Ok l) a = (w k : ℕ) (p : Spot) (xs : List ℕ) → l ≡ leaves w k p xs → a ≡ accepting w (after (d.lines + k) p xs)
Answers d n after (Err (Report w k at)) a = a ≡ reporting d.encoding d.mode n (d.lines + k) w (d.taken - d.held + at)
Answers d n after (Err (Refused r)) a = a ≡ refusing (read_refusal r) d

-- what follows a feed and a finish
abbrev pub fed : Decoder → ℕ → ℕ → Spot → List ℕ → Decoder
fed d n k p xs = holding d.encoding d.mode n k p xs

abbrev pub finished : Decoder → ℕ → Spot → List ℕ → Decoder
finished d k p xs = closed d.encoding d.mode d.taken k

-- With n bytes taken after the call: place and line of a report are no more, nor are the line feeds handed out.
pub record Fits (d : Decoder) (n at k : ℕ) : Type 0 where
  pub held : d.held ≤ d.taken
  pub place : d.taken - d.held + at ≤ n
  pub line : 1 + d.lines + k ≤ n

abbrev pub Small : Decoder → ℕ → Result Left Stop → Type 0
Small d n (Ok l) = d.lines + l.lines ≤ n
Small d n (Err (Report w k at)) = Fits d n at k
Small d n (Err (Refused r)) = Unit {0}

-- n, the bytes taken after a feed, fits 32 bits, unless the feed is refused.
abbrev pub Takes : ℕ → Result Left Stop → Type 0
Takes n (Ok l) = n ≤ 4294967295
Takes n (Err (Report w k at)) = n ≤ 4294967295
Takes n (Err (Refused r)) = Unit {0}
