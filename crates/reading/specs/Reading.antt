-- What reading leaves of the bytes held and a chunk, and at the end of input. Contracts of functions inside the library cite these;
-- no promise of a public call rests on them. Assumes nothing.
use Rattle.std.specs.Prelude.{Bool, true, false, ◌&&◌, Option, None, Some, List, [], ◌∷◌, ◌++◌, ℕ, ◌+◌, ltb, eqb, length, get_or, take, drop, Result, Ok, Err}
use Rattle.standard.specs.Base.{◌then◌else◌, line_feeds}
use Rattle.standard.specs.Encodings.{Tables, family}
use Rattle.standard.specs.Sequence.{shift, plain}
use Rattle.standard.specs.Items.{Item, shown, broken, before, reach}
use Rattle.standard.specs.Next.{next}
use Rattle.standard.specs.Decode.{decode}
use Rattle.standard.specs.Choice.{Choice, waiting, label, marked, choose, reader, Spot, spot, Parsed, lift, eaten, read_from, end_from}
use Rattle.runs.specs.Run.{patch}
use Rattle.reading.specs.declared.choice.Chosen.{Chosen}
use Rattle.reading.specs.declared.choice.Chosen.TheVariants.{Waits, Label, Marked}
use Rattle.reading.specs.declared.feed.Start.{Start}
use Rattle.reading.specs.declared.Held.{Held}
use Rattle.reading.specs.declared.Left.{Left}
use Rattle.reading.specs.declared.Refusal.{Refusal}
use Rattle.reading.specs.declared.Refusal.TheVariants.{TooManyHeld, RoomTooSmall, ChunkTooLong, TotalTooLarge}
use Rattle.reading.specs.declared.Stop.{Stop}
use Rattle.reading.specs.declared.Stop.TheVariants.{Refused, Report}

-- the bytes held, and at most three bytes as bytes held
abbrev pub bytes_of : Held → List ℕ
bytes_of held = take held.count (held.first ∷ held.second ∷ held.third ∷ [])

abbrev pub hold : List ℕ → Held
hold xs = record { count = length xs; first = get_or xs 0 0; second = get_or xs 1 0; third = get_or xs 2 0 }

-- what the first bytes choose, as the code has it
abbrev pub chosen_of : Choice → Chosen
chosen_of waiting = Waits
chosen_of label = Label
chosen_of (marked w g) = Marked w g

-- Where reading starts: at a stage and a shift, or behind what the first bytes choose; nowhere while they wait.
abbrev pub behind_mark : ℕ → Chosen → Option Start
behind_mark e Waits = None
behind_mark e Label = Some (record { reads = e; stage = 0; mark = 0; state = 0; flag = 0 })
behind_mark e (Marked w g) = Some (record { reads = reader e g; stage = g; mark = w; state = 0; flag = 0 })

abbrev pub at_spot : ℕ → ℕ → ℕ → ℕ → Start
at_spot e stage state flag = record { reads = reader e stage; stage = stage; mark = 0; state = state; flag = flag }

abbrev pub start_of : ℕ → ℕ → ℕ → ℕ → List ℕ → Option Start
start_of e stage state flag xs =
    eqb stage 1 then behind_mark e (chosen_of (choose xs)) else Some (at_spot e stage state flag)

-- 1 for yes, 0 for no
abbrev pub bit : Bool → ℕ
bit true = 1
bit false = 0

-- the number of a refusal
abbrev pub read_refusal : Refusal → ℕ
read_refusal TooManyHeld = 5
read_refusal RoomTooSmall = 7
read_refusal ChunkTooLong = 8
read_refusal TotalTooLarge = 14

-- what is left after w scalars, k line feeds among them
abbrev pub leaves : ℕ → ℕ → Spot → List ℕ → Left
leaves w k p xs = record {
  written = w;
  lines = k;
  stage = p.stage;
  state = p.shift.state;
  flag = bit p.shift.flag;
  held = hold xs;
}

-- What is left, or why nothing is, and every cell of the room.
pub record ReadOutcome : Type 0 where
  pub left : Result Left Stop
  pub room : List ℕ

-- where nothing was read; where an error is reported behind so many bytes; and where all was read
abbrev pub refused : Refusal → List ℕ → ReadOutcome
refused r room = record { left = Err (Refused r); room = room }

abbrev pub reported : ℕ → List ℕ → List ℕ → ReadOutcome
reported place cs room = record { left = Err (Report (length cs) (line_feeds cs) place); room = cs ++ drop (length cs) room }

abbrev pub wrote : List ℕ → Spot → List ℕ → List ℕ → ReadOutcome
wrote cs p xs room = record { left = Ok (leaves (length cs) (line_feeds cs) p xs); room = cs ++ drop (length cs) room }

-- In mode 1 an error is reported: what stands before it is written. Else all is written.
abbrev pub handed : ℕ → Parsed → List ℕ → ReadOutcome
handed m r room =
    eqb m 1 && broken r.items then reported (reach r.items) (before r.items) room else
    wrote (shown r.items) r.spot r.rest room

-- What stands behind so many bytes of a mark, read by encoding e from a shift, where chunk and room are as they must be.
abbrev pub past : ℕ → ℕ → ℕ → ℕ → ℕ → Held → ℕ → Tables → List ℕ → List ℕ → ReadOutcome
past e m stage state flag held w t chunk room =
    handed m (eaten w (lift stage (decode (next t (family e)) (shift state (eqb flag 1)) (drop w (bytes_of held ++ chunk))))) room

-- The bytes held and then a chunk, from a spot, where chunk and room are as they must be.
abbrev pub reached : ℕ → ℕ → ℕ → ℕ → ℕ → Held → Tables → List ℕ → List ℕ → ReadOutcome
reached e m stage state flag held t chunk room =
    handed m (read_from t e (spot stage (shift state (eqb flag 1))) (bytes_of held ++ chunk)) room

-- A chunk, where at most so many bytes may be read: the refusals in the order of their tests, then an error.
unfoldable pub read_chunk : ℕ → ℕ → ℕ → ℕ → ℕ → Held → ℕ → Tables → List ℕ → List ℕ → ReadOutcome
read_chunk e m stage state flag held most t chunk room =
    ltb 3 held.count then refused TooManyHeld room else
    ltb 65536 (length chunk) then refused ChunkTooLong room else
    ltb most (length chunk) then refused TotalTooLarge room else
    ltb (length room) (length chunk + held.count) then refused RoomTooSmall room else
    reached e m stage state flag held t chunk room

-- What the last items give behind w scalars, k line feeds among them, with so many bytes read before them.
abbrev pub behind : ℕ → ℕ → ℕ → ℕ → List Item → List ℕ → ReadOutcome
behind m at w k is room =
    eqb m 1 && broken is then record {
      left = Err (Report (w + length (before is)) (k + line_feeds (before is)) (at + reach is));
      room = patch w (before is) room;
    } else record {
      left = Ok (leaves (w + length (shown is)) (k + line_feeds (shown is)) (spot 0 plain) []);
      room = patch w (shown is) room;
    }

-- The end of input, where the room is as it must be; and with the refusals before it.
abbrev pub ends : ℕ → ℕ → ℕ → ℕ → ℕ → Held → Tables → List ℕ → ReadOutcome
ends e m stage state flag held t room =
    handed m (record { items = end_from t e (spot stage (shift state (eqb flag 1))) (bytes_of held); spot = spot 0 plain; rest = [] }) room

unfoldable pub read_end : ℕ → ℕ → ℕ → ℕ → ℕ → Held → Tables → List ℕ → ReadOutcome
read_end e m stage state flag held t room =
    ltb 3 held.count then refused TooManyHeld room else
    ltb (length room) held.count then refused RoomTooSmall room else
    ends e m stage state flag held t room
