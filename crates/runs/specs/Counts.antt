-- A run with the line feeds among the scalars that it wrote.
-- Contracts of functions inside the library cite these; no promise of a public call rests on them. Assumes nothing.
use Rattle.std.specs.Prelude.{◌≡◌, List, ℕ, ◌-◌}
use Rattle.standard.specs.Base.{line_feeds}
use Rattle.standard.specs.Encodings.{Tables, Family}
use Rattle.line_feeds.specs.Parts.{part}
use Rattle.runs.specs.Run.{placed, Run}
use Rattle.runs.specs.declared.Place.{Place}
use Rattle.runs.specs.declared.Counted.{Counted}

-- a place with a number of line feeds
abbrev pub counted : Place → ℕ → Counted
counted p l = record { at = p.at; written = p.written; lines = l; state = p.state; flag = p.flag }

pub record Counts (t : Tables) (f : Family) (m : ℕ) (chunk : List ℕ) (p : Place) (r : Counted) (room room' : List ℕ) : Type 0 where
  pub run : Run t f m chunk p (placed r.at r.written r.state r.flag) room room'
  pub lines : r.lines ≡ line_feeds (part room' p.written (r.written - p.written))
