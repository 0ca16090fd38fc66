-- A text written into a room of bytes. Assumes nothing.
use Rattle.std.specs.Prelude.{◌≡◌, List, ℕ, ◌+◌, ◌≤◌, ◌<◌, length}
use Rattle.std.proofs.lemmas.List.Edits.{sets}

-- A text stands in the room from a place on, the rest of the room is as it was, and `next` is the place behind it.
pub record Put (room : List ℕ) (at : ℕ) (text : List ℕ) (next : ℕ) (after : List ℕ) : Type 0 where
  pub behind : next ≡ at + length text
  pub stands : after ≡ sets room at text

-- A text that is put where the room has `need` bytes from a place on; else nothing is.
pub record Puts (room : List ℕ) (at need : ℕ) (text : List ℕ) (next : ℕ) (after : List ℕ) : Type 0 where
  pub put : at + need ≤ length room → Put room at text next after
  pub none : length room < at + need → (next ≡ at) × (after ≡ room)
