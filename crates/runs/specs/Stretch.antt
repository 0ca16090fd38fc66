-- Stretches of ASCII in a chunk. Assumes nothing.
use Rattle.std.specs.Prelude.{◌≡◌, List, ℕ, ◌+◌, ◌-◌, ◌≤◌, ◌<◌, length, take, drop, get_or}
use Rattle.runs.specs.Run.{patch}

-- A stretch of k bytes below 80, copied into the room from place w on.
pub record Copied (chunk : List ℕ) (from k w : ℕ) (room room' : List ℕ) : Type 0 where
  pub inside : k ≤ length chunk - from
  pub ascii : (j : ℕ) → j < k → get_or chunk (from + j) 0 < 0x80
  pub size : length room' ≡ length room
  pub wrote : room' ≡ patch w (take k (drop from chunk)) room

-- Where the first byte is below 80, at least one is copied.
abbrev pub Begins : List ℕ → ℕ → ℕ → Type 0
Begins chunk from k = from < length chunk → get_or chunk from 0 < 0x80 → 1 ≤ k
