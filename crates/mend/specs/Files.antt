-- What loading a table from a file comes to. Assumes nothing.
use Rattle.std.specs.Prelude.{◌≡◌, List, ℕ, ◌≤◌, length, Result}
use Rattle.std.specs.Io.KnownBytes.{Consumes, IsAtEnd}
use Rattle.std.specs.declared.option.Option.{Option}
use Rattle.index_loading.specs.Loading.{loading}
use Rattle.mend.specs.Refusals.{Numbered}
use Rattle.mend.specs.declared.Refusal.{Refusal}

-- A table is filled by some bytes of a file, with a room for 1,025 bytes of a line.
pub record Fills (line table : List ℕ) (refusal : ℕ) (after : List ℕ) : Type 0 where
  pub file : List ℕ
  pub loaded : 1025 ≤ length line → loading table file ≡ record { refusal = refusal; table = after }

-- These are all bytes that a reader has left.
pub record LoadsFile (old new : Option (List ℕ)) (line table : List ℕ) (refusal : ℕ) (after : List ℕ) : Type 0 where
  pub fills : Fills line table refusal after
  pub read : Consumes old new fills.file
  pub end : IsAtEnd new

-- The same with a result for the refusal number.
pub record LoadsTable {T : Type 0} (line table : List ℕ) (result : Result T Refusal) (after : List ℕ) : Type 0 where
  pub number : ℕ
  pub refusal : Numbered result number
  pub fills : Fills line table number after

pub record Loads {T : Type 0} (old new : Option (List ℕ)) (line table : List ℕ) (result : Result T Refusal) (after : List ℕ) : Type 0 where
  pub number : ℕ
  pub refusal : Numbered result number
  pub loads : LoadsFile old new line table number after
