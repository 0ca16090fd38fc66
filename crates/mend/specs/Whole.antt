-- What the program comes to. Assumes nothing.
use Rattle.std.specs.Prelude.{◌≡◌, List, ℕ, ◌≤◌, length, replicate}
use Rattle.std.specs.declared.option.Option.{Option}
use Rattle.std.proofs.Math.Option.{Option as Optional}
use Rattle.mend_spec.specs.Mended.{mended}
use Rattle.mend.specs.Steps.{Written, Suits}

-- A buffer that has the whole label, rooms for its scalars and spans, one for a line of an index file, and a table of free cells.
pub record Provided (full : ℕ) (line table room spans : List ℕ) : Type 0 where
  pub label : 256 ≤ full
  pub rooms : Suits full room spans
  pub kept : 1025 ≤ length line
  pub free : table ≡ replicate (length table) 0

-- To both streams is written what is mended of an input, with some index file or with none.
pub record WritesMended (output output' errors errors' : Option (List ℕ)) (input : List ℕ) : Type 0 where
  pub file : Optional (List ℕ)
  pub written : Written output output' errors errors' (mended file input)
