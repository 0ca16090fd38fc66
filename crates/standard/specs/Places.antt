-- The law of places: the bytes before the first error, by 000's machine alone. `proofs/Places.antt` proves it. Assumes nothing.
use Rattle.std.specs.Prelude.{◌≡◌, List, ℕ, take}
use Rattle.std.proofs.Math.Option.{some}
use Rattle.standard.specs.Encodings.{Tables, Family}
use Rattle.standard.specs.Machine.{fatal, finished}
use Rattle.standard.specs.Standard.{standard, standard_place}
use Rattle.standard.specs.Sequence.{plain}
use Rattle.standard.specs.Decode.{before, reach, everything}

-- Of an input with an error:
pub record Places (t : Tables) (f : Family) (xs : List ℕ) : Type 0 where
  -- the sequences before the first error are the longest front that 000's machine reads without one
  pub place : standard_place t f xs ≡ reach (everything t f plain xs)
  -- and for that front it puts out what they give: the line of the error is one plus the line feeds of this
  pub front : standard t f fatal (take (standard_place t f xs) xs) ≡ some (record { result = finished; output = before (everything t f plain xs) })
