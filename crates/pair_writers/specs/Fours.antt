-- What is told of the ranges of gb18030. Contracts of functions inside the library cite this. Assumes nothing.
use Rattle.std.specs.Prelude.{◌≡◌, Bool, true, false, List, ℕ}
use Rattle.layouts.specs.Ranges.{Ascending}

-- A flag that is set only where they are in order, by pointer and by code point.
abbrev pub Ordered : Bool → List ℕ → Type 0
Ordered ordered ranges = ordered ≡ true → Ascending false ranges × Ascending true ranges
