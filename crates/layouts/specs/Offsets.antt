-- The offsets of the code as those of the layouts. Contracts of functions inside the library cite this. Assumes nothing.
use Rattle.std.specs.Prelude.{Bool, ◌&&◌, ℕ, ◌+◌, leb}
use Rattle.standard.specs.Layouts.{Offset, one, two}
use Rattle.layouts.specs.declared.offset.Offset.{Offset as Code}
use Rattle.layouts.specs.declared.offset.Offset.TheVariants.{One, Two}

abbrev pub offset : Code → Offset
offset (One low) = one low
offset (Two gap low high) = two gap low high

-- Have n numbers bytes, and do both offsets serve some?
abbrev pub fits : Offset → ℕ → Bool
fits (one low) n = leb 1 n && leb (low + n) 255
fits (two gap low high) n = leb 1 gap && leb gap n && leb low high && leb (high + n) 255
