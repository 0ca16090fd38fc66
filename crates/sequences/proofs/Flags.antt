-- A flag as the number that a place or a record has for it. Assumes nothing.
use mathlib.Core.Path.{◌≡◌, refl}
use mathlib.Core.Bool.{Bool, true, false}
use lib.Dec.{eqb}
use Rattle.std.specs.Int.{from_bool}

pub flag_kept : (b : Bool) → eqb (from_bool b) 1 ≡ b
flag_kept true = refl
flag_kept false = refl
