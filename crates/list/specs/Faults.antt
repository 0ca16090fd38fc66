-- The refusal numbers of the faults of a line. Assumes nothing.
use Rattle.std.specs.Prelude.{ℕ, Result, Ok, Err}
use Rattle.list.specs.declared.fault.Fault.{Fault}
use Rattle.list.specs.declared.fault.Fault.TheVariants.{NotOneTab, UnknownName, UsedName}

abbrev pub number_of : Fault → ℕ
number_of NotOneTab = 16
number_of UnknownName = 17
number_of UsedName = 18

-- 0 where there is none
abbrev pub refusal_of : {T : Type 0} → Result T Fault → ℕ
refusal_of (Ok x) = 0
refusal_of (Err f) = number_of f
