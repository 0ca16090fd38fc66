-- The refusals of the program, and their numbers. A wrong line here would break a proof. Assumes nothing.
use Rattle.std.specs.Prelude.{◌≡◌, ℕ, ◌<◌, Result, Ok, Err}
use Rattle.mend.specs.declared.Refusal.{Refusal}
use Rattle.mend.specs.declared.Refusal.TheVariants.{Label, Table, Replacement, Length, Call}

-- The number that is printed.
abbrev pub number : Refusal → ℕ
number Label = 1
number Table = 4
number Replacement = 9
number Length = 14
number (Call n) = n

-- A result by a refusal number, which is 0 where there is none.
abbrev pub Numbered : {T : Type 0} → Result T Refusal → ℕ → Type 0
Numbered (Ok x) n = n ≡ 0
Numbered (Err r) n = (n ≡ number r) × (0 < n)
