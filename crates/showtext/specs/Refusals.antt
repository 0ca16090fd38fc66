-- The refusals of the program, and their numbers. A wrong line here would break a proof. Assumes nothing.
use Rattle.std.specs.Prelude.{ℕ}
use Rattle.showtext.specs.declared.Refusal.{Refusal}
use Rattle.showtext.specs.declared.Refusal.TheVariants.{Label, Feed}

-- The number that is printed.
abbrev pub number : Refusal → ℕ
number Label = 1
number (Feed n) = n
