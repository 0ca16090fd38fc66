-- What the code's values stand for: the answers of a Result that the functions within the call give. Assumes nothing.
use Rattle.std.specs.Prelude.{ℕ, Result, Ok, Err}
use Rattle.clean.specs.declared.Checked.{Checked}
use Rattle.clean.specs.declared.Refusal.{Refusal}
use Rattle.clean.specs.declared.Refusal.TheVariants.{UnknownEncoding, TablesMisfit, TooLong}
use Rattle.clean.specs.declared.Unclean.{Unclean}
use Rattle.clean.specs.declared.Unclean.TheVariants.{Refused, Faulty}
use Rattle.clean.specs.Checking.{refuse, clean, faulty}

abbrev pub number : Refusal → ℕ
number UnknownEncoding = 2
number TablesMisfit = 4
number TooLong = 8

abbrev pub answered : Result Unit Unclean → Checked
answered (Ok u) = clean
answered (Err (Refused r)) = refuse (number r)
answered (Err (Faulty place line)) = faulty place line
