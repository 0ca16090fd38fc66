-- A bitwise or is at least each of its numbers. Assumes nothing.
use Rattle.std.proofs.Common.{ℕ, zero, suc, ◌≤◌, ◌<◌, List, [], ◌∷◌, length, get_or, fold, bit_or, arith}
use Rattle.std.proofs.lemmas.Nat.{le_or_l, le_or_r}

pub or_left : (a b n : ℕ) → n ≤ a → n ≤ bit_or a b
or_left a b n h = omega (arith, le_or_l a b)

pub or_right : (a b : ℕ) → b ≤ bit_or a b
or_right a b = le_or_r a b

-- and the or of a list
at_least : (a : ℕ) (xs : List ℕ) → a ≤ fold bit_or a xs
at_least a [] = omega arith
at_least a (x ∷ xs) = omega (arith, le_or_l a x, at_least (bit_or a x) xs)

pub at_least_each : (a : ℕ) (xs : List ℕ) (j : ℕ) → j < length xs → get_or xs j 0 ≤ fold bit_or a xs
at_least_each a [] j h = absurd (omega arith)
at_least_each a (x ∷ xs) zero h = omega (arith, le_or_r a x, at_least (bit_or a x) xs)
at_least_each a (x ∷ xs) (suc j) h = at_least_each (bit_or a x) xs j (omega arith)
