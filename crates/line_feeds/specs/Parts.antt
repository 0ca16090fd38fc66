-- A part of a list: n elements from a place on, as many as there are. Assumes nothing.
use Rattle.std.specs.Prelude.{List, ℕ, take, drop}

abbrev pub part : List ℕ → ℕ → ℕ → List ℕ
part xs from n = take n (drop from xs)
