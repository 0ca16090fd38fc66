-- replacement, leaf by leaf. Assumes nothing.
use mathlib.Core.Path.{◌≡◌}
use mathlib.Core.Bool.{true, false}
use mathlib.Core.List.{List, [], ◌∷◌}
use Prim.Native.Nat.{ℕ}
use Rattle.standard.specs.Sequence.{Shift, text, error, item, shift}
use Rattle.standard.specs.Sequences.Replacement.{replacement}

module _ (s : Shift) (b : ℕ) (xs : List ℕ) where
  pub replacement_given : s.flag ≡ true → replacement s (b ∷ xs) ≡ item 1 (shift 0 true) (text [])
  unfolding replacement
  replacement_given h = rw h

  pub replacement_first : s.flag ≡ false → replacement s (b ∷ xs) ≡ item 1 (shift 0 true) error
  unfolding replacement
  replacement_first h = rw h
