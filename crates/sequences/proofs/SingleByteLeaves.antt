-- The single-byte encodings and x-user-defined, leaf by leaf. Assumes nothing.
use mathlib.Core.Path.{◌≡◌}
use mathlib.Core.List.{List, ◌∷◌}
use Prim.Native.Nat.{ℕ, ◌+◌, ◌-◌, ◌≤◌, ◌<◌}
use borrow.Author.Tests.{le-ltb, lt-ltb}
use Rattle.standard.specs.Sequence.{scalar, code, cell}
use Rattle.standard.specs.Sequences.SingleByte.{single_byte}
use Rattle.standard.specs.Sequences.UserDefined.{user_defined}

module _ (t : List ℕ) (b : ℕ) (xs : List ℕ) where
  pub single_ascii : b < 0x80 → single_byte t (b ∷ xs) ≡ scalar 1 b
  unfolding single_byte
  single_ascii h = rw (lt-ltb b 0x80 h)

  pub single_cell : 0x80 ≤ b → single_byte t (b ∷ xs) ≡ code 1 (cell t (b - 0x80))
  unfolding single_byte
  single_cell h = rw (le-ltb b 0x80 h)

module _ (b : ℕ) (xs : List ℕ) where
  pub user_ascii : b < 0x80 → user_defined (b ∷ xs) ≡ scalar 1 b
  unfolding user_defined
  user_ascii h = rw (lt-ltb b 0x80 h)

  pub user_high : 0x80 ≤ b → user_defined (b ∷ xs) ≡ scalar 1 (0xF780 + (b - 0x80))
  unfolding user_defined
  user_high h = rw (le-ltb b 0x80 h)
