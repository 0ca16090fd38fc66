-- Sequences read, one after another: their widths, and what they give. Assumes nothing.
use Rattle.std.specs.Prelude.{Bool, true, false, List, [], ◌∷◌, ◌++◌, ℕ, ◌+◌}
use Rattle.standard.specs.Sequence.{Shift, Out, text, error}

-- A sequence that was read: how many bytes it has, and what it gives.
pub data Item : Type 0 where
  span : ℕ → Out → Item

-- What is read: the sequences, in order, the shift after them, and the bytes of the sequence that is not finished.
pub record Read : Type 0 where
  pub items : List Item
  pub shift : Shift
  pub rest : List ℕ

-- An error is U+FFFD in replacing mode.
abbrev pub given : Out → List ℕ
given (text cs) = cs
given error = 0xFFFD ∷ []

-- The scalars of the items, with U+FFFD for an error.
unfoldable pub shown : List Item → List ℕ
shown [] = []
shown (span w (text cs) ∷ is) = cs ++ shown is
shown (span w error ∷ is) = 0xFFFD ∷ shown is

-- Is there an error among the items? The scalars before the first error.
unfoldable pub broken : List Item → Bool
broken [] = false
broken (span w (text cs) ∷ is) = broken is
broken (span w error ∷ is) = true

unfoldable pub before : List Item → List ℕ
before [] = []
before (span w (text cs) ∷ is) = cs ++ before is
before (span w error ∷ is) = []

-- The bytes of the items, and those before the first error.
unfoldable pub widths : List Item → ℕ
widths [] = 0
widths (span w o ∷ is) = w + widths is

unfoldable pub reach : List Item → ℕ
reach [] = 0
reach (span w (text cs) ∷ is) = w + reach is
reach (span w error ∷ is) = 0
