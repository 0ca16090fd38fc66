-- Document 02, Ask 12: the sequences that are replaced by U+FFFD, each with its place and the number of bytes given up. Assumes nothing.
use Rattle.std.specs.Prelude.{List, [], ◌∷◌, ℕ, ◌+◌}
use Rattle.standard.specs.Sequence.{text, error}
use Rattle.standard.specs.Items.{Item, span}

-- The bytes before its first byte, and its bytes. Bytes put back are not given up: they are no part of its width.
pub record Replaced : Type 0 where
  pub place : ℕ
  pub width : ℕ

-- The errors among the items, in order, where n bytes stand before them. A U+FFFD that is text is none.
unfoldable pub replaced : ℕ → List Item → List Replaced
replaced n [] = []
replaced n (span w (text cs) ∷ is) = replaced (n + w) is
replaced n (span w error ∷ is) = record { place = n; width = w } ∷ replaced (n + w) is

-- Two cells for each: its place and its width.
unfoldable pub cells : List Replaced → List ℕ
cells [] = []
cells (r ∷ rs) = r.place ∷ r.width ∷ cells rs
