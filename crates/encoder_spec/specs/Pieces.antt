-- Scalars written in pieces, the state going from piece to piece: what one piece writes, for any writer of single scalars. Assumes nothing.
use Rattle.std.specs.Prelude.{◌≡◌, List, [], ◌∷◌, ◌++◌, ℕ, length}
use Rattle.std.proofs.Math.Option.{some, none}
use Rattle.standard.specs.Ones.{One}
use Rattle.encoder_spec.specs.Writing.{Writing, nothing, onward, writing}

-- A writing of n scalars and the one after it, from the state that it left: nothing is written after a report.
abbrev pub follow : ℕ → Writing → (ℕ → Writing) → Writing
follow n w v = elim w.unwritable [ none ↦ onward n w.bytes (v w.state) | some f ↦ w ]

unfoldable pub in_pieces : (ℕ → ℕ → One) → ℕ → ℕ → List (List ℕ) → Writing
in_pieces one m s [] = nothing s
in_pieces one m s (cs ∷ css) = follow (length cs) (writing one m s cs) (λ s'. in_pieces one m s' css)

unfoldable pub joined : List (List ℕ) → List ℕ
joined [] = []
joined (cs ∷ css) = cs ++ joined css

-- Over any cutting of the scalars: the same bytes, the same state, and the same first report with its index and the code point named.
abbrev pub Cutting : Type 0
Cutting = (one : ℕ → ℕ → One) (m s : ℕ) (css : List (List ℕ)) → in_pieces one m s css ≡ writing one m s (joined css)
