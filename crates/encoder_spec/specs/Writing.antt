-- Writing some scalars from a state, scalar after scalar, in both modes; over any writer of single scalars. Assumes nothing.
use Rattle.std.specs.Prelude.{List, [], ◌∷◌, ◌++◌, ℕ, ◌+◌, eqb}
use Rattle.std.proofs.Math.Option.{Option, some, none}
use Rattle.standard.specs.Base.{◌then◌else◌}
use Rattle.standard.specs.Machine.{reference}
use Rattle.standard.specs.Ones.{One}

-- Where writing stopped: the scalar's index, and the code point that the error names.
pub record Fault : Type 0 where
  pub index : ℕ
  pub code_point : ℕ

-- What is written of some scalars, the state after it, and the first unwritable one where it stopped.
pub record Writing : Type 0 where
  pub bytes : List ℕ
  pub state : ℕ
  pub unwritable : Option Fault

abbrev pub nothing : ℕ → Writing
nothing s = record { bytes = []; state = s; unwritable = none }

-- n scalars later
abbrev pub later : ℕ → Option Fault → Option Fault
later n none = none
later n (some f) = some (record { index = n + f.index; code_point = f.code_point })

-- some bytes in front, for n scalars
abbrev pub onward : ℕ → List ℕ → Writing → Writing
onward n bs w = record { bytes = bs ++ w.bytes; state = w.state; unwritable = later n w.unwritable }

-- An unwritable scalar, with the bytes before its error, the state then, and the code point named.
-- Mode 1, refusing: it stops. Mode 0, html: a reference to the code point named is written.
abbrev pub unwritten : ℕ → List ℕ → ℕ → ℕ → Writing → Writing
unwritten m bs s n w =
    eqb m 1 then record { bytes = bs; state = s; unwritable = some (record { index = 0; code_point = n }) } else
    onward 1 (bs ++ reference n) w

-- one scalar in front of a writing
abbrev pub ahead : ℕ → One → Writing → Writing
ahead m o w = elim o.named [ none ↦ onward 1 o.bytes w | some n ↦ unwritten m o.bytes o.state n w ]

unfoldable pub writing : (ℕ → ℕ → One) → ℕ → ℕ → List ℕ → Writing
writing one m s [] = nothing s
writing one m s (c ∷ cs) = ahead m (one s c) (writing one m (one s c).state cs)
