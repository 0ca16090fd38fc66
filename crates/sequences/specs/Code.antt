-- The values of the code, as the definitions have them. Assumes nothing.
use Rattle.std.specs.Prelude.{Bool, true, false, not, List, [], ◌∷◌, ℕ, Option, Some, None, ltb, eqb, take, get_or}
use Rattle.standard.specs.Base.{◌then◌else◌, within}
use Rattle.standard.specs.Sequence.{Shift, Out, text, error, Next, more, item, shift}
use Rattle.standard.specs.Sequences.Utf8.{utf8_low, utf8_high, follows}
use Rattle.sequences.specs.declared.Sequence.{Sequence}
use Rattle.sequences.specs.declared.Out.TheVariants.{Error, Nothing, One, Two}
use Rattle.sequences.specs.declared.utf8.Beginning.{Beginning}
use Rattle.sequences.specs.declared.utf8.Beginning.TheVariants.{Right, Short, Wrong}
use Rattle.sequences.specs.declared.Out.{Out as CodeOut}
use Rattle.sequences.specs.declared.Shift.{Shift as CodeShift}

-- What a sequence gives.
abbrev pub out_of : CodeOut → Out
out_of Error = error
out_of Nothing = text []
out_of (One c) = text (c ∷ [])
out_of (Two c d) = text (c ∷ d ∷ [])

abbrev pub is_error : Out → Bool
is_error (text cs) = false
is_error error = true

-- The shift that it leaves.
abbrev pub shift_of : CodeShift → Shift
shift_of s = shift s.state s.flag

-- A whole sequence.
abbrev pub item_of : Sequence → Next
item_of q = item q.width (shift_of q.shift) (out_of q.out)

-- The sequence at the front: with none, more bytes are wanted.
abbrev pub next_of : Option Sequence → Next
next_of None = more
next_of (Some q) = item_of q

-- the first `have` of four bytes
abbrev pub front : ℕ → ℕ → ℕ → ℕ → ℕ → List ℕ
front have b0 b1 b2 b3 = take have (b0 ∷ b1 ∷ b2 ∷ b3 ∷ [])

-- how a sequence of three or four bytes begins, by its first three: wrong ones, with the width of the error, or more are wanted
unfoldable pub begun : ℕ → ℕ → ℕ → ℕ → Beginning
begun have b0 b1 b2 =
    ltb have 2 then Short else
    not (within (utf8_low b0) b1 (utf8_high b0)) then Wrong 1 else
    ltb have 3 then Short else
    follows b2 then Right else Wrong 2

-- four pointers of Big5 that give two scalars: pointer, first scalar, second scalar
abbrev pub pairs : List (List ℕ)
pairs =
    (1133 ∷ 0xCA ∷ 0x304 ∷ []) ∷
    (1135 ∷ 0xCA ∷ 0x30C ∷ []) ∷
    (1164 ∷ 0xEA ∷ 0x304 ∷ []) ∷
    (1166 ∷ 0xEA ∷ 0x30C ∷ []) ∷ []

-- the two scalars of a pointer, by rows of such
abbrev pub two_in : List (List ℕ) → ℕ → Option CodeOut
two_in [] p = None
two_in (row ∷ rows) p = eqb p (get_or row 0 0) then Some (Two (get_or row 1 0) (get_or row 2 0)) else two_in rows p
