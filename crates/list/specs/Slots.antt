-- How a known name is found in little time: slots, each 0 or one plus the place where a known name begins, and a mark for each slot.
-- Nothing here is part of what a list means. Assumes nothing.
use Rattle.std.specs.Prelude.{◌≡◌, Bool, true, false, not, List, [], ◌∷◌, ℕ, zero, suc, ◌+◌, ◌-◌, ◌*◌, ◌/◌, ◌%◌, ◌<◌, ltb, eqb, length, get_or, set, drop, Option, Some, None}
use Rattle.standard.specs.Base.{◌then◌else◌}
use Rattle.list_spec.specs.Lines.{LF, same, Line, lines_of, name_of, names_of}
use Rattle.list_spec.specs.ListCall.{used_before}

-- The slot, of n, at which the search for these characters begins.
unfoldable pub hash_from : ℕ → List ℕ → ℕ
hash_from h [] = h
hash_from h (c ∷ cs) = hash_from ((h + c) * 1327217885 % 4294967296) cs

unfoldable pub slot_of : ℕ → List ℕ → ℕ
slot_of n x = hash_from 0 x * n / 4294967296

-- A name begins at p: at the front, or behind a line feed.
unfoldable pub starts_at : List ℕ → ℕ → Bool
starts_at names p = not (ltb p (length names)) then false else eqb p 0 then true else eqb (get_or names (p - 1) 0) LF

-- Is x the first of these names?
unfoldable pub is_first : List ℕ → List (List ℕ) → Bool
is_first x [] = false
is_first x (y ∷ ys) = same y x

-- x is the known name that begins at p.
unfoldable pub name_at : List ℕ → ℕ → List ℕ → Bool
name_at names p x = starts_at names p then is_first x (names_of (drop p names)) else false

-- The slot of x, looked for from j on in at most k slots. Whatever the slots hold.
unfoldable pub look_from : List ℕ → List ℕ → List ℕ → ℕ → ℕ → Option ℕ
look_from slots names x zero j = None
look_from slots names x (suc k) j =
    eqb (get_or slots j 0) 0 then None else
    name_at names (get_or slots j 0 - 1) x then Some j else
    look_from slots names x k ((j + 1) % length slots)

unfoldable pub look_of : List ℕ → List ℕ → List ℕ → Option ℕ
look_of slots names x = look_from slots names x (length slots) (slot_of (length slots) x)

-- The marks say of every name with a slot whether it stands in a line that begins before the place. The empty name is left out: an empty
-- line has it.
unfoldable pub Marked : List ℕ → List ℕ → List ℕ → List Bool → ℕ → Type 0
Marked text names slots marks to =
    (x : List ℕ) (j : ℕ) → 0 < length x → look_of slots names x ≡ Some j → j < length marks →
    used_before text to x (lines_of text) ≡ get_or marks j false

-- A slot, marked; nothing, where there is none.
unfoldable pub mark : Option ℕ → List Bool → List Bool
mark None marks = marks
mark (Some j) marks = set marks j true

-- The marks after a line.
unfoldable pub mark_of : List ℕ → List ℕ → List ℕ → List Bool → Line → List Bool
mark_of text names slots marks l = ltb l.start l.stop then mark (look_of slots names (name_of text l)) marks else marks
