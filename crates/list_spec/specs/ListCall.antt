-- Document 02, Ask 11: the fault of a line, the options of a list, and what the list call answers and leaves. Assumes nothing.
use Rattle.std.specs.Prelude.{Bool, true, false, not, List, [], ◌∷◌, ◌++◌, ℕ, ◌+◌, ◌/◌, ltb, eqb, length, drop}
use Rattle.standard.specs.Base.{◌then◌else◌}
use Rattle.list_spec.specs.Lines.{TAB, before, count, same, Line, lines_of, chars_of, name_of, names_of, among}
use Rattle.list_spec.specs.declared.Listed.{Listed}

-- "a known name, not empty"
unfoldable pub is_known : List ℕ → List ℕ → Bool
is_known names [] = false
is_known names (c ∷ cs) = among (c ∷ cs) (names_of names)

-- "used before": one of these lines begins before the place and has this name. (A line that is passed over has the empty name, which
-- is never asked for.)
unfoldable pub used_before : List ℕ → ℕ → List ℕ → List Line → Bool
used_before text place name [] = false
used_before text place name (m ∷ ms) =
    ltb m.start place then (same (name_of text m) name then true else used_before text place name ms) else
    used_before text place name ms

-- "16 no tab or several, 17 unknown or empty name, 18 name used before", in that order; 0 for none.
unfoldable pub fault_in : List ℕ → List ℕ → Line → ℕ
fault_in text names l =
    not (eqb (count TAB (chars_of text l)) 1) then 16 else
    not (is_known names (name_of text l)) then 17 else
    used_before text l.start (name_of text l) (lines_of text) then 18 else 0

-- "a line then empty is passed over but counted"
unfoldable pub fault_of : List ℕ → List ℕ → Line → ℕ
fault_of text names l = ltb l.start l.stop then fault_in text names l else 0

-- "the first line at fault .. with its line number"; 0 and 0 where there is none.
pub record Fault : Type 0 where
  pub refusal : ℕ
  pub line : ℕ

abbrev pub fault : ℕ → ℕ → Fault
fault r n = record { refusal = r; line = n }

unfoldable pub first_fault : List ℕ → List ℕ → List Line → Fault
first_fault text names [] = fault 0 0
first_fault text names (l ∷ ls) =
    eqb (fault_of text names l) 0 then first_fault text names ls else fault (fault_of text names l) l.number

abbrev pub fault_of_list : List ℕ → List ℕ → Fault
fault_of_list text names = first_fault text names (lines_of text)

-- The lines that are not passed over; those of a text are its options.
unfoldable pub kept : List Line → List Line
kept [] = []
kept (l ∷ ls) = ltb l.start l.stop then l ∷ kept ls else kept ls

abbrev pub options_of : List ℕ → List Line
options_of text = kept (lines_of text)

-- "five 64-bit cells: its line number from 1, the places (from 0) where the name starts and just after it ends, then the value's two"
unfoldable pub cells_of : List ℕ → Line → List ℕ
cells_of text l =
    let tab = l.start + before TAB (chars_of text l) in
    l.number ∷ l.start ∷ tab ∷ (tab + 1) ∷ l.stop ∷ []

-- "handed out once, in order"
unfoldable pub cells : List ℕ → List Line → List ℕ
cells text [] = []
cells text (l ∷ ls) = cells_of text l ++ cells text ls

-- What the call leaves: its answer, and every cell of the lent room.
pub record Outcome : Type 0 where
  pub answer : Listed
  pub room : List ℕ

abbrev pub listed : ℕ → ℕ → ℕ → Listed
listed options n refusal = record { options = options; line = n; refusal = refusal }

-- A refusal hands out nothing and leaves the room as it was.
abbrev pub refuse : ℕ → ℕ → List ℕ → Outcome
refuse r n room = record { answer = listed 0 n r; room = room }

-- The options at the front of the room; the cells behind them as they were.
abbrev pub hand_out : List ℕ → List ℕ → Outcome
hand_out text room =
    let out = cells text (options_of text) in
    record { answer = listed (length (options_of text)) 0 0; room = out ++ drop (length out) room }

-- The list call: 16, 17, 18; "then 7 exactly when the lent room holds fewer options than a faultless list has".
unfoldable pub list_call : (text names room : List ℕ) → Outcome
list_call text names room =
    let f = fault_of_list text names in
    not (eqb f.refusal 0) then refuse f.refusal f.line room else
    ltb (length room / 5) (length (options_of text)) then refuse 7 0 room else
    hand_out text room
