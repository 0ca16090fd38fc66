-- The steps of the code over the lines of a list, as functions. Nothing here is part of what a list means. Assumes nothing.
use Rattle.std.specs.Prelude.{◌≡◌, false, List, [], ◌∷◌, ◌++◌, ℕ, ◌+◌, ◌<◌, ◌≤◌, length, take, drop, Result, Ok, Err}
use Rattle.standard.specs.Base.{◌then◌else◌}
use Rattle.list_spec.specs.Lines.{TAB, before, Line, line, chars_of, lines_from, lines_of, names_of, among}
use Rattle.list_spec.specs.ListCall.{used_before, fault, fault_of_list, options_of}
use Rattle.list.specs.Faults.{number_of}
use Rattle.list.specs.declared.fault.FaultyLine.{FaultyLine}

-- A line by its number, its start and its characters, and whether it lies in a text.
abbrev pub line_with : ℕ → ℕ → List ℕ → Line
line_with n a chars = line n a (a + length chars)

pub record InText (text : List ℕ) (l : Line) (chars : List ℕ) : Type 0 where
  pub within : l.stop ≤ length text
  pub are : chars ≡ chars_of text l

-- The line n from the place a on, by its number, its start and its characters; and the number and the place of the line behind it.
pub record LineAt (text : List ℕ) (n a number start : ℕ) (chars : List ℕ) (n' a' : ℕ) : Type 0 where
  pub starts : start ≡ a
  pub lies : InText text (line_with number start chars) chars
  pub behind : start + length chars < a'
  pub near : a' ≤ length text + 1
  pub turn : lines_from n a a false (drop a text) ≡ line_with number start chars ∷ lines_from n' a' a' false (drop a' text)

-- The fault of a name that is not empty, in the line from a on.
unfoldable pub name_fault : List ℕ → List ℕ → ℕ → List ℕ → ℕ
name_fault text names a x = among x (names_of names) then (used_before text a x (lines_of text) then 18 else 0) else 17

-- What judging a list gives: the number of options, or the first line at fault.
abbrev pub Judged : List ℕ → List ℕ → Result ℕ FaultyLine → Type 0
Judged text names (Ok options) = (fault_of_list text names ≡ fault 0 0) × (options ≡ length (options_of text))
Judged text names (Err e) = fault_of_list text names ≡ fault (number_of e.fault) e.line

-- The cells of a line, by its number, its start and its characters.
abbrev pub line_cells : ℕ → ℕ → List ℕ → List ℕ
line_cells n a chars = let tab = a + before TAB chars in n ∷ a ∷ tab ∷ (tab + 1) ∷ (a + length chars) ∷ []

-- The room with these cells from o on.
abbrev pub put : List ℕ → ℕ → List ℕ → List ℕ
put room o out = take o room ++ (out ++ drop (o + length out) room)
