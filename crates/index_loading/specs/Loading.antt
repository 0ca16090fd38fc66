-- Document 02, Ask 12: a table filled from a published index file, line by line. Assumes nothing.
use Rattle.std.specs.Prelude.{List, [], ◌∷◌, ◌++◌, ℕ, eqb}
use Rattle.standard.specs.Base.{◌then◌else◌}
use Rattle.index_spec.specs.IndexCall.{Outcome, index_line}

-- What loading leaves: the refusal of the first line at fault (8, 12, 13) or 0, and the table.
pub record Loaded : Type 0 where
  pub refusal : ℕ
  pub table : List ℕ

abbrev pub entered : Outcome → Loaded
entered o = record { refusal = o.answer.refusal; table = o.table }

-- A line that was started, and the bytes that follow: a line ends at a line feed or at the end of the file. A line at fault ends the loading.
unfoldable pub load_from : List ℕ → List ℕ → List ℕ → Loaded
load_from line table [] = entered (index_line line table)
load_from line table (b ∷ bs) =
    let o = index_line line table in
    eqb b 0x0A then (eqb o.answer.refusal 0 then load_from [] o.table bs else entered o) else
    load_from (line ++ b ∷ []) table bs

-- A file, from its first byte on.
abbrev pub loading : List ℕ → List ℕ → Loaded
loading table file = load_from [] table file
