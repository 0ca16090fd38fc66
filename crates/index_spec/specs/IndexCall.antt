-- Document 01, "Index line" and refusals 8, 12, 13: what the index line call answers, and what it leaves in the table. Assumes nothing.
use Rattle.std.specs.Prelude.{Bool, ◌&&◌, List, ℕ, ltb, eqb, length, get_or, set}
use Rattle.standard.specs.Base.{◌then◌else◌}
use Rattle.index_spec.specs.IndexRead.{Read, no_entry, bad, entry, read}
use Rattle.index_spec.specs.declared.Line.{Line}

-- What a call leaves: its answer, and the lent table.
pub record Outcome : Type 0 where
  pub answer : Line
  pub table : List ℕ

-- No entry is made: the refusal number or 0, and the table as it was.
abbrev pub without : ℕ → List ℕ → Outcome
without n table = record { answer = record { pointer = 0; refusal = n; entry = 0 }; table = table }

-- An entry fills the cell at its pointer.
abbrev pub fill : ℕ → ℕ → List ℕ → Outcome
fill p c table = record { answer = record { pointer = p; refusal = 0; entry = 1 }; table = set table p c }

-- The pointer is below the table's length, and its cell is 0.
abbrev pub free : ℕ → List ℕ → Bool
free p table = ltb p (length table) && eqb (get_or table p 0) 0

-- 12: bad index line. 13: pointer not below the table's length, or its cell not 0.
abbrev pub enter : Read → List ℕ → Outcome
enter no_entry table = without 0 table
enter bad table = without 12 table
enter (entry p c) table = free p table then fill p c table else without 13 table

-- The index line call. 8: a line above 1,024 bytes.
unfoldable pub index_line : (line table : List ℕ) → Outcome
index_line line table = ltb 1024 (length line) then without 8 table else enter (read line) table
