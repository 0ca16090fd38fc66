-- 02, Ask 8: the size of an index, building one, and an index line with an index. 15: an index of the wrong length. Assumes nothing.
use Rattle.std.specs.Prelude.{List, ℕ, ◌+◌, ltb, eqb, length, get_or}
use Rattle.standard.specs.Base.{◌then◌else◌}
use Rattle.standard.specs.Encodings.{family, traits}
use Rattle.index_spec.specs.IndexCall.{Outcome, index_line}
use Rattle.index_spec.specs.declared.Line.{Line}
use Rattle.reverse_index_spec.specs.ReverseIndex.{fits, build, insert}

-- The cells of an index of a table of n cells. A table of 2^32 cells or more has no index; 0 is answered.
unfoldable pub index_size : ℕ → ℕ
index_size n = ltb n 0x100000000 then n + n else 0

-- What building leaves: the refusal number or 0, and every cell of the lent index.
pub record Built : Type 0 where
  pub refusal : ℕ
  pub index : List ℕ

abbrev pub unbuilt : ℕ → List ℕ → Built
unbuilt n index = record { refusal = n; index = index }

-- Building, told the encoding and lent its first table: 2, 4, 15.
unfoldable pub building : ℕ → List ℕ → List ℕ → Built
building e table index =
    ltb 39 e then unbuilt 2 index else
    eqb (length table) (traits (family e)).first then (
    fits (length table) (length index) then record { refusal = 0; index = build table } else
    unbuilt 15 index) else
    unbuilt 4 index

-- What an index line with an index leaves: its answer, the lent table and the lent index.
pub record Indexed : Type 0 where
  pub answer : Line
  pub table : List ℕ
  pub index : List ℕ

-- the index after an index line: with the entry, where the line made one
abbrev pub index_after : Outcome → List ℕ → List ℕ
index_after o index =
    eqb o.answer.entry 1 then insert (length o.table) index o.answer.pointer (get_or o.table o.answer.pointer 0) else index

-- The index line call with an index: 15, then as the index line call.
unfoldable pub indexed_line : (line table index : List ℕ) → Indexed
indexed_line line table index =
    fits (length table) (length index) then record {
      answer = (index_line line table).answer;
      table = (index_line line table).table;
      index = index_after (index_line line table) index;
    } else record { answer = record { pointer = 0; refusal = 15; entry = 0 }; table = table; index = index }
