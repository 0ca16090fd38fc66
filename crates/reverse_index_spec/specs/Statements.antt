-- What is proved of a reverse index. Assumes nothing.
use Rattle.std.specs.Prelude.{◌≡◌, ◌↔◌, true, false, List, [], ℕ, ◌≤◌, ◌<◌, length, get_or, set}
use Rattle.std.proofs.Math.Option.{none}
use Rattle.standard.specs.Base.{mapped}
use Rattle.standard.specs.Encodings.{family, traits}
use Rattle.standard.specs.Search.{PassedOver, Side, search, Lookup, searching, Sound}
use Rattle.index_spec.specs.IndexCall.{index_line}
use Rattle.reverse_index_spec.specs.ReverseIndex.{True, fits, build, insert, look_up}
use Rattle.reverse_index_spec.specs.Calls.{index_size, building, indexed_line}

-- There is one true index: what building gives. An entry in a free cell, and an index line whatever it is, leave the table's true index.
pub record StaysTrue (table index : List ℕ) : Type 0 where
  pub built : True table (build table)
  pub only : True table index → index ≡ build table
  pub entry : True table index → (p c : ℕ) → p < length table → get_or table p 0 ≡ 0 → mapped c ≡ true →
      True (set table p c) (insert (length table) index p c)
  pub line : True table index → (line : List ℕ) → True (indexed_line line table index).table (indexed_line line table index).index

-- Look-ups that miss alike: nothing is found by one exactly where nothing is found by the other.
pub record MissAlike (look look' : Lookup) : Type 0 where
  pub misses : (side : Side) (over : PassedOver) (c : ℕ) → (look side over c ≡ none) ↔ (look' side over c ≡ none)

-- The look-up by an index. The true one gives the pointer of the full search, for every number, first or last, whatever is passed over.
-- By any cells: a pointer that is given counts, and nothing is found exactly where the full search finds nothing. No cells: the full search.
pub record LooksUp (table index : List ℕ) : Type 0 where
  pub by_true : True table index → (side : Side) (over : PassedOver) (c : ℕ) → look_up table index side over c ≡ search side over table c
  pub sound : Sound (look_up table index) table
  pub alike : MissAlike (look_up table index) (searching table)
  pub no_cells : (side : Side) (over : PassedOver) (c : ℕ) → look_up table [] side over c ≡ search side over table c

-- Building: 2, 4, 15 in this order, and the lent cells as they were; else every cell is that of the true index.
pub record Builds (e : ℕ) (table index : List ℕ) : Type 0 where
  pub unknown : 39 < e → ((building e table index).refusal ≡ 2) × ((building e table index).index ≡ index)
  pub wrong_table : e ≤ 39 → (length table ≡ (traits (family e)).first → ⊥) →
      ((building e table index).refusal ≡ 4) × ((building e table index).index ≡ index)
  pub wrong_index : e ≤ 39 → length table ≡ (traits (family e)).first → (length index ≡ index_size (length table) → ⊥) →
      ((building e table index).refusal ≡ 15) × ((building e table index).index ≡ index)
  pub true_index : e ≤ 39 → length table ≡ (traits (family e)).first → length index ≡ index_size (length table) →
      ((building e table index).refusal ≡ 0) × True table (building e table index).index

-- An index line with an index: 15, with nothing altered; else the index line call. A line that makes no entry leaves the index.
pub record IndexedLines (line table index : List ℕ) : Type 0 where
  pub wrong_index : fits (length table) (length index) ≡ false → ((indexed_line line table index).answer.refusal ≡ 15) ×
      ((indexed_line line table index).table ≡ table) × ((indexed_line line table index).index ≡ index)
  pub as_without : fits (length table) (length index) ≡ true → ((indexed_line line table index).answer ≡ (index_line line table).answer) ×
      ((indexed_line line table index).table ≡ (index_line line table).table)
  pub no_entry : (indexed_line line table index).answer.entry ≡ 0 →
      ((indexed_line line table index).table ≡ table) × ((indexed_line line table index).index ≡ index)

-- Whatever is asked and lent, lent cells keep their number.
pub record CellsKept : Type 0 where
  pub built : (e : ℕ) (table index : List ℕ) → length (building e table index).index ≡ length index
  pub tables : (line table index : List ℕ) → length (indexed_line line table index).table ≡ length table
  pub indexes : (line table index : List ℕ) → length (indexed_line line table index).index ≡ length index
