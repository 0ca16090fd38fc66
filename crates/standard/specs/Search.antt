-- The pointers of a code point in a table (000, section 5): the first or the last, with a stretch passed over. Assumes nothing.
use Rattle.std.specs.Prelude.{◌≡◌, Bool, false, ◌&&◌, not, List, [], ◌∷◌, ℕ, suc, ◌≤◌, ◌<◌, eqb, length}
use Rattle.std.proofs.Math.Option.{Option, some, none}
use Rattle.standard.specs.Base.{◌then◌else◌, within, mapped}
use Rattle.standard.specs.Indexes.{index_code_point}

-- "excluding all entries whose pointer is in the range": no pointer is passed over, or those from low to high, inclusive.
pub data PassedOver : Type 0 where
  none_over : PassedOver
  pass_over : ℕ → ℕ → PassedOver

abbrev pub passed : PassedOver → ℕ → Bool
passed none_over p = false
passed (pass_over low high) p = within low p high

pub data Side : Type 0 where
  first last : Side

-- the answer at a pointer, and that of the pointers behind it
abbrev pub either : Side → Option ℕ → Option ℕ → Option ℕ
either first (some p) behind = some p
either first none behind = behind
either last here (some p) = some p
either last here none = here

-- 01: a cell that counts as mapped and equals the code point
abbrev pub here : PassedOver → ℕ → ℕ → ℕ → Option ℕ
here over c p x = not (passed over p) && (mapped x && eqb x c) then some p else none

-- the pointers counted from p
unfoldable pub search_from : Side → PassedOver → ℕ → List ℕ → ℕ → Option ℕ
search_from side over p [] c = none
search_from side over p (x ∷ index) c = either side (here over c p x) (search_from side over (suc p) index c)

abbrev pub search : Side → PassedOver → List ℕ → ℕ → Option ℕ
search side over index c = search_from side over 0 index c

-- "The index pointer for code point in index is the first pointer corresponding to code point in index, or null"; and counted from p.
abbrev pub index_pointer : List ℕ → ℕ → Option ℕ
index_pointer index c = search first none_over index c

abbrev pub pointer_from : ℕ → List ℕ → ℕ → Option ℕ
pointer_from p index c = search_from first none_over p index c

-- A way to look a pointer up: what an encoder is given. The plain one searches a table.
abbrev pub Lookup : Type 0
Lookup = Side → PassedOver → ℕ → Option ℕ

abbrev pub searching : List ℕ → Lookup
searching index side over c = search side over index c

-- The law of the search; `proofs/Search.antt` proves it. A pointer counts: in the table, not passed over, and its index code point is c.
pub record Counts (over : PassedOver) (index : List ℕ) (c p : ℕ) : Type 0 where
  pub inside : p < length index
  pub searched : passed over p ≡ false
  pub code : index_code_point index p ≡ some c

-- p is not behind q, seen from a side
abbrev pub Nearer : Side → ℕ → ℕ → Type 0
Nearer first p q = p ≤ q
Nearer last p q = q ≤ p

-- Over any table, stretch and code point: what is found counts, none that counts is nearer, and nothing is found only where none counts.
pub record SearchRule (side : Side) (over : PassedOver) (index : List ℕ) (c : ℕ) : Type 0 where
  pub found : (p : ℕ) → search side over index c ≡ some p → Counts over index c p
  pub nearest : (p q : ℕ) → search side over index c ≡ some p → Counts over index c q → Nearer side p q
  pub missing : search side over index c ≡ none → (q : ℕ) → Counts over index c q → ⊥

-- All that reading back asks of a look-up: a pointer that it gives counts.
pub record Sound (look : Lookup) (index : List ℕ) : Type 0 where
  pub sound : (side : Side) (over : PassedOver) (c p : ℕ) → look side over c ≡ some p → Counts over index c p
