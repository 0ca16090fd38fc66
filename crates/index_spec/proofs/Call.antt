-- The index line call: its refusals in order, and the one cell that an entry changes. Assumes nothing.
use mathlib.Core.Path.{◌≡◌, refl, ◌∙◌}
use mathlib.Core.Bool.{Bool, true, false, and-false}
use mathlib.Core.List.{List}
use Prim.Native.Nat.{ℕ, ◌≤◌, ◌<◌}
use native.Mathlib.Omega.{arith}
use lib.Dec.{ltb}
use lib.ListN.{length, get_or, length-set}
use lib.Seq.{get_or-set_same, get_or-set_other}
use borrow.Author.Tests.{ltb-true, lt-ltb, le-ltb, eq-eqb, ne_eqb}
use Rattle.standard.specs.Base.{◌then◌else◌}
use Rattle.standard.specs.Text.{bytes}
use Rattle.index_spec.specs.IndexLine.{value}
use Rattle.index_spec.specs.IndexRead.{Read, no_entry, bad, entry, front, behind, fits, read}
use Rattle.index_spec.specs.IndexCall.{without, fill, free, enter, index_line}
use Rattle.index_spec.specs.Statements.{Fills, Answers, TableKept, Samples}
use Rattle.standard.proofs.Tests.{split}
use Rattle.index_spec.proofs.Reader.{reads}

-- A line that is not too long is entered as it is read.
pub short : (line table : List ℕ) (r : Read) → length line ≤ 1024 → read line ≡ r → index_line line table ≡ enter r table
unfolding index_line
short line table r h e = rw (le-ltb 1024 (length line) h, e)

-- A cell that is not free.
not_free : (p : ℕ) (table : List ℕ) → ((p < length table) × (get_or table p 0 ≡ 0) → ⊥) → free p table ≡ false
not_free p table f = split (ltb p (length table))
    (λ h. rw h (ne_eqb (get_or table p 0) 0 (λ e. f (ltb-true p (length table) h, e))))
    (λ h. rw h)

-- An entry, by its cell.
module _ (p c : ℕ) (table : List ℕ) where
  pub enter_out : length table ≤ p → enter (entry p c) table ≡ without 13 table
  enter_out h = rw (le-ltb p (length table) h)

  pub enter_full : (get_or table p 0 ≡ 0 → ⊥) → enter (entry p c) table ≡ without 13 table
  enter_full n = rw (ne_eqb (get_or table p 0) 0 n, and-false (ltb p (length table)))

  pub enter_free : p < length table → get_or table p 0 ≡ 0 → enter (entry p c) table ≡ fill p c table
  enter_free h e = rw (lt-ltb p (length table) h, eq-eqb (get_or table p 0) 0 e)

-- What filling does.
fills : (p c : ℕ) (table : List ℕ) → p < length table → Fills p c table (fill p c table)
fills p c table h = record {
  answer = refl;
  cell = get_or-set_same table p c 0 h;
  cells = λ i f. get_or-set_other table p i c 0 f;
  same_length = length-set table p c;
}

-- Where no entry is told the table is as it was: by the test of the cell.
unchanged_free : (p c : ℕ) (table : List ℕ) (t : Bool) → (t then fill p c table else without 13 table).answer.entry ≡ 0 →
    (t then fill p c table else without 13 table).table ≡ table
unchanged_free p c table true h = absurd (omega arith)
unchanged_free p c table false h = refl

-- By what the line reads as.
unchanged_enter : (r : Read) (table : List ℕ) → (enter r table).answer.entry ≡ 0 → (enter r table).table ≡ table
unchanged_enter no_entry table h = refl
unchanged_enter bad table h = refl
unchanged_enter (entry p c) table h = unchanged_free p c table (free p table) h

-- For the call.
unchanged : (line table : List ℕ) → (index_line line table).answer.entry ≡ 0 → (index_line line table).table ≡ table
unfolding index_line
unchanged line table h = go (ltb 1024 (length line)) h
  where
    go : (t : Bool) → (t then without 8 table else enter (read line) table).answer.entry ≡ 0 → (t then without 8 table else enter (read line) table).table ≡ table
    go true h = refl
    go false h = unchanged_enter (read line) table h

-- A line that is too long.
pub long : (line table : List ℕ) → 1024 < length line → index_line line table ≡ without 8 table
unfolding index_line
long line table h = rw (lt-ltb 1024 (length line) h)

-- The call, for any line and table.
pub answers : (line table : List ℕ) → Answers line table
answers line table =
    let r = reads line in
    record {
      long = long line table;
      nothing = λ h n. short line table no_entry h (r.no_entries.1 n);
      bad_line = λ h f g. short line table bad h (r.others.1 (f, g));
      no_room = λ h p c e f. short line table (entry p c) h ((r.entries p c).1 e) ∙ rw (not_free p table f);
      filled = λ h p c e g z. rw (short line table (entry p c) h ((r.entries p c).1 e) ∙ enter_free p c table g z) (fills p c table g);
      unchanged = unchanged line table;
    }

-- The table keeps its length: by the test of the cell, by what the line reads as, and by the line's length.
kept_free : (p c : ℕ) (table : List ℕ) (t : Bool) → length (t then fill p c table else without 13 table).table ≡ length table
kept_free p c table true = length-set table p c
kept_free p c table false = refl

kept_enter : (r : Read) (table : List ℕ) → length (enter r table).table ≡ length table
kept_enter no_entry table = refl
kept_enter bad table = refl
kept_enter (entry p c) table = kept_free p c table (free p table)

pub table_kept : TableKept
unfolding index_line
table_kept line table = go (ltb 1024 (length line))
  where
    go : (t : Bool) → length (t then without 8 table else enter (read line) table).table ≡ length table
    go true = refl
    go false = kept_enter (read line) table

-- Each sample is computed.
pub samples : Samples
unfolding index_line read front behind fits value bytes
samples = record {
  e_acute = refl;
  largest = refl;
  no_entries = refl;
  front = refl;
  pointers = refl;
  marks = refl;
  digits = refl;
  endings = refl;
  unmapped = refl;
  mapped = refl;
  fills = refl;
  nothing = refl;
  bad_before_room = refl;
  no_room = refl;
  not_free = refl;
  not_zero = refl;
  long = refl;
  not_long = refl;
}
