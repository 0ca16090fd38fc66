-- An index line with an index. Assumes nothing.
use mathlib.Core.Path.{◌≡◌, refl}
use mathlib.Core.Bool.{Bool, true, false}
use mathlib.Core.List.{List}
use Prim.Native.Nat.{ℕ, ◌<◌}
use native.Mathlib.Omega.{arith}
use lib.Dec.{ltb, eqb}
use lib.ListN.{length, get_or, length-set}
use lib.Seq.{get_or-set_same}
use borrow.Author.Tests.{ltb-true, eqb-true}
use Rattle.standard.specs.Base.{◌then◌else◌, mapped}
use Rattle.standard.proofs.Tests.{split, and_both}
use Rattle.index_spec.specs.IndexRead.{Read, no_entry, bad, entry, read}
use Rattle.index_spec.specs.IndexCall.{Outcome, without, fill, free, enter, index_line}
use Rattle.index_spec.proofs.Reader.{reads}
use Rattle.reverse_index_spec.specs.ReverseIndex.{True, fits, linked, insert}
use Rattle.reverse_index_spec.specs.Calls.{index_after, indexed_line}
use Rattle.reverse_index_spec.proofs.Inserting.{insert_true}

-- What the index line call leaves: no entry is made, or one whose pointer is below the length, whose cell was 0 and code point is mapped.
module _ (A : Outcome → Type 0) (line table : List ℕ) (no_entry_by : (n : ℕ) → A (without n table))
    (made : (p c : ℕ) → p < length table → get_or table p 0 ≡ 0 → mapped c ≡ true → A (fill p c table)) where
  by_free : (p c : ℕ) (t : Bool) → free p table ≡ t → mapped c ≡ true → A (t then fill p c table else without 13 table)
  by_free p c false e m = no_entry_by 13
  by_free p c true e m =
      let b = and_both (ltb p (length table)) (eqb (get_or table p 0) 0) e in
      made p c (ltb-true p (length table) b.0) (eqb-true (get_or table p 0) 0 b.1) m

  by_read : (r : Read) → read line ≡ r → A (enter r table)
  by_read no_entry e = no_entry_by 0
  by_read bad e = no_entry_by 12
  by_read (entry p c) e = by_free p c (free p table) refl (((reads line).entries p c).0 e).is_mapped

  by_line : A (index_line line table)
  unfolding index_line
  by_line = go (ltb 1024 (length line))
    where
      go : (t : Bool) → A (t then without 8 table else enter (read line) table)
      go true = no_entry_by 8
      go false = by_read (read line) refl

module _ (line table : List ℕ) where
  -- the pointer of an entry that was made
  pub entry_inside : (index_line line table).answer.entry ≡ 1 → (index_line line table).answer.pointer < length (index_line line table).table
  entry_inside = by_line (λ o. o.answer.entry ≡ 1 → o.answer.pointer < length o.table) line table
      (λ n e. absurd (omega arith))
      (λ p c h z m e. rw (length-set table p c) h)

  module _ (index : List ℕ) where
    pub line_index_kept : (index_line line table).answer.entry ≡ 0 → index_after (index_line line table) index ≡ index
    line_index_kept = by_line (λ o. o.answer.entry ≡ 0 → index_after o index ≡ index) line table
        (λ n e. refl)
        (λ p c h z m e. absurd (omega arith))

    pub line_index_length : length (index_after (index_line line table) index) ≡ length index
    unfolding insert linked
    line_index_length = by_line (λ o. length (index_after o index) ≡ length index) line table (λ n. refl) (λ p c h z m. simp length-set)

    -- A true index stays true.
    pub line_true : True table index → True (indexed_line line table index).table (indexed_line line table index).index
    unfolding indexed_line
    line_true tr = split (fits (length table) (length index))
        (λ f. rw f (by_line (λ o. True o.table (index_after o index)) line table
        (λ n. tr)
        (λ p c h z m. rw (length-set table p c, get_or-set_same table p c 0 h) (insert_true table index tr p c h z m))))
        (λ f. rw f tr)
