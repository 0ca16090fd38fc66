-- What the calls answer, test by test. Assumes nothing.
use mathlib.Core.Path.{◌≡◌, refl, ap, ◌∙◌}
use mathlib.Core.Bool.{true, false}
use mathlib.Core.List.{List}
use Rattle.std.specs.Prelude.{Option, Some, None, MatchOption}
use Prim.Native.Nat.{ℕ, ◌+◌, ◌≤◌, ◌<◌}
use native.Mathlib.Omega.{arith}
use lib.Dec.{eqb}
use lib.ListN.{length, get_or}
use borrow.Author.Tests.{lt-ltb, le-ltb, eq-eqb, ne_eqb}
use Rattle.standard.specs.Encodings.{family, traits}
use Rattle.standard.specs.Search.{PassedOver, Side, search}
use Rattle.index_spec.specs.IndexCall.{index_line}
use Rattle.index_spec.specs.declared.Line.{Line}
use Rattle.index_spec.proofs.Call.{table_kept}
use Rattle.reverse_index_spec.specs.ReverseIndex.{True, fits, insert, walk, or_else, look_up}
use Rattle.reverse_index_spec.specs.Calls.{building, indexed_line}
use Rattle.reverse_index_spec.proofs.Building.{fits_facts, true_build}
use Rattle.standard.specs.Base.{◌then◌else◌}
use Rattle.index.specs.IndexCode.{pointer_of}
use Rattle.reverse_index.specs.Code.{link_of}
use Rattle.reverse_index_spec.proofs.Lines.{entry_inside}

-- Building.
module _ (e : ℕ) (table index : List ℕ) where
  pub build_unknown : 39 < e → (2 ≡ (building e table index).refusal) × (index ≡ (building e table index).index)
  unfolding building
  build_unknown h = (rw (lt-ltb 39 e h) refl, rw (lt-ltb 39 e h) refl)

  module _ (h : e ≤ 39) where
    pub build_table : eqb (length table) (traits (family e)).first ≡ false →
        (4 ≡ (building e table index).refusal) × (index ≡ (building e table index).index)
    unfolding building
    build_table t = (rw (le-ltb 39 e h, t) refl, rw (le-ltb 39 e h, t) refl)

    module _ (t : eqb (length table) (traits (family e)).first ≡ true) where
      pub build_index : fits (length table) (length index) ≡ false →
          (15 ≡ (building e table index).refusal) × (index ≡ (building e table index).index)
      unfolding building
      build_index f = (rw (le-ltb 39 e h, t, f) refl, rw (le-ltb 39 e h, t, f) refl)

      pub build_done : fits (length table) (length index) ≡ true → (after : List ℕ) → True table after →
          (0 ≡ (building e table index).refusal) × (after ≡ (building e table index).index)
      unfolding building
      build_done f after a = (rw (le-ltb 39 e h, t, f) refl, rw (le-ltb 39 e h, t, f) (true_build table after a))

-- An index line.
module _ (line table index : List ℕ) where
  pub line_refused : fits (length table) (length index) ≡ false →
      (◌≡◌ {A = Line} (record { pointer = 0; refusal = 15; entry = 0 }) (indexed_line line table index).answer) ×
      (table ≡ (indexed_line line table index).table) × (index ≡ (indexed_line line table index).index)
  unfolding indexed_line
  line_refused f = (rw f refl, rw f refl, rw f refl)

  module _ (f : fits (length table) (length index) ≡ true) (r : Line) (t : List ℕ)
      (e : r ≡ (index_line line table).answer) (g : t ≡ (index_line line table).table) where
    -- what an entry that was made asks of the index
    pub entry_ready : r.entry ≡ 1 → (r.pointer < length t) × (length t < 0x100000000) × (length index ≡ length t + length t)
    entry_ready h =
        let b = fits_facts (length table) (length index) f in
        let l : length t ≡ length table = ap length g ∙ table_kept line table in
        (rw (e, g) (entry_inside line table (rw e at h)), omega arith, omega arith)

    pub line_none : (r.entry ≡ 1 → ⊥) → (r ≡ (indexed_line line table index).answer) ×
        (t ≡ (indexed_line line table index).table) × (index ≡ (indexed_line line table index).index)
    unfolding indexed_line
    line_none h = (rw f e, rw f g, rw (f, ← e, ne_eqb r.entry 1 h) refl)

    pub line_entry : r.entry ≡ 1 → (after : List ℕ) → after ≡ insert (length t) index r.pointer (get_or t r.pointer 0) →
        (r ≡ (indexed_line line table index).answer) × (t ≡ (indexed_line line table index).table) ×
        (after ≡ (indexed_line line table index).index)
    unfolding indexed_line
    line_entry h after w = (rw f e, rw f g, rw (f, ← e, ← g, eq-eqb r.entry 1 h) w)

-- The look-up: what the walk finds, or else the search.
pub looked_up : (table index : List ℕ) (side : Side) (over : PassedOver) (c : ℕ) (found r : Option ℕ) →
    link_of found ≡ (fits (length table) (length index) then walk table index side over c else 0) →
    MatchOption found (pointer_of r ≡ search side over table c) (λ p. r ≡ Some p) → pointer_of r ≡ look_up table index side over c
unfolding look_up
looked_up table index side over c None r e h = h ∙ ap (λ (w : ℕ). or_else w (search side over table c)) e
looked_up table index side over c (Some p) r e h = ap pointer_of h ∙ ap (λ (w : ℕ). or_else w (search side over table c)) e
