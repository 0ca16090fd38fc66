-- The theorems. Assumes nothing.
use mathlib.Core.Path.{◌≡◌, refl}
use mathlib.Core.Bool.{true}
use mathlib.Core.List.{List}
use Prim.Native.Nat.{ℕ, ◌+◌, ◌<◌}
use native.Mathlib.Omega.{arith}
use lib.Dec.{ltb, eqb}
use lib.ListN.{length}
use borrow.Author.Tests.{lt-ltb, le-ltb, eq-eqb, ne_eqb}
use Rattle.standard.specs.Encodings.{Family, family, traits}
use Rattle.standard.proofs.Tests.{split, choose}
use Rattle.index_spec.proofs.Call.{answers, table_kept}
use Rattle.reverse_index_spec.specs.ReverseIndex.{fits}
use Rattle.reverse_index_spec.specs.Calls.{index_size, Built, building, indexed_line}
use Rattle.reverse_index_spec.specs.Statements.{StaysTrue, LooksUp, Builds, IndexedLines, CellsKept}
use Rattle.reverse_index_spec.proofs.LookUp.{look_up-true, look_up-sound, look_up-none, none_looked_up, no_cells}
use Rattle.reverse_index_spec.proofs.Building.{build_true, build_length, true_build}
use Rattle.reverse_index_spec.proofs.Inserting.{insert_true}
use Rattle.reverse_index_spec.proofs.Lines.{line_true, line_index_kept, line_index_length}

pub looks_up : (table index : List ℕ) → LooksUp table index
looks_up table index = record {
  by_true = λ t side over c. look_up-true table index side over c t;
  sound = record { sound = λ side over c p e. look_up-sound table index side over c p e };
  alike = record { misses = λ side over c. (look_up-none table index side over c, none_looked_up table index side over c) };
  no_cells = λ side over c. no_cells table side over c;
}

pub stays_true : (table index : List ℕ) → StaysTrue table index
stays_true table index = record {
  built = build_true table;
  only = λ t. true_build table index t;
  entry = λ t p c h z m. insert_true table index t p c h z m;
  line = λ t line. line_true line table index t;
}

-- The lengths. No first table has 2^32 cells.
few : (f : Family) → (traits f).first < 0x100000000
unfolding traits
few Family.UTF-8 = omega arith
few Family.single-byte = omega arith
few Family.windows-1252 = omega arith
few Family.GB18030 = omega arith
few Family.Big5 = omega arith
few Family.EUC-JP = omega arith
few Family.ISO-2022-JP = omega arith
few Family.Shift-JIS = omega arith
few Family.EUC-KR = omega arith
few Family.Replacement = omega arith
few Family.UTF-16BE = omega arith
few Family.UTF-16LE = omega arith
few Family.x-user-defined = omega arith

pub builds : (e : ℕ) (table index : List ℕ) → Builds e table index
unfolding building fits index_size
builds e table index = record {
  unknown = λ h. (rw (lt-ltb 39 e h) refl, rw (lt-ltb 39 e h) refl);
  wrong_table = λ h f. (rw (le-ltb 39 e h, ne_eqb n k f) refl, rw (le-ltb 39 e h, ne_eqb n k f) refl);
  wrong_index = λ h t f. (
    rw (le-ltb 39 e h, eq-eqb n k t, small t, ne_eqb (length index) (n + n) (λ z. f (rw (small t) z))) refl,
    rw (le-ltb 39 e h, eq-eqb n k t, small t, ne_eqb (length index) (n + n) (λ z. f (rw (small t) z))) refl,
  );
  true_index = λ h t g. (
    rw (le-ltb 39 e h, eq-eqb n k t, small t, eq-eqb (length index) (n + n) (rw (small t) at g)) refl,
    rw (le-ltb 39 e h, eq-eqb n k t, small t, eq-eqb (length index) (n + n) (rw (small t) at g)) (build_true table),
  );
}
  where
    n : ℕ
    n = length table

    k : ℕ
    k = (traits (family e)).first

    small : length table ≡ (traits (family e)).first → ltb (length table) 0x100000000 ≡ true
    small t = lt-ltb (length table) 0x100000000 (omega (arith, few (family e)))

pub indexed_lines : (line table index : List ℕ) → IndexedLines line table index
unfolding indexed_line
indexed_lines line table index = record {
  wrong_index = λ f. (rw f refl, rw f refl, rw f refl);
  as_without = λ f. (rw f refl, rw f refl);
  no_entry = split (fits (length table) (length index))
      (λ f. rw f (λ e. ((answers line table).unchanged e, line_index_kept line table index e)))
      (λ f. rw f (λ e. (refl, refl)));
}

abbrev SameLength : List ℕ → Built → Type 0
SameLength index b = length b.index ≡ length index

pub cells_kept : CellsKept
unfolding building indexed_line
cells_kept = record {
  built = λ e table index.
      choose (SameLength index) (ltb 39 e) (λ _. refl) (λ _.
      choose (SameLength index) (eqb (length table) (traits (family e)).first)
      (λ _. choose (SameLength index) (fits (length table) (length index)) (λ f. build_length table index f) (λ _. refl))
      (λ _. refl));
  tables = λ line table index. split (fits (length table) (length index)) (λ f. rw f (table_kept line table)) (λ f. rw f);
  indexes = λ line table index. split (fits (length table) (length index)) (λ f. rw f (line_index_length line table index)) (λ f. rw f);
}
