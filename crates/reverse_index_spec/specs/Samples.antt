-- Samples: a table of six cells, its true index, an entry more, and what false cells give. Assumes nothing.
use Rattle.std.specs.Prelude.{◌≡◌, List, [], ◌∷◌, ℕ, replicate}
use Rattle.std.proofs.Math.Option.{some, none}
use Rattle.standard.specs.Search.{none_over, pass_over, first, last}
use Rattle.reverse_index_spec.specs.ReverseIndex.{build, insert, look_up}
use Rattle.reverse_index_spec.specs.Calls.{index_size}

-- U+0100 and U+0101 share bucket 2 of six (256 / 2 is 128); a cell that does not count as mapped is in none.
abbrev pub cells : List ℕ
cells = 0x101 ∷ 0x41 ∷ 0x101 ∷ 0 ∷ 0x100 ∷ 0x110 ∷ []

abbrev pub index : List ℕ
index = 0 ∷ 0 ∷ 1 ∷ 0 ∷ 6 ∷ 0 ∷ 3 ∷ 0 ∷ 5 ∷ 0 ∷ 0 ∷ 0 ∷ []

pub record Samples : Type 0 where
  pub sizes : (index_size 0 ≡ 0) × (index_size 6 ≡ 12) × (index_size 0xFFFFFFFF ≡ 0x1FFFFFFFE) × (index_size 0x100000000 ≡ 0)
  pub built : build cells ≡ index
  -- U+010D at pointer 3 stands between pointers 2 and 4
  pub entered : insert 6 index 3 0x10D ≡ 0 ∷ 0 ∷ 1 ∷ 0 ∷ 6 ∷ 0 ∷ 3 ∷ 0 ∷ 4 ∷ 5 ∷ 0 ∷ 0 ∷ []
  pub firsts : look_up cells index first none_over 0x101 ≡ some 0
  pub lasts : look_up cells index last none_over 0x101 ≡ some 2
  pub over : look_up cells index first (pass_over 0 1) 0x101 ≡ some 2
  -- zeros, and links out of the table, say nothing
  pub zeros : look_up cells (replicate 12 0) first none_over 0x100 ≡ some 4
  pub outside : look_up cells (replicate 12 7) last none_over 0x101 ≡ some 2
  -- links that go round: the pointer that is met first counts, and is not the first of the table
  pub false_cells : look_up cells (replicate 12 3) first none_over 0x101 ≡ some 2
  pub missing : look_up cells (replicate 12 3) first none_over 0x103 ≡ none
