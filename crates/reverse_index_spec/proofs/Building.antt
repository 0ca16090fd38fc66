-- The index that is built is the true one, and the only one. Assumes nothing.
use mathlib.Core.Path.{◌≡◌, refl, sym, ap, ◌∙◌}
use mathlib.Core.Bool.{true, false}
use mathlib.Core.List.{List}
use Prim.Native.Nat.{ℕ, zero, suc, ◌+◌, ◌-◌, ◌<◌}
use native.Mathlib.Omega.{arith}
use lib.Dec.{ltb, eqb}
use lib.ListN.{length, get_or}
use lib.Seq.{ext_get_or}
use borrow.Author.Tests.{ltb-true, ltb-false, eqb-true, lt-ltb, le-ltb}
use Rattle.standard.specs.Base.{mapped}
use Rattle.standard.proofs.Tests.{split, and_both}
use Rattle.reverse_index_spec.specs.ReverseIndex.{Least, True, fits, bucket, member, next_of, cell_of, tabulate, build}
use Rattle.reverse_index_spec.proofs.Least.{unique, seek_least}
use Rattle.reverse_index_spec.proofs.Hits.{member_beyond}

-- The length of an index.
pub fits_facts : (n m : ℕ) → fits n m ≡ true → (n < 0x100000000) × (m ≡ n + n)
unfolding fits
fits_facts n m t = let b = and_both (ltb n 0x100000000) (eqb m (n + n)) t in (ltb-true n 0x100000000 b.0, eqb-true m (n + n) b.1)

-- A list of computed cells.
length_tabulate : (f : ℕ → ℕ) (k p : ℕ) → length (tabulate f p k) ≡ k
unfolding tabulate
length_tabulate f zero p = refl
length_tabulate f (suc k) p = ap suc (length_tabulate f k (suc p))

get_d_tabulate : (f : ℕ → ℕ) (k p i : ℕ) → i < k → get_or (tabulate f p k) i 0 ≡ f (p + i)
unfolding tabulate
get_d_tabulate f zero p i h = absurd (omega arith)
get_d_tabulate f (suc k) p zero h = let e : p + 0 ≡ p = omega arith in rw e
get_d_tabulate f (suc k) p (suc i) h = let e : p + suc i ≡ suc p + i = omega arith in rw e (get_d_tabulate f k (suc p) i (omega arith))

module _ (table : List ℕ) where
  abbrev n : ℕ
  n = length table

  length_build : length (build table) ≡ n + n
  unfolding build
  length_build = length_tabulate (cell_of table) (n + n) 0

  -- as many as the lent cells, where these have the right length
  pub build_length : (index : List ℕ) → fits n (length index) ≡ true → length (build table) ≡ length index
  build_length index f = length_build ∙ sym (fits_facts n (length index) f).1

  build_cell : (i : ℕ) → i < n + n → get_or (build table) i 0 ≡ cell_of table i
  unfolding build
  build_cell i h = let e : 0 + i ≡ i = omega arith in get_d_tabulate (cell_of table) (n + n) 0 i h ∙ rw e

  -- Each computed cell is the true one.
  head_cell : (b : ℕ) → b < n → Least (member table b) 0 (cell_of table b)
  unfolding cell_of
  head_cell b h = rw (lt-ltb b n h) (seek_least (member table b) n 0 (λ q g. member_beyond table b q (omega arith)))

  next_of_lem : (p : ℕ) → cell_of table (n + p) ≡ next_of table p
  unfolding cell_of
  next_of_lem p = let e : (n + p) - n ≡ p = omega arith in rw (le-ltb (n + p) n (omega arith), e)

  next_cell : (p : ℕ) → p < n → mapped (get_or table p 0) ≡ true → Least (member table (bucket n (get_or table p 0))) (suc p) (next_of table p)
  unfolding next_of
  next_cell p h m =
      rw m (seek_least (member table (bucket n (get_or table p 0))) (n - suc p) (suc p) (λ q g. member_beyond table _ q (omega arith)))

  other_cell : (p : ℕ) → mapped (get_or table p 0) ≡ false → next_of table p ≡ 0
  unfolding next_of
  other_cell p m = rw m

  -- What is built is true.
  pub build_true : True table (build table)
  build_true = record {
    size = length_build;
    heads = λ b h. rw (build_cell b (omega arith)) (head_cell b h);
    nexts = λ p h m. rw (build_cell (n + p) (omega arith), next_of_lem p) (next_cell p h m);
    others = λ p h m. build_cell (n + p) (omega arith) ∙ next_of_lem p ∙ other_cell p m;
  }

  -- There is one true index.
  pub true_unique : (index other : List ℕ) → True table index → True table other → index ≡ other
  true_unique index other a b = ext_get_or 0 index other (a.size ∙ sym b.size) (λ i h. split (ltb i n)
      (λ t. unique (member table i) 0 _ _ (a.heads i (ltb-true i n t)) (b.heads i (ltb-true i n t)))
      (λ f. let g = ltb-false i n f in let e : n + (i - n) ≡ i = omega arith in
      let l : i - n < n = omega (arith, a.size) in
      rw e at (next (i - n) l)))
    where
      next : (p : ℕ) → p < n → get_or index (n + p) 0 ≡ get_or other (n + p) 0
      next p h = split (mapped (get_or table p 0))
          (λ m. unique (member table (bucket n (get_or table p 0))) (suc p) _ _ (a.nexts p h m) (b.nexts p h m))
          (λ m. a.others p h m ∙ sym (b.others p h m))

  pub true_build : (index : List ℕ) → True table index → index ≡ build table
  true_build index a = true_unique index (build table) a build_true
