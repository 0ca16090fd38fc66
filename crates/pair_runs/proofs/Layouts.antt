-- The row of a lead in a run, and the table of rows and columns as it is filled. Assumes nothing.
use mathlib.Core.Path.{◌≡◌, sym, ap, ◌∙◌}
use mathlib.Core.Bool.{Bool, true, false, ◌&&◌, and-false}
use mathlib.Core.List.{List}
use Prim.Native.Nat.{ℕ, zero, suc, ◌+◌, ◌-◌, ◌*◌, ◌≤◌, ◌<◌}
use native.Mathlib.Omega.{arith}
use lib.Dec.{ltb, leb, eqb}
use lib.ListN.{length, set, replicate, length-set, length-replicate, get_or-replicate}
use lib.Seq.{get_or-set_same, get_or-set_other}
use borrow.Author.Tests.{lt-ltb, le-ltb, lt-leb, le-leb, ltb-true, ltb-false, ne_eqb, eqb-true, eqb-false}
use Rattle.standard.specs.Base.{within}
use Rattle.standard.proofs.Families.{beyond}
use Rattle.standard.proofs.Tests.{split, and_both}
use Rattle.layouts.specs.Rows.{no_cell, layout_of}
use Rattle.layouts.specs.Rows.{row as row_in}
use Rattle.layouts.proofs.Rows.{layout_gb18030}
use Rattle.pair_runs.specs.Layout.{left_out, row, column, stepped, Holds, Laid}
use Rattle.pair_runs.specs.Paired.{Paired}

-- a lead that is left out
module _ (e b : ℕ) where
  pub left_big5 : e ≡ 31 → left_out e b ≡ eqb b 0x88
  unfolding left_out
  left_big5 h = rw h

  pub left_shift_jis : e ≡ 34 → left_out e b ≡ within 0xF0 b 0xF9
  unfolding left_out
  left_shift_jis h = rw h

  pub left_no : (e ≡ 31 → ⊥) → (e ≡ 34 → ⊥) → left_out e b ≡ false
  unfolding left_out
  left_no h g = rw (ne_eqb e 31 h, ne_eqb e 34 g)

  pub row_out : left_out e b ≡ true → row e b ≡ no_cell
  unfolding row
  row_out h = rw h

  pub row_in_lem : left_out e b ≡ false → row e b ≡ row_in (layout_of e) b
  unfolding row
  row_in_lem h = rw h

-- the last encoding with pairs
pub is_last : (e : ℕ) → Paired e → 30 < e → (e ≡ 31 → ⊥) → (e ≡ 32 → ⊥) → (e ≡ 34 → ⊥) → e ≡ 35
is_last e E l f g h =
    let m = beyond 33 e (beyond 32 e (beyond 31 e l f) g) E.other in
    let n = beyond 34 e m h in omega (arith, E.high)

-- steps into more and more cells
module _ (at first step : ℕ) (f : ℕ → ℕ) where
  stepped_in : (n j : ℕ) → at ≤ j → j < at + n → stepped at n first step f j ≡ (first + (j - at)) * step
  unfolding stepped
  stepped_in n j h g = rw (le-leb at j h, lt-ltb j (at + n) g)

  stepped_out : (n j : ℕ) → at + n ≤ j → stepped at n first step f j ≡ f j
  unfolding stepped
  stepped_out n j h = rw (le-ltb j (at + n) h, and-false (leb at j))

  stepped_under : (n j : ℕ) → j < at → stepped at n first step f j ≡ f j
  unfolding stepped
  stepped_under n j h = rw (lt-leb at j h)

  stepped_other : (k j : ℕ) → (j ≡ at + k → ⊥) → stepped at k first step f j ≡ stepped at (k + 1) first step f j
  stepped_other k j n = split (ltb j at)
      (λ t. let h = ltb-true j at t in stepped_under k j h ∙ sym (stepped_under (k + 1) j h))
      (λ t. let l = ltb-false j at t in split (ltb j (at + k))
      (λ g. let h = ltb-true j (at + k) g in stepped_in k j l h ∙ sym (stepped_in (k + 1) j l (omega arith)))
      (λ g.
      let h = beyond (at + k) j (ltb-false j (at + k) g) n in
      stepped_out k j (omega arith) ∙ sym (stepped_out (k + 1) j (omega arith))))

  pub stepped_none : (table : List ℕ) → Holds table f → Holds table (stepped at 0 first step f)
  stepped_none table H = record {
    size = H.size;
    cells = λ j l. H.cells j l ∙ split (ltb j at)
        (λ t. sym (stepped_under 0 j (ltb-true j at t)))
        (λ t. sym (stepped_out 0 j (omega (arith, ltb-false j at t))));
  }

  pub stepped_more : (table : List ℕ) (k v : ℕ) → Holds table (stepped at k first step f) → at + k < 512 → v ≡ (first + k) * step →
      Holds (set table (at + k) v) (stepped at (k + 1) first step f)
  stepped_more table k v H h e = record {
    size = length-set table (at + k) v ∙ H.size;
    cells = λ j l. split (eqb j (at + k))
        (λ t.
        let z = eqb-true j (at + k) t in
        let w : j - at ≡ k = omega arith in
        rw z (get_or-set_same table (at + k) v 0 (omega (arith, H.size))) ∙ e ∙
        sym (stepped_in (k + 1) j (omega arith) (omega arith) ∙ rw w))
        (λ t. let z = eqb-false j (at + k) t in get_or-set_other table (at + k) j v 0 z ∙ H.cells j l ∙ stepped_other k j z);
  }

-- functions that agree below a number, by computing
unfoldable pub agree : (ℕ → ℕ) → (ℕ → ℕ) → ℕ → Bool
agree f g zero = true
agree f g (suc n) = eqb (f n) (g n) && agree f g n

agrees : (f g : ℕ → ℕ) (n : ℕ) → agree f g n ≡ true → (b : ℕ) → b < n → f b ≡ g b
unfolding agree
agrees f g zero h b l = absurd (omega arith)
agrees f g (suc n) h b l =
    let both = and_both (eqb (f n) (g n)) (agree f g n) h in
    split (eqb b n)
    (λ t. let z = eqb-true b n t in rw z (eqb-true (f n) (g n) both.0))
    (λ t. agrees f g n both.1 b (let z = eqb-false b n t in omega arith))

-- a table without rows and columns; one with all, by computing; and the same of another number of gb18030
pub none_held_lem : (table : List ℕ) → table ≡ replicate 512 no_cell → Holds table (λ j. no_cell)
none_held_lem table e = record { size = ap length e ∙ length-replicate 512 no_cell; cells = λ j l. rw e (get_or-replicate 512 j no_cell 0 l) }

pub laid_out : (e : ℕ) {table : List ℕ} {f : ℕ → ℕ} → Holds table f →
    agree f (row e) 256 ≡ true → agree (λ c. f (256 + c)) (column e) 256 ≡ true → Laid e table
laid_out e {table} {f} H r c = record {
  size = H.size;
  rows = λ b l. H.cells b (omega arith) ∙ agrees f (row e) 256 r b l;
  columns = λ b l. H.cells (256 + b) (omega arith) ∙ agrees (λ k. f (256 + k)) (column e) 256 c b l;
}

pub laid_gb18030 : (e : ℕ) {table : List ℕ} → e ≤ 30 → Laid 30 table → Laid e table
unfolding row column
laid_gb18030 e h L =
    let y : layout_of e ≡ layout_of 30 = layout_gb18030 e h ∙ sym (layout_gb18030 30 (omega arith)) in
    record {
      size = L.size;
      rows = λ b l. L.rows b l ∙
          rw (left_no e b (λ z. omega arith) (λ z. omega arith), left_no 30 b (λ z. omega arith) (λ z. omega arith), y);
      columns = λ c l. L.columns c l ∙ rw y;
    }
