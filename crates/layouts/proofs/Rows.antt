-- Rows and columns: the layout of an encoding number; pointers and code points by rows and columns. Assumes nothing.
use mathlib.Core.Path.{◌≡◌, sym, ap, ◌∙◌}
use mathlib.Core.Bool.{Bool, true, false, and-false}
use mathlib.Core.List.{List}
use Prim.Native.Nat.{ℕ, ◌+◌, ◌*◌, ◌≤◌, ◌<◌}
use native.Mathlib.Omega.{arith}
use lib.Dec.{ltb, leb, eqb, lit≤}
use borrow.Author.Tests.{lt-ltb, lt-leb, le-leb, ne_eqb}
use Rattle.standard.specs.Base.{◌then◌else◌}
use Rattle.standard.specs.Sequence.{cell}
use Rattle.standard.specs.Layouts.{number, Layout, leads, trails, pointer_of, pair_code, gb18030_layout, big5_layout, euc_jp_layout, iso2022_jp_layout, shift_jis_layout, euc_kr_layout}
use Rattle.standard.proofs.Layouts.{Regular, divisor_real, row_below, pointer_below, gb18030_regular, big5_regular, euc_jp-regular, iso_2022_jp_regular, shift_jis-regular, euc_kr-regular}
use Rattle.standard.proofs.Tests.{split}
use Rattle.layouts.specs.Rows.{no_cell, place, row, column, layout_of}

-- the layout of an encoding number
module _ (e : ℕ) where
  pub layout_gb18030 : e ≤ 30 → layout_of e ≡ gb18030_layout
  unfolding layout_of
  layout_gb18030 h = rw (le-leb e 30 h)

  pub layout_big5 : e ≡ 31 → layout_of e ≡ big5_layout
  unfolding layout_of
  layout_big5 h = rw h

  pub layout_euc_jp : e ≡ 32 → layout_of e ≡ euc_jp_layout
  unfolding layout_of
  layout_euc_jp h = rw h

  pub layout_iso_2022_jp : e ≡ 33 → layout_of e ≡ iso2022_jp_layout
  unfolding layout_of
  layout_iso_2022_jp h = rw h

  pub layout_shift_jis : e ≡ 34 → layout_of e ≡ shift_jis_layout
  unfolding layout_of
  layout_shift_jis h = rw h

  pub layout_euc_kr : 30 < e → (e ≡ 31 → ⊥) → (e ≡ 32 → ⊥) → (e ≡ 33 → ⊥) → (e ≡ 34 → ⊥) → layout_of e ≡ euc_kr_layout
  unfolding layout_of
  layout_euc_kr l f g h i = rw (lt-leb e 30 l, ne_eqb e 31 f, ne_eqb e 32 g, ne_eqb e 33 h, ne_eqb e 34 i)

  -- what holds of the six layouts
  each : (P : Layout → Type 0) → P gb18030_layout → P big5_layout → P euc_jp_layout → P iso2022_jp_layout → P shift_jis_layout → P euc_kr_layout → P (layout_of e)
  unfolding layout_of
  each P p q r s t u = go (leb e 30) (eqb e 31) (eqb e 32) (eqb e 33) (eqb e 34)
    where
      go : (a b c d f : Bool) → P (a then gb18030_layout else b then big5_layout else c then euc_jp_layout else d then iso2022_jp_layout else f then shift_jis_layout else euc_kr_layout)
      go true b c d f = p
      go false true c d f = q
      go false false true d f = r
      go false false false true f = s
      go false false false false true = t
      go false false false false false = u

  pub regular : Regular (layout_of e)
  regular = each Regular gb18030_regular big5_regular euc_jp-regular iso_2022_jp_regular shift_jis-regular euc_kr-regular

  pub small : (layout_of e).rows * (layout_of e).divisor ≤ no_cell
  small = each (λ y. y.rows * y.divisor ≤ no_cell) (lit≤ tt) (lit≤ tt) (lit≤ tt) (lit≤ tt) (lit≤ tt) (lit≤ tt)

-- a lead has a row, a trail has a column
module _ (y : Layout) (b c : ℕ) where
  pub led : row y b < no_cell → leads y b ≡ true
  unfolding place
  led h = split (leads y b) (λ t. t) (λ f. let z : no_cell < no_cell = rw f at h in absurd (omega arith))

  pub trailed : column y c < no_cell → trails y c ≡ true
  unfolding place
  trailed h = split (trails y c) (λ t. t) (λ f. let z : no_cell < no_cell = rw f at h in absurd (omega arith))

  pub by_row : leads y b ≡ true → trails y c ≡ true → row y b + column y c ≡ pointer_of y b c
  unfolding place pointer_of
  by_row l t = rw (l, t) (omega arith)

  module _ (r : Regular y) (s : y.rows * y.divisor ≤ no_cell) where
    pub lead_row : leads y b ≡ ltb (row y b) no_cell
    unfolding place
    lead_row = split (leads y b) (λ t. rw t (sym (lt-ltb (number y.lead b * y.divisor) no_cell (omega (arith, s, row_below y b c r t, divisor_real y r))))) (λ f. rw f)

    -- the code point by the sum of row and column
    pub code_past : (index : List ℕ) (p : ℕ) → p ≡ row y b + column y c → no_cell ≤ p → pair_code y index b c ≡ 0
    unfolding pair_code
    code_past index p e h = split (leads y b)
        (λ l. split (trails y c) (λ t. absurd (omega (arith, e, by_row l t, s, pointer_below y b c r l t))) (λ t. rw (t, and-false (leads y b))))
        (λ l. rw l)

    pub code_at : (index : List ℕ) (p : ℕ) → p ≡ row y b + column y c → p < no_cell → pair_code y index b c ≡ cell index p
    unfolding pair_code
    code_at index p e h =
        let l = led (omega (arith, e)) in
        let t = trailed (omega (arith, e)) in
        rw (l, t) (ap (cell index) (sym (e ∙ by_row l t)))
