-- Pairs by rows and columns, in the encodings of one and two bytes and in gb18030. Assumes nothing.
use mathlib.Core.Path.{◌≡◌, refl, sym, ap, ◌∙◌}
use mathlib.Core.Bool.{true, false}
use mathlib.Core.List.{List, [], ◌∷◌}
use Prim.Native.Nat.{ℕ, ◌+◌, ◌-◌, ◌*◌, ◌≤◌, ◌<◌}
use native.Mathlib.Omega.{arith}
use lib.Dec.{ltb, leb, eqb}
use lib.ListN.{length}
use borrow.Author.Tests.{lt-ltb, le-ltb, lt-leb, le-leb, ltb-true, ltb-false, leb-true, leb-false, ne_eqb, eqb-true, eqb-false}
use Rattle.std.specs.Prelude.{Option, Some, None, IfSome, MatchOption}
use Rattle.standard.specs.Base.{◌then◌else◌, within}
use Rattle.standard.specs.Encodings.{family, lent}
use Rattle.standard.specs.Layouts.{number, Layout, leads, trails, pointer_of, pair_code, gb18030_layout, big5_layout, euc_jp_layout, shift_jis_layout, euc_kr_layout}
use Rattle.standard.specs.Sequence.{plain, scalar, bad, pair, cell}
use Rattle.standard.specs.Next.{next}
use Rattle.standard.specs.Sequences.Big5.{big5, big5_pair, big5_trail}
use Rattle.standard.specs.Sequences.EucJp.{euc_jp}
use Rattle.standard.specs.Sequences.EucKr.{euc_kr}
use Rattle.standard.specs.Sequences.Gb18030.{gb18030}
use Rattle.standard.specs.Sequences.ShiftJis.{shift_jis}
use Rattle.standard.proofs.Families.{beyond, is_gb18030, is_big5, is_euc_jp, is_shift_jis, is_euc_kr}
use Rattle.standard.proofs.Layouts.{Proper, least, ranges_under, number_below, pair_led, gb18030_regular, big5_regular, euc_jp-regular, shift_jis-regular, euc_kr-regular}
use Rattle.standard.proofs.UserRows.{shift_jis-other}
use Rattle.standard.proofs.Tests.{split, above, out_above, within_low, within_high}
use Rattle.index.proofs.Cells.{cell_out}
use Rattle.layouts.specs.Rows.{no_cell, place, layout_of}
use Rattle.layouts.specs.Rows.{row as row_in, column as column_in}
use Rattle.layouts.proofs.Rows.{led, by_row, layout_gb18030, layout_big5, layout_euc_jp, layout_shift_jis, layout_euc_kr}
use Rattle.sequences.proofs.Leaves.{trailed_some}
use Rattle.sequences.proofs.Big5Leaves.{big5_led}
use Rattle.sequences.proofs.EucJpLeaves.{euc_jp-led}
use Rattle.sequences.proofs.EucKrLeaves.{euc_kr-led}
use Rattle.sequences.proofs.Gb18030Leaves.{gb18030_led}
use Rattle.sequences.proofs.ShiftJisLeaves.{shift_jis-led, code_private}
use Rattle.pair_runs.specs.Layout.{left_out, row, column}
use Rattle.pair_runs.proofs.Layouts.{left_big5, left_shift_jis, row_in_lem, row_out, is_last}
use Rattle.pair_runs.specs.Paired.{Paired}

-- the code point after a lead, by its row and column
no_column : (y : Layout) (c : ℕ) → trails y c ≡ false → column_in y c ≡ no_cell
unfolding place
no_column y c h = rw h

by_column : (y : Layout) (t : List ℕ) (b c : ℕ) → length t ≤ no_cell → leads y b ≡ true → pair_code y t b c ≡ cell t (row_in y b + column_in y c)
by_column y t b c h l = pair_led y t b c l ∙ split (trails y c)
    (λ g. rw g (ap (cell t) (sym (by_row y b c l g))))
    (λ g. rw g (sym (cell_out t (row_in y b + column_in y c) (omega (arith, h, no_column y c g)))))

-- a lead of Big5 other than 88 gives one scalar
big5_one : (b c : ℕ) (t : List ℕ) → leads big5_layout b ≡ true → (b ≡ 0x88 → ⊥) → big5_trail t b c ≡ pair c (pair_code big5_layout t b c)
unfolding big5_pair pointer_of
big5_one b c t l n = rw (pair_led big5_layout t b c l) (split (trails big5_layout c) (λ g. rw g (one (number_below big5_layout.trail 157 c big5_regular.columns g))) (λ g. rw g))
  where
    one : number big5_layout.trail c < 157 → big5_pair b c (pair c (cell t (pointer_of big5_layout b c))) ≡ pair c (cell t (pointer_of big5_layout b c))
    one k =
        let m = within_low 0x81 b 0xFE l in
        let out : (q : ℕ) → 1133 ≤ q → q ≤ 1166 → (b - 0x81) * 157 + (c - (ltb c 0x7F then 0x40 else 0x62)) ≡ q → ⊥ = λ q u v e.
        split (ltb b 0x88) (λ t. let w = ltb-true b 0x88 t in absurd (omega arith)) (λ t. let w = beyond 0x88 b (ltb-false b 0x88 t) n in absurd (omega arith)) in
        rw (
          ne_eqb (pointer_of big5_layout b c) 1133 (out 1133 (omega arith) (omega arith)),
          ne_eqb (pointer_of big5_layout b c) 1135 (out 1135 (omega arith) (omega arith)),
          ne_eqb (pointer_of big5_layout b c) 1164 (out 1164 (omega arith) (omega arith)),
          ne_eqb (pointer_of big5_layout b c) 1166 (out 1166 (omega arith) (omega arith)),
        )

-- a trail below 40 has no column
low_column : (y : Layout) (c : ℕ) → Proper y.trail y.divisor → c < least y.trail → column_in y c ≡ no_cell
low_column y c p h = no_column y c (ranges_under y.trail y.divisor c p h)

-- an encoding with pairs
module _ (t1 t2 : List ℕ) (e : ℕ) (E : Paired e) where
  -- what holds of each of them
  each : (P : Type 0) → (e ≤ 30 → P) → (e ≡ 31 → P) → (e ≡ 32 → P) → (e ≡ 34 → P) → (e ≡ 35 → P) → P
  each P gb18030 big5 euc-jp shift-jis euc-kr =
      split (leb e 30) (λ t. gb18030 (leb-true e 30 t)) (λ f30.
      split (eqb e 31) (λ t. big5 (eqb-true e 31 t)) (λ f31.
      split (eqb e 32) (λ t. euc-jp (eqb-true e 32 t)) (λ f32.
      split (eqb e 34) (λ t. shift-jis (eqb-true e 34 t)) (λ f34.
      euc-kr (is_last e E (leb-false e 30 f30) (eqb-false e 31 f31) (eqb-false e 32 f32) (eqb-false e 34 f34))))))

  -- a lead with a row
  lead_row : (b : ℕ) → row e b < no_cell → (left_out e b ≡ false) × (leads (layout_of e) b ≡ true)
  lead_row b h = split (left_out e b) (λ t. absurd (omega (arith, h, row_out e b t))) (λ f. (f, led (layout_of e) b 0 (omega (arith, h, row_in_lem e b f))))

  -- the sequence of two bytes, by the layout
  laid : (b c : ℕ) (xs : List ℕ) → leads (layout_of e) b ≡ true → left_out e b ≡ false → within 0x30 c 0x39 ≡ false →
      next (lent t1 t2) (family e) plain (b ∷ c ∷ xs) ≡ pair c (pair_code (layout_of e) t1 b c)
  laid b c xs h o d =
      each (next (lent t1 t2) (family e) plain (b ∷ c ∷ xs) ≡ pair c (pair_code (layout_of e) t1 b c))
      (λ k. let y = layout_gb18030 e k in is_gb18030 t1 t2 e plain (b ∷ c ∷ xs) (omega arith) k ∙ rw y (gb18030_led (lent t1 t2) b (c ∷ xs) (rw y at h) ∙ rw d))
      (λ k. let y = layout_big5 e k in let n = sym (left_big5 e b k) ∙ o in
      is_big5 t1 t2 e plain (b ∷ c ∷ xs) k ∙ rw y (big5_led (lent t1 []) b (c ∷ xs) (rw y at h) ∙ big5_one b c t1 (rw y at h) (eqb-false b 0x88 n)))
      (λ k. let y = layout_euc_jp e k in is_euc_jp t1 t2 e plain (b ∷ c ∷ xs) k ∙ rw y (euc_jp-led (lent t1 t2) b (c ∷ xs) (rw y at h)))
      (λ k. let y = layout_shift_jis e k in is_shift_jis t1 t2 e plain (b ∷ c ∷ xs) k ∙ rw y (shift_jis-led (lent t1 []) b (c ∷ xs) (rw y at h) ∙ ap (pair c) (shift_jis-other t1 b c (sym (left_shift_jis e b k) ∙ o))))
      (λ k. let y = layout_euc_kr e (omega arith) (λ z. omega arith) (λ z. omega arith) (λ z. omega arith) (λ z. omega arith) in
      is_euc_kr t1 t2 e plain (b ∷ c ∷ xs) k ∙ rw y (euc_kr-led (lent t1 []) b (c ∷ xs) (rw y at h)))

  pub paired : length t1 ≤ no_cell → (b c : ℕ) (xs : List ℕ) → row e b < no_cell → within 0x30 c 0x39 ≡ false →
      next (lent t1 t2) (family e) plain (b ∷ c ∷ xs) ≡ pair c (cell t1 (row e b + column e c))
  unfolding column
  paired l b c xs h d =
      let k = lead_row b h in
      laid b c xs k.1 k.0 d ∙ ap (pair c) (by_column (layout_of e) t1 b c l k.1) ∙ rw (row_in_lem e b k.0)

  column_low : (c : ℕ) → c < 0x40 → column e c ≡ no_cell
  unfolding column
  column_low c h =
      each (column_in (layout_of e) c ≡ no_cell)
      (λ k. rw (layout_gb18030 e k) (low_column gb18030_layout c gb18030_regular.columns h))
      (λ k. rw (layout_big5 e k) (low_column big5_layout c big5_regular.columns h))
      (λ k. rw (layout_euc_jp e k) (low_column euc_jp_layout c euc_jp-regular.columns (omega arith)))
      (λ k. rw (layout_shift_jis e k) (low_column shift_jis_layout c shift_jis-regular.columns h))
      (λ k. rw (layout_euc_kr e (omega arith) (λ z. omega arith) (λ z. omega arith) (λ z. omega arith) (λ z. omega arith)) (low_column euc_kr_layout c euc_kr-regular.columns (omega arith)))

  -- a pair with a code point
  pub found_pair : length t1 ≤ no_cell → (b c u : ℕ) → u ≡ cell t1 (row e b + column e c) → (u ≡ 0 → ⊥) → (xs : List ℕ) → next (lent t1 t2) (family e) plain (b ∷ c ∷ xs) ≡ scalar 2 u
  found_pair l b c u q n xs =
      let past : no_cell ≤ row e b + column e c → ⊥ = λ h. n (q ∙ cell_out t1 (row e b + column e c) (omega (arith, l, h))) in
      let lead : row e b < no_cell = split (ltb (row e b) no_cell) (λ t. ltb-true (row e b) no_cell t) (λ f. absurd (past (omega (arith, ltb-false (row e b) no_cell f)))) in
      let digit : within 0x30 c 0x39 ≡ false = split (within 0x30 c 0x39) (λ t. absurd (past (omega (arith, column_low c (omega (arith, within_high 0x30 c 0x39 t)))))) (λ f. f) in
      paired l b c xs lead digit ∙ ap (pair c) (sym q) ∙ trailed_some 1 2 c u n

  -- a pair without one
  pub bad_pair : length t1 ≤ no_cell → (b c w : ℕ) → cell t1 (row e b + column e c) ≡ 0 → row e b < no_cell → within 0x30 c 0x39 ≡ false → w ≡ (ltb c 0x80 then 1 else 2) → (xs : List ℕ) → next (lent t1 t2) (family e) plain (b ∷ c ∷ xs) ≡ bad w
  bad_pair l b c w q h d k xs = paired l b c xs h d ∙ rw q (ap bad (sym k))

  -- ASCII
  pub self_pairs : (b : ℕ) (ys : List ℕ) → b < 0x80 → next (lent t1 t2) (family e) plain (b ∷ ys) ≡ scalar 1 b
  unfolding gb18030 big5 euc_jp shift_jis euc_kr
  self_pairs b ys h =
      each (next (lent t1 t2) (family e) plain (b ∷ ys) ≡ scalar 1 b)
      (λ k. is_gb18030 t1 t2 e plain (b ∷ ys) (omega arith) k ∙ rw (lt-ltb b 0x80 h))
      (λ k. is_big5 t1 t2 e plain (b ∷ ys) k ∙ rw (lt-ltb b 0x80 h))
      (λ k. is_euc_jp t1 t2 e plain (b ∷ ys) k ∙ rw (lt-ltb b 0x80 h))
      (λ k. is_shift_jis t1 t2 e plain (b ∷ ys) k ∙ rw (le-leb b 0x80 (omega arith)))
      (λ k. is_euc_kr t1 t2 e plain (b ∷ ys) k ∙ rw (lt-ltb b 0x80 h))

  -- FF, an error but in EUC-JP and Shift_JIS, which are told apart before
  pub bad_ff : (e ≡ 32 → ⊥) → (e ≡ 34 → ⊥) → (b : ℕ) (ys : List ℕ) → b ≡ 0xFF → next (lent t1 t2) (family e) plain (b ∷ ys) ≡ bad 1
  unfolding gb18030 big5 euc_kr
  bad_ff f g b ys h =
      each (next (lent t1 t2) (family e) plain (b ∷ ys) ≡ bad 1)
      (λ k. is_gb18030 t1 t2 e plain (b ∷ ys) (omega arith) k ∙ rw h)
      (λ k. is_big5 t1 t2 e plain (b ∷ ys) k ∙ rw h)
      (λ k. absurd (f k))
      (λ k. absurd (g k))
      (λ k. is_euc_kr t1 t2 e plain (b ∷ ys) k ∙ rw h)

  -- 80: the euro sign in gb18030, else an error
  pub euro : (b : ℕ) (ys : List ℕ) → e ≤ 30 → b ≡ 0x80 → next (lent t1 t2) (family e) plain (b ∷ ys) ≡ scalar 1 0x20AC
  unfolding gb18030
  euro b ys k h = is_gb18030 t1 t2 e plain (b ∷ ys) (omega arith) k ∙ rw h

  pub bad_80 : 30 < e → (e ≡ 32 → ⊥) → (e ≡ 34 → ⊥) → (b : ℕ) (ys : List ℕ) → b ≡ 0x80 → next (lent t1 t2) (family e) plain (b ∷ ys) ≡ bad 1
  unfolding big5 euc_kr
  bad_80 m f g b ys h =
      each (next (lent t1 t2) (family e) plain (b ∷ ys) ≡ bad 1)
      (λ k. absurd (omega arith))
      (λ k. is_big5 t1 t2 e plain (b ∷ ys) k ∙ rw h)
      (λ k. absurd (f k))
      (λ k. absurd (g k))
      (λ k. is_euc_kr t1 t2 e plain (b ∷ ys) k ∙ rw h)

-- a byte that is neither a lead nor FF
pub is_80 : (b : ℕ) → within 0x81 b 0xFE ≡ false → 0x80 ≤ b → b < 256 → (b ≡ 0xFF → ⊥) → b ≡ 0x80
is_80 b f l m n = split (ltb b 0x81) (λ t. let k = ltb-true b 0x81 t in omega arith) (λ g. absurd (n (let k = out_above 0x81 b 0xFE f (ltb-false b 0x81 g) in omega arith)))

-- single bytes of Shift_JIS and EUC-JP, katakana after 8E, and pairs of the user rows
module _ (t1 t2 : List ℕ) (b : ℕ) (xs : List ℕ) where
  pub kana_single : within 0xA1 b 0xDF ≡ true → next (lent t1 t2) (family 34) plain (b ∷ xs) ≡ scalar 1 (0xFF61 - 0xA1 + b)
  unfolding shift_jis
  kana_single h = is_shift_jis t1 t2 34 plain (b ∷ xs) refl ∙ rw (lt-leb b 0x80 (omega (arith, within_low 0xA1 b 0xDF h)), h)

  pub single_80 : b ≡ 0x80 → next (lent t1 t2) (family 34) plain (b ∷ xs) ≡ scalar 1 0x80
  unfolding shift_jis
  single_80 h = is_shift_jis t1 t2 34 plain (b ∷ xs) refl ∙ rw h

  pub bad_a0 : b ≡ 0xA0 → next (lent t1 t2) (family 34) plain (b ∷ xs) ≡ bad 1
  unfolding shift_jis
  bad_a0 h = is_shift_jis t1 t2 34 plain (b ∷ xs) refl ∙ rw h

  pub bad_above_fc : 0xFC < b → next (lent t1 t2) (family 34) plain (b ∷ xs) ≡ bad 1
  unfolding shift_jis
  bad_above_fc h = is_shift_jis t1 t2 34 plain (b ∷ xs) refl ∙ rw (lt-leb b 0x80 (omega arith), above 0xA1 b 0xDF (omega arith), above 0x81 b 0x9F (omega arith), above 0xE0 b 0xFC h)

  pub bad_euc_jp : 0x80 ≤ b → within 0xA1 b 0xFE ≡ false → (b ≡ 0x8E → ⊥) → (b ≡ 0x8F → ⊥) → next (lent t1 t2) (family 32) plain (b ∷ xs) ≡ bad 1
  unfolding euc_jp
  bad_euc_jp l h f g = is_euc_jp t1 t2 32 plain (b ∷ xs) refl ∙ rw (le-ltb b 0x80 l, ne_eqb b 0x8E f, ne_eqb b 0x8F g, h)

  pub kana_pair : (c : ℕ) → b ≡ 0x8E → within 0xA1 c 0xDF ≡ true → next (lent t1 t2) (family 32) plain (b ∷ c ∷ xs) ≡ scalar 2 (0xFF61 - 0xA1 + c)
  unfolding euc_jp
  kana_pair c h k = is_euc_jp t1 t2 32 plain (b ∷ c ∷ xs) refl ∙ rw (h, k) (trailed_some 1 2 c (0xFF61 - 0xA1 + c) (λ z. omega arith))

  pub user_pair : (c p : ℕ) → p ≡ row_in shift_jis_layout b + column_in shift_jis_layout c → 8836 ≤ p → p ≤ 10715 →
      next (lent t1 t2) (family 34) plain (b ∷ c ∷ xs) ≡ scalar 2 (0xE000 - 8836 + p)
  user_pair c p e h k =
      is_shift_jis t1 t2 34 plain (b ∷ c ∷ xs) refl ∙
      shift_jis-led (lent t1 []) b (c ∷ xs) (led shift_jis_layout b (column_in shift_jis_layout c) (omega (arith, e, k))) ∙
      ap (pair c) (sym (code_private t1 b c p e h k)) ∙ trailed_some 1 2 c (0xE000 - 8836 + p) (λ z. omega arith)

-- what is said of none, and of a scalar
pub told_both : {N : Type 0} (r : Option ℕ) {P Q : ℕ → Type 0} → N → IfSome r P → ((c : ℕ) → P c → Q c) → MatchOption r N Q
told_both None n p f = n
told_both (Some c) n p f = f c p
