-- gb18030's fallback: the last pair, the reading of a pointer, and the four bytes. Assumes nothing.
use mathlib.Core.Path.{◌≡◌, refl, sym, ap, ◌∙◌}
use mathlib.Core.Bool.{Bool, true, false, ◌&&◌, ◌||◌, or-true}
use mathlib.Core.List.{List, [], ◌∷◌, ◌++◌}
use lib.ListN.{length, get_or}
use mathlib.Core.Option.{Option, some, none}
use Prim.Native.Nat.{ℕ, ◌≤◌, ◌<◌}
use native.Mathlib.Omega.{arith}
use lib.Dec.{ltb, eqb, leb-suc-suc}
use borrow.Author.Tests.{lt-ltb, le-ltb, eqb-true, eqb-false, eq-eqb, ne_eqb}
use Rattle.standard.specs.Base.{◌then◌else◌, within, mapped}
use Rattle.standard.specs.Indexes.{Range, last_pair, last_range, range_sum, ranges_code_point, last_code_point, pointer_sum, ranges_pointer}
use Rattle.standard.specs.Machine.{Result, tokens, error_with}
use Rattle.standard.specs.Layouts.{Layout}
use Rattle.standard.specs.Search.{pass_over, first}
use Rattle.standard.specs.Encoders.Pairs.{pair_or, pair_or_error_with}
use Rattle.standard.specs.Encoders.Gb18030.{four_bytes, gives_back, four_or_error_with, gb18030_encode}
use Rattle.standard.proofs.Tests.{split}
use Rattle.layouts.specs.Rows.{layout_of}
use Rattle.layouts.specs.Ranges.{Ascending, not_above, total, onward, last_sum}
use Rattle.layouts.proofs.Rows.{layout_gb18030}
use Rattle.pair_writers.specs.Pairs.{told}
use Rattle.pair_writers.specs.declared.One.{One}
use Rattle.pair_writers.specs.declared.One.TheVariants.{Unwritable, Byte, Two, Four}
use Rattle.reverse_index_spec.specs.ReverseIndex.{look_up}
use Rattle.reverse_index_spec.proofs.LookUp.{none_passed}

-- the order of one column
pub column_of : (back : Bool) (ranges : List ℕ) → Ascending false ranges × Ascending true ranges → Ascending back ranges
column_of false ranges h = h.0
column_of true ranges h = h.1

-- One pair less at the front, and none left.
module _ (back : Bool) (x found : ℕ) where
  pub sum_pair : (pair rest : List ℕ) {ranges : List ℕ} → ranges ≡ pair ++ rest → length pair ≡ 2 →
      last_sum back ranges x found ≡ last_sum back rest x (onward back (get_or pair 0 0) (get_or pair 1 0) x found)
  unfolding last_sum
  sum_pair [] rest e l = absurd (omega arith)
  sum_pair (p ∷ []) rest e l = absurd (omega arith)
  sum_pair (p ∷ c ∷ []) rest e l = rw e
  sum_pair (p ∷ c ∷ d ∷ more) rest e l = absurd (omega arith)

  pub sum_short : (ranges : List ℕ) → length ranges < 2 → last_sum back ranges x found ≡ found
  unfolding last_sum
  sum_short [] l = refl
  sum_short (p ∷ []) l = refl
  sum_short (p ∷ c ∷ ranges) l = absurd (omega arith)

-- The last pair: the code keeps the answer so far, the standard searches from the end.
abbrev sum_or : Bool → ℕ → ℕ → Option Range → ℕ
sum_or back x found (some r) = total back x r
sum_or back x found none = found

same_sum : (back : Bool) (ranges : List ℕ) (x found : ℕ) →
    last_sum back ranges x found ≡ sum_or back x found (last_pair (not_above back x) ranges)
unfolding last_sum last_pair
same_sum back [] x found = refl
same_sum back (p ∷ []) x found = refl
same_sum back (p ∷ c ∷ ranges) x found =
    same_sum back ranges x (onward back p c x found) ∙ go (last_pair (not_above back x) ranges) (not_above back x r)
  where
    r : Range
    r = record { offset = p; code_point = c }

    go : (o : Option Range) (t : Bool) → sum_or back x (t then total back x (record { offset = p; code_point = c }) else found) o ≡
        sum_or back x found (elim o [ some r ↦ some r | none ↦ t then some (record { offset = p; code_point = c }) else none ])
    go (some r) t = refl
    go none true = refl
    go none false = refl

-- The reading of a pointer.
module _ (ranges : List ℕ) (p c : ℕ) where
  pub reads_gap : within 39420 p 188999 || ltb 1237575 p ≡ true → false ≡ gives_back (ranges_code_point ranges p) c
  unfolding ranges_code_point
  reads_gap h = rw (leb-suc-suc p 188999, h)

  pub reads_7457 : p ≡ 7457 → eqb c 0xE7C7 ≡ gives_back (ranges_code_point ranges p) c
  unfolding ranges_code_point
  reads_7457 h = rw h (split (eqb c 0xE7C7)
      (λ e. rw (e, eq-eqb 0xE7C7 c (sym (eqb-true c 0xE7C7 e))))
      (λ e. rw (e, ne_eqb 0xE7C7 c (λ z. eqb-false c 0xE7C7 e (sym z)))))

  module _ (h : within 39420 p 188999 || ltb 1237575 p ≡ false) (g : p ≡ 7457 → ⊥) where
    by_range : ranges_code_point ranges p ≡ range_sum p (last_range ranges p)
    unfolding ranges_code_point
    by_range = rw (leb-suc-suc p 188999, h, ne_eqb p 7457 g)

    module _ (x : ℕ) (e : x ≡ last_sum false ranges p 0) where
      pub reads_other : (x ≡ c → ⊥) → false ≡ gives_back (ranges_code_point ranges p) c
      reads_other n = rw by_range (go (last_range ranges p) (e ∙ same_sum false ranges p 0))
        where
          go : (o : Option Range) → x ≡ sum_or false p 0 o → false ≡ gives_back (range_sum p o) c
          go none q = refl
          go (some r) q = rw (← q) (split (mapped x) (λ m. rw (m, ne_eqb x c n)) (λ m. rw m))

      pub reads_same : x ≡ c → mapped c ≡ gives_back (ranges_code_point ranges p) c
      reads_same n = rw by_range (go (last_range ranges p) (sym n ∙ e ∙ same_sum false ranges p 0))
        where
          go : (o : Option Range) → c ≡ sum_or false p 0 o → mapped c ≡ gives_back (range_sum p o) c
          go none q = rw q
          go (some r) q = rw (← q) (split (mapped c) (λ m. rw (m, eq-eqb c c refl)) (λ m. rw m))

-- The four bytes of a code point.
module _ (ranges : List ℕ) (c : ℕ) where
  pub four_7457 : c ≡ 0xE7C7 → tokens (four_bytes 7457) ≡ four_or_error_with ranges (ranges_pointer ranges c) c
  unfolding ranges_pointer ranges_code_point
  four_7457 h = rw h

  module _ (n : c ≡ 0xE7C7 → ⊥) (p : ℕ) (e : p ≡ last_sum true ranges c 1237576) where
    -- 1,237,576 stands for none, and reads as none
    by_sum : four_or_error_with ranges (some p) c ≡ four_or_error_with ranges (ranges_pointer ranges c) c
    unfolding ranges_pointer ranges_code_point
    by_sum = rw (ne_eqb c 0xE7C7 n) (go (last_code_point ranges c) (e ∙ same_sum true ranges c 1237576))
      where
        go : (o : Option Range) → p ≡ sum_or true c 1237576 o → four_or_error_with ranges (some p) c ≡ four_or_error_with ranges (pointer_sum c o) c
        go none q = rw q
        go (some r) q = rw q

    pub four_past : 1237575 < p → error_with c ≡ four_or_error_with ranges (ranges_pointer ranges c) c
    unfolding ranges_code_point
    four_past h = past ∙ by_sum
      where
        past : error_with c ≡ four_or_error_with ranges (some p) c
        past = rw (lt-ltb 1237575 p h, or-true (ltb 39419 p && ltb p 189000))

    pub four_read : (t : Bool) → t ≡ gives_back (ranges_code_point ranges p) c →
        (t then tokens (four_bytes p) else error_with c) ≡ four_or_error_with ranges (ranges_pointer ranges c) c
    four_read t q = rw q by_sum

-- What the table answers: bytes, or an error that something else takes the place of.
module _ (y : Layout) (c : ℕ) (other : Result) where
  from_table : (o : One) → ((n : ℕ) → o ≡ Unwritable n → ⊥) → (p : Option ℕ) → told o ≡ pair_or_error_with y p c → told o ≡ pair_or y p other
  from_table o n (some p) t = t
  from_table (Unwritable k) n none t = absurd (n k refl)
  from_table (Byte b) n none t = let z : ◌≡◌ {A = ℕ} 0 1 = cc in absurd (omega arith)
  from_table (Two bs) n none t = let z : ◌≡◌ {A = ℕ} 0 1 = cc in absurd (omega arith)
  from_table (Four bs) n none t = let z : ◌≡◌ {A = ℕ} 0 1 = cc in absurd (omega arith)

  not_in_table : (n : ℕ) (p : Option ℕ) → error_with n ≡ pair_or_error_with y p c → other ≡ pair_or y p other
  not_in_table n none t = refl
  not_in_table n (some p) t = let z : ◌≡◌ {A = ℕ} 0 1 = cc in absurd (omega arith)

-- The encoder of GBK and gb18030, by its tests.
module _ (gbk : Bool) (table links ranges : List ℕ) (c : ℕ) where
  abbrev Encoded : Result → Type 0
  Encoded r = r ≡ gb18030_encode gbk (look_up table links) ranges c

  pub gb_self : c < 0x80 → Encoded (tokens (c ∷ []))
  unfolding gb18030_encode
  gb_self h = rw (lt-ltb c 0x80 h)

  pub gb_e5e5 : c ≡ 0xE5E5 → Encoded (error_with c)
  unfolding gb18030_encode
  gb_e5e5 h = rw h

  module _ (l : 0x80 ≤ c) (n : c ≡ 0xE5E5 → ⊥) where
    pub gb_euro : gbk && eqb c 0x20AC ≡ true → Encoded (tokens (0x80 ∷ []))
    unfolding gb18030_encode
    gb_euro h = rw (le-ltb c 0x80 l, ne_eqb c 0xE5E5 n, h)

    module _ (m : gbk && eqb c 0x20AC ≡ false) (o : One)
        (t : told o ≡ pair_or_error_with (layout_of 30) (look_up table links first (pass_over 1 0) c) c) where
      behind : Result
      behind = gbk then error_with c else four_or_error_with ranges (ranges_pointer ranges c) c

      by_table_lem : Encoded (pair_or (layout_of 30) (look_up table links first (pass_over 1 0) c) behind)
      unfolding gb18030_encode behind
      by_table_lem = rw (layout_gb18030 30 (omega arith), le-ltb c 0x80 l, ne_eqb c 0xE5E5 n, m, none_passed table links first c)

      pub gb_pair : ((n : ℕ) → o ≡ Unwritable n → ⊥) → Encoded (told o)
      gb_pair h = from_table (layout_of 30) c behind o h (look_up table links first (pass_over 1 0) c) t ∙ by_table_lem

      pub gb_gbk : gbk ≡ true → Encoded (told o)
      unfolding behind
      gb_gbk h =
          let b : behind ≡ error_with c = rw h in
          t ∙ ap (pair_or (layout_of 30) (look_up table links first (pass_over 1 0) c)) (sym b) ∙ by_table_lem

      pub gb_four : (n : ℕ) → o ≡ Unwritable n → gbk ≡ false → Encoded (four_or_error_with ranges (ranges_pointer ranges c) c)
      unfolding behind
      gb_four n z h =
          let b : behind ≡ four_or_error_with ranges (ranges_pointer ranges c) c = rw h in
          sym b ∙ not_in_table (layout_of 30) c behind n (look_up table links first (pass_over 1 0) c) (rw z at t) ∙ by_table_lem
