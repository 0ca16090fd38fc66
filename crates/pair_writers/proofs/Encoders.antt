-- The encoders by their tests, and the rows that their pointers stand in. Assumes nothing.
use mathlib.Core.Path.{◌≡◌, refl, sym, ap, ◌∙◌}
use mathlib.Core.Bool.{Bool, true, false, ◌||◌}
use mathlib.Core.List.{List, [], ◌∷◌}
use mathlib.Core.Option.{Option, some, none}
use Prim.Native.Nat.{ℕ, ◌+◌, ◌-◌, ◌≤◌, ◌<◌}
use native.Mathlib.Omega.{arith}
use lib.Dec.{eqb}
use lib.ListN.{length}
use borrow.Author.Tests.{lt-ltb, le-ltb, le-leb, lt-leb, eqb-true, eqb-false, eq-eqb, ne_eqb}
use Rattle.standard.specs.Base.{◌then◌else◌, within}
use Rattle.standard.specs.Machine.{tokens, error_with}
use Rattle.standard.specs.Layouts.{Layout}
use Rattle.standard.specs.Search.{pass_over, Side, first, last, Lookup}
use Rattle.standard.specs.Encoders.Pairs.{pair_or_error_with, minus}
use Rattle.standard.specs.Encoders.Gb18030.{gb18030_encode}
use Rattle.standard.specs.Encoders.Big5.{big5_over, big5_encode}
use Rattle.standard.specs.Encoders.EucKr.{euc_kr_encode}
use Rattle.standard.specs.Encoders.EucJp.{jis0208_over, euc_jp_encode}
use Rattle.standard.specs.Encoders.ShiftJis.{shift_jis_over, shift_jis_encode}
use Rattle.standard.specs.Encoders.Iso2022Jp.{control, changed}
use Rattle.standard.specs.Ones.{changed_pair, iso2022_jp_encode}
use Rattle.standard.specs.Sequence.{cell}
use Rattle.standard.proofs.AgreementsLeaves.{index_null}
use Rattle.standard.proofs.ReadsBackPairs.{jis0208_row}
use Rattle.standard.proofs.Tests.{split, within_low}
use Rattle.layouts.specs.Rows.{layout_of}
use Rattle.layouts.proofs.Rows.{layout_gb18030, layout_big5, layout_euc_jp, layout_iso_2022_jp, layout_shift_jis}
use Rattle.index.specs.IndexCode.{pointer_of}
use Rattle.std.specs.Prelude.{Option as Found}
use Rattle.reverse_index_spec.specs.ReverseIndex.{look_up}
use Rattle.reverse_index_spec.proofs.LookUp.{look_up-sound, none_passed}
use Rattle.pair_writers.specs.Pairs.{pair_encode, InRows, Inside}

-- past 0x80
module _ (c : ℕ) where
  -- a scalar of its own byte
  module _ (look : Lookup) where
    pub shift_jis-self : c ≤ 0x80 → tokens (c ∷ []) ≡ shift_jis_encode look c
    unfolding shift_jis_encode
    shift_jis-self h = split (eqb c 0x80) (λ e. rw (eqb-true c 0x80 e)) (λ e. rw (lt-ltb c 0x80 (omega (arith, eqb-false c 0x80 e))))

    pub euc_jp-self : c < 0x80 → tokens (c ∷ []) ≡ euc_jp_encode look c
    unfolding euc_jp_encode
    euc_jp-self h = rw (lt-ltb c 0x80 h)

    -- U+00A5 and U+203E
    pub shift_jis-yen : c ≡ 0xA5 → tokens (0x5C ∷ []) ≡ shift_jis_encode look c
    unfolding shift_jis_encode
    shift_jis-yen e = rw e

    pub euc_jp-yen : c ≡ 0xA5 → tokens (0x5C ∷ []) ≡ euc_jp_encode look c
    unfolding euc_jp_encode
    euc_jp-yen e = rw e

    pub shift_jis-overline : c ≡ 0x203E → tokens (0x7E ∷ []) ≡ shift_jis_encode look c
    unfolding shift_jis_encode
    shift_jis-overline e = rw e

    pub euc_jp-overline : c ≡ 0x203E → tokens (0x7E ∷ []) ≡ euc_jp_encode look c
    unfolding euc_jp_encode
    euc_jp-overline e = rw e

    module _ (yen : c ≡ 0xA5 → ⊥) (overline : c ≡ 0x203E → ⊥) where
      -- katakana of half width, and the others by their pointer
      module _ (l : 0x80 < c) where
        pub shift_jis-katakana : within 0xFF61 c 0xFF9F ≡ true → tokens ((c - 0xFF61 + 0xA1) ∷ []) ≡ shift_jis_encode look c
        unfolding shift_jis_encode
        shift_jis-katakana h = rw (le-ltb c 0x80 (omega arith), ne_eqb c 0x80 (λ z. omega arith), ne_eqb c 0xA5 yen, ne_eqb c 0x203E overline, h)

        pub shift_jis-pair : within 0xFF61 c 0xFF9F ≡ false → pair_or_error_with (layout_of 34) (look first shift_jis_over (minus c)) (minus c) ≡ shift_jis_encode look c
        unfolding shift_jis_encode
        shift_jis-pair h = rw (layout_shift_jis 34 refl, le-ltb c 0x80 (omega arith), ne_eqb c 0x80 (λ z. omega arith), ne_eqb c 0xA5 yen, ne_eqb c 0x203E overline, h)

      module _ (l : 0x80 ≤ c) where
        pub euc_jp-katakana : within 0xFF61 c 0xFF9F ≡ true → tokens (0x8E ∷ (c - 0xFF61 + 0xA1) ∷ []) ≡ euc_jp_encode look c
        unfolding euc_jp_encode
        euc_jp-katakana h = rw (le-ltb c 0x80 l, ne_eqb c 0xA5 yen, ne_eqb c 0x203E overline, h)

        pub euc_jp-pair : within 0xFF61 c 0xFF9F ≡ false → pair_or_error_with (layout_of 32) (look first jis0208_over (minus c)) (minus c) ≡ euc_jp_encode look c
        unfolding euc_jp_encode
        euc_jp-pair h = rw (layout_euc_jp 32 refl, le-ltb c 0x80 l, ne_eqb c 0xA5 yen, ne_eqb c 0x203E overline, h)

-- ISO-2022-JP: a control, ASCII, U+00A5 and U+203E, and the others by what they are changed to.
module _ (look : Lookup) (katakana : List ℕ) (c : ℕ) where
  pub iso_2022_jp_ascii : c < 0x80 → (control c then error_with 0xFFFD else tokens (c ∷ [])) ≡ iso2022_jp_encode look katakana c
  unfolding iso2022_jp_encode
  iso_2022_jp_ascii l = rw (lt-ltb c 0x80 l)

  pub iso_2022_jp_yen : c ≡ 0xA5 → tokens (0x5C ∷ []) ≡ iso2022_jp_encode look katakana c
  unfolding iso2022_jp_encode
  iso_2022_jp_yen e = rw e

  pub iso_2022_jp_overline : c ≡ 0x203E → tokens (0x7E ∷ []) ≡ iso2022_jp_encode look katakana c
  unfolding iso2022_jp_encode
  iso_2022_jp_overline e = rw e

  module _ (l : 0x80 ≤ c) (yen : c ≡ 0xA5 → ⊥) (overline : c ≡ 0x203E → ⊥) where
    no_control : control c ≡ false
    no_control = rw (ne_eqb c 0x0E (λ z. omega arith), ne_eqb c 0x0F (λ z. omega arith), ne_eqb c 0x1B (λ z. omega arith))

    others : changed_pair look (changed katakana c) c ≡ iso2022_jp_encode look katakana c
    unfolding iso2022_jp_encode
    others = rw (no_control, le-ltb c 0x80 l, ne_eqb c 0xA5 yen, ne_eqb c 0x203E overline)

    pub iso_2022_jp_unmapped : none ≡ changed katakana c → error_with c ≡ iso2022_jp_encode look katakana c
    iso_2022_jp_unmapped q = ap (λ (o : Option ℕ). changed_pair look o c) q ∙ others

    pub iso_2022_jp_pair : (d : ℕ) → some d ≡ changed katakana c →
        pair_or_error_with (layout_of 33) (look first jis0208_over d) d ≡ iso2022_jp_encode look katakana c
    iso_2022_jp_pair d q = rw (layout_iso_2022_jp 33 refl) (ap (λ (o : Option ℕ). changed_pair look o c) q ∙ others)

-- What U+2212, a katakana of half width and any other is changed to.
module _ (katakana : List ℕ) (c : ℕ) where
  module _ (h : within 0xFF61 c 0xFF9F ≡ true) where
    mapped_cell : (eqb (cell katakana (c - 0xFF61)) 0 then none else some (cell katakana (c - 0xFF61))) ≡ changed katakana c
    mapped_cell =
        let large : 0xFF61 ≤ c = within_low 0xFF61 c 0xFF9F h in
        rw (ne_eqb c 0x2212 (λ z. omega arith), h) (sym (index_null katakana (c - 0xFF61)))

    pub changed_none : cell katakana (c - 0xFF61) ≡ 0 → none ≡ changed katakana c
    changed_none z = sym (rw (eq-eqb _ 0 z)) ∙ mapped_cell

    pub changed_cell : (d : ℕ) → d ≡ cell katakana (c - 0xFF61) → (d ≡ 0 → ⊥) → some d ≡ changed katakana c
    changed_cell d e n = rw e (sym (rw (ne_eqb (cell katakana (c - 0xFF61)) 0 (λ z. n (e ∙ z)))) ∙ mapped_cell)

  pub changed_other : within 0xFF61 c 0xFF9F ≡ false → some (minus c) ≡ changed katakana c
  changed_other h = split (eqb c 0x2212) (λ e. rw e) (λ e. rw (e, h))

-- The rows that are searched: all 60 of Shift_JIS, and what stands below 8,836 of EUC-JP and ISO-2022-JP.
pub shift_jis-rows : (table : List ℕ) → length table ≡ 11280 → InRows 8272 10715 table (layout_of 34)
shift_jis-rows table e p h s = rw (layout_shift_jis 34 refl) (omega arith)

pub euc_jp-rows : (table : List ℕ) → length table ≡ 11280 → InRows 8836 11279 table (layout_of 32)
euc_jp-rows table e p h s = rw (layout_euc_jp 32 refl) (jis0208_row (length table) p (omega arith) h s)

pub iso_2022_jp_rows : (table : List ℕ) → length table ≡ 11280 → InRows 8836 11279 table (layout_of 33)
iso_2022_jp_rows table e p h s = rw (layout_iso_2022_jp 33 refl) (jis0208_row (length table) p (omega arith) h s)

-- Big5, and those that pass over nothing, stand in their rows.
pub big5_rows : (table : List ℕ) → length table ≡ 19782 → InRows 0 5023 table (layout_of 31)
big5_rows table e p h s = rw (layout_big5 31 refl) (omega arith)

pub gb18030_rows : (table : List ℕ) → length table ≡ 23940 → InRows 1 0 table (layout_of 30)
gb18030_rows table e p h s = rw (layout_gb18030 30 (omega arith)) (omega arith)

pub euc_kr-rows : (table : List ℕ) → length table ≡ 23940 → InRows 1 0 table (layout_of 35)
unfolding layout_of
euc_kr-rows table e p h s = omega arith

-- A pointer that is looked up stands in the rows.
pub in_rows : (side : Side) (y : Layout) (low high : ℕ) (table links : List ℕ) (c : ℕ) → InRows low high table y →
    (f : Found ℕ) → pointer_of f ≡ look_up table links side (pass_over low high) c → Inside y f
in_rows side y low high table links c i f e p q =
    let k = look_up-sound table links side (pass_over low high) c p (sym e ∙ q) in
    i p k.inside k.searched

-- the encoders of Ask 7
module _ (c : ℕ) where
  pub euc_kr-self : (look : Lookup) → c < 0x80 → tokens (c ∷ []) ≡ euc_kr_encode look c
  unfolding euc_kr_encode
  euc_kr-self look h = rw (lt-ltb c 0x80 h)

  pub euc_kr-pair : (table links : List ℕ) → 0x80 ≤ c →
      pair_or_error_with (layout_of 35) (look_up table links first (pass_over 1 0) c) c ≡ euc_kr_encode (look_up table links) c
  unfolding euc_kr_encode layout_of
  euc_kr-pair table links h = rw (le-ltb c 0x80 h, none_passed table links first c)

  pub big5_self : (look : Lookup) → c < 0x80 → tokens (c ∷ []) ≡ big5_encode look c
  unfolding big5_encode
  big5_self look h = rw (lt-ltb c 0x80 h)

  -- the side is `last` or `first` by the test
  pub big5_pair_lem : (look : Lookup) → 0x80 ≤ c → (t : Bool) →
      t ≡ (eqb c 0x2550 || eqb c 0x255E || eqb c 0x2561 || eqb c 0x256A || eqb c 0x5341 || eqb c 0x5345) →
      pair_or_error_with (layout_of 31) (look (t then last else first) big5_over c) c ≡ big5_encode look c
  unfolding big5_encode
  big5_pair_lem look h t e = rw (layout_big5 31 refl, le-ltb c 0x80 h, ← e)

-- by the encoding's number
module _ (e : ℕ) (look : Lookup) (second : List ℕ) (c : ℕ) where
  pub of_gb18030 : e ≤ 30 → gb18030_encode (eqb e 29) look second c ≡ pair_encode e look second c
  unfolding pair_encode
  of_gb18030 h = rw (le-leb e 30 h)

  pub of_big5 : e ≡ 31 → big5_encode look c ≡ pair_encode e look second c
  unfolding pair_encode
  of_big5 h = rw h

  pub of_euc_jp : e ≡ 32 → euc_jp_encode look c ≡ pair_encode e look second c
  unfolding pair_encode
  of_euc_jp h = rw h

  pub of_iso_2022_jp : e ≡ 33 → iso2022_jp_encode look second c ≡ pair_encode e look second c
  unfolding pair_encode
  of_iso_2022_jp h = rw h

  pub of_shift_jis : e ≡ 34 → shift_jis_encode look c ≡ pair_encode e look second c
  unfolding pair_encode
  of_shift_jis h = rw h

  pub of_euc_kr : 34 < e → euc_kr_encode look c ≡ pair_encode e look second c
  unfolding pair_encode
  of_euc_kr h =
      rw (
        lt-leb e 30 (omega arith),
        ne_eqb e 31 (λ z. omega arith),
        ne_eqb e 32 (λ z. omega arith),
        ne_eqb e 33 (λ z. omega arith),
        ne_eqb e 34 (λ z. omega arith),
      )

-- its table is not long
