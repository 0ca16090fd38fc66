-- The most bytes that are written of some scalars, and UTF-8 in both modes. Assumes nothing.
use mathlib.Core.Path.{◌≡◌, refl, sym, ap, subst, ◌∙◌}
use mathlib.Core.Bool.{Bool, true, false, not, ◌&&◌, ◌||◌}
use mathlib.Core.List.{List, [], ◌∷◌, ◌++◌}
use mathlib.Core.Option.{Option, some, none}
use Prim.Native.Nat.{ℕ, suc, ◌+◌, ◌-◌, ◌*◌, ◌≤◌}
use native.Mathlib.Nat.{suc-mul}
use native.Mathlib.Omega.{arith}
use lib.Dec.{ltb, leb, eqb}
use lib.ListN.{length, get_or, length-append}
use borrow.Author.Tests.{ltb-true, ltb-false, leb-true, leb-false, eqb-true, eqb-false, le-ltb, eq-eqb, ne_eqb}
use Rattle.standard.specs.Base.{◌then◌else◌, within, every, is_scalar, scalars, mapped}
use Rattle.standard.specs.Handlers.{ascii}
use Rattle.standard.specs.Encodings.{Tables}
use Rattle.standard.specs.Indexes.{index_code_point, ranges_code_point, ranges_pointer, windows1252}
use Rattle.standard.specs.Layouts.{Layout, two_bytes, gb18030_layout, big5_layout, euc_jp_layout, iso2022_jp_layout, shift_jis_layout, euc_kr_layout}
use Rattle.standard.specs.Machine.{Result, tokens, error_with, reference}
use Rattle.standard.specs.Search.{first, none_over, Lookup, searching}
use Rattle.standard.specs.Encoders.Utf8.{utf8_encode}
use Rattle.standard.specs.Encoders.SingleByte.{or_error_with, single_byte_encode}
use Rattle.standard.specs.Encoders.UserDefined.{user_defined_encode}
use Rattle.standard.specs.Encoders.Pairs.{pair_or, pair_or_error_with, minus}
use Rattle.standard.specs.Encoders.Gb18030.{four_bytes, gives_back, four_or_error_with, gb18030_encode}
use Rattle.standard.specs.Encoders.Big5.{big5_over, big5_side, big5_encode}
use Rattle.standard.specs.Encoders.EucKr.{euc_kr_encode}
use Rattle.standard.specs.Encoders.EucJp.{jis0208_over, euc_jp_encode}
use Rattle.standard.specs.Encoders.ShiftJis.{shift_jis_over, shift_jis_encode}
use Rattle.standard.specs.Encoders.Iso2022Jp.{State, ASCII, Roman, jis0208, state_of, escape, control, changed}
use Rattle.standard.specs.Writers.{switching}
use Rattle.standard.specs.Ones.{One, shift_to, answered, plainly, changed_pair, iso2022_jp_encode, state_for, encode_one}
use Rattle.standard.proofs.Tests.{split, choose, and_left, and_right}
use Rattle.pair_writers.specs.Pairs.{pair_encode}
use Rattle.encoder_spec.specs.Writing.{Fault, Writing, onward, ahead, writing}
use Rattle.encoder_spec.specs.Writer.{answer_of}
use Rattle.encoder.specs.WriterCode.{utf8_of, pairs, encoder_of, plain, pair_of, lent_of, writing_of, pair_writing, lent_writing, most_of}
use Rattle.encoder.specs.WriterCode.{handed_back, Wrote}
use Rattle.encoder_spec.specs.declared.Written.{Written}
use Rattle.encoder.proofs.Rooms.{reference_most}
use Rattle.encoder.proofs.Counting.{stopped, first_bytes, first_reference, first_stop, told_bytes}
use Rattle.encoder.proofs.Filling.{mapped_most}
use Rattle.encoder.proofs.Scalars.{by_pairs, utf8_tokens, utf8_one-length, utf8_two-length, utf8_three-length, utf8_four-length}

-- UTF-8 has bytes for every scalar, so both modes write the same
pub utf8_modes : (m : ℕ) (cs : List ℕ) → writing (plain utf8_encode) 0 0 cs ≡ writing (plain utf8_encode) m 0 cs
unfolding writing
utf8_modes m [] = refl
utf8_modes m (c ∷ cs) =
    let e = told_bytes utf8_encode c (utf8_tokens c) in
    first_bytes (plain utf8_encode) 0 0 c cs e ∙ ap (onward 1 (utf8_of c)) (utf8_modes m cs) ∙ sym (first_bytes (plain utf8_encode) m 0 c cs e)

-- A writer without a state hands it back.
abbrev handed : ℕ → Writing → Writing
handed s w = record { bytes = w.bytes; state = s; unwritable = w.unwritable }

module _ (encode : ℕ → Result) (m s : ℕ) where
  pub hands_back : (cs : List ℕ) → handed s (writing (plain encode) m 0 cs) ≡ writing (plain encode) m s cs
  unfolding writing
  hands_back [] = refl
  hands_back (c ∷ cs) = go (encode c) (hands_back cs)
    where
      w : ℕ → Writing
      w t = writing (plain encode) m t cs

      by_mode : (b : Bool) (n : ℕ) → handed s (w 0) ≡ w s →
          handed s (b then stopped [] 0 (some (record { index = 0; code_point = n })) else onward 1 (reference n) (w 0)) ≡
          (b then stopped [] s (some (record { index = 0; code_point = n })) else onward 1 (reference n) (w s))
      by_mode true n ih = refl
      by_mode false n ih = ap (onward 1 (reference n)) ih

      go : (r : Result) → handed s (w 0) ≡ w s → handed s (ahead m (plainly 0 r) (writing (plain encode) m (plainly 0 r).state cs)) ≡
          ahead m (plainly s r) (writing (plain encode) m (plainly s r).state cs)
      go (tokens us) ih = ap (onward 1 us) ih
      go (error_with n) ih = by_mode (eqb m 1) n ih
      go Result.finished ih = by_mode (eqb m 1) 0 ih
      go Result.continue ih = by_mode (eqb m 1) 0 ih
      go Result.error ih = by_mode (eqb m 1) 0 ih

-- what an encoding writes from a state: by UTF-8, by pairs, or by one byte a scalar
module _ (look : Lookup) (e m s : ℕ) (t : Tables) (cs : List ℕ) where
  pub utf8_writing : e ≡ 0 → handed s (writing (plain utf8_encode) 0 0 cs) ≡ lent_writing look e m s t cs
  unfolding lent_of encoder_of
  utf8_writing h = ap (handed s) (utf8_modes m cs) ∙ hands_back utf8_encode m s cs ∙ rw h

  pub pairs_writing : pairs e ≡ true → pair_writing look e m s t.second cs ≡ lent_writing look e m s t cs
  unfolding lent_of
  pairs_writing p = rw p

  pub bytes_writing : pairs e ≡ false → handed s (writing_of look e m cs) ≡ lent_writing look e m s t cs
  unfolding lent_of
  bytes_writing p = hands_back (encoder_of e look) m s cs ∙ rw p

-- the same in a room
pub wrote_as : {v w : Writing} → v ≡ w → (room : List ℕ) {a : Written} {after : List ℕ} → Wrote v room a after → Wrote w room a after
wrote_as e room {a} {after} k = subst (λ (x : Writing). Wrote x room a after) e k

-- with the state handed back
pub wrote_handed : {v w : Writing} (s : ℕ) → handed s v ≡ w → (room : List ℕ) {a : Written} {after : List ℕ} → Wrote v room a after →
    Wrote w room (handed_back s a) after
wrote_handed {v} {w} s e room {a} {after} k = wrote_as e room (record { answers = ap (handed_back s) k.answers ∙ go v.unwritable; leaves = k.leaves })
  where
    go : (u : Option Fault) → handed_back s (answer_of (length v.bytes) v.state u) ≡ answer_of (length v.bytes) s u
    go none = refl
    go (some f) = refl

-- but for ISO-2022-JP, the writers of pairs have no state
pub pair_plain : (e : ℕ) (look : Lookup) (second : List ℕ) → eqb e 33 ≡ false → pair_of e look second ≡ plain (pair_encode e look second)
pair_plain e look second h = λ i s c. go s c i
  where
    go : (s c : ℕ) → pair_of e look second s c ≡ plain (pair_encode e look second) s c
    go s c = rw (h, eq-eqb s s refl)

-- What an encoder answers for a scalar: at most k bytes, or an error that names a number as small as a scalar.
data Few (k : ℕ) : Result → Type 0 where
  bytes : (bs : List ℕ) → length bs ≤ k → Few k (tokens bs)
  names : (n : ℕ) → n ≤ 0x10FFFF → Few k (error_with n)

-- At most k bytes of each scalar, with at most j in front, and of a reference where one is written.
module _ (one : ℕ → ℕ → One) (m k j : ℕ) (es : ℕ → ℕ → List ℕ) (t : ℕ → ℕ → ℕ) (encode : ℕ → Result)
    (is : (s c : ℕ) → one s c ≡ answered (es s c) (t s c) (encode c)) (in_front : (s c : ℕ) → length (es s c) ≤ j)
    (few : (c : ℕ) → c ≤ 0x10FFFF → Few k (encode c)) (most : ℕ) (fits : j + k ≤ most) (refers : (m ≡ 1 → ⊥) → j + 10 ≤ most) where
  writing_most : (s : ℕ) (cs : List ℕ) → scalars cs ≡ true → length (writing one m s cs).bytes ≤ length cs * most
  unfolding writing every
  writing_most s [] h = omega arith
  writing_most s (c ∷ cs) h = go (encode c) (few c small) (is s c) (writing_most (t s c) cs (and_right (is_scalar c) (every is_scalar cs) h))
    where
      small : c ≤ 0x10FFFF
      small = leb-true c 0x10FFFF (and_left (leb c 0x10FFFF) (not (within 0xD800 c 0xDFFF)) (and_left (is_scalar c) (every is_scalar cs) h))

      w : Writing
      w = writing one m (t s c) cs

      by_bytes : (us : List ℕ) → j + length us ≤ most → length w.bytes ≤ length cs * most → writing one m s (c ∷ cs) ≡ onward 1 (es s c ++ us) w →
          length (writing one m s (c ∷ cs)).bytes ≤ suc (length cs) * most
      by_bytes us l r e = omega (
        arith,
        l,
        r,
        suc-mul (length cs) most,
        in_front s c,
        length-append (es s c) us,
        length-append (es s c ++ us) w.bytes,
        ap (λ (w : Writing). length w.bytes) e,
      )

      go : (r : Result) → Few k r → one s c ≡ answered (es s c) (t s c) r → length w.bytes ≤ length cs * most →
          length (writing one m s (c ∷ cs)).bytes ≤ suc (length cs) * most
      go r (bytes us l) e q = by_bytes us (omega arith) q (first_bytes one m s c cs e)
      go r (names n l) e q = split (eqb m 1)
          (λ z. omega (arith, in_front s c, suc-mul (length cs) most, ap (λ (w : Writing). length w.bytes) (first_stop one m s c cs e (eqb-true m 1 z))))
          (λ z. let o : m ≡ 1 → ⊥ = eqb-false m 1 z in
          by_bytes (reference n) (omega (arith, reference_most n l, refers o)) q (first_reference one m s c cs e o))

-- UTF-8: at most four
utf8_few : (c : ℕ) → length (utf8_of c) ≤ 4
utf8_few c =
    split (ltb c 0x80) (λ h. omega (arith, utf8_one-length c (ltb-true c 0x80 h))) (λ h.
    split (leb c 0x7FF) (λ g. omega (arith, utf8_two-length c (ltb-false c 0x80 h) (leb-true c 0x7FF g))) (λ g.
    split (leb c 0xFFFF) (λ k. omega (arith, utf8_three-length c (leb-false c 0x7FF g) (leb-true c 0xFFFF k))) (λ k.
    omega (arith, utf8_four-length c (leb-false c 0xFFFF k)))))

-- of a writer without a state
plain_most : (encode : ℕ → Result) (m k : ℕ) → ((c : ℕ) → c ≤ 0x10FFFF → Few k (encode c)) → (most : ℕ) → k ≤ most → ((m ≡ 1 → ⊥) → 10 ≤ most) →
    (s : ℕ) (cs : List ℕ) → scalars cs ≡ true → length (writing (plain encode) m s cs).bytes ≤ length cs * most
plain_most encode m k few most fits refers s cs h =
    writing_most (plain encode) m k 0 (λ s c. []) (λ s c. s) encode (λ s c. refl) (λ s c. omega arith) few most
    (omega arith) (λ n. omega (arith, refers n)) s cs h

utf8_most : (m s : ℕ) (cs : List ℕ) → scalars cs ≡ true → length (writing (plain utf8_encode) m s cs).bytes ≤ length cs * 4
utf8_most m s cs h = omega (
  arith,
  plain_most utf8_encode 1 4 (λ c l. subst (Few 4) (sym (utf8_tokens c)) (bytes (utf8_of c) (utf8_few c))) 4 (omega arith) (λ n. absurd (n refl)) 0 cs h,
  ap (λ (w : Writing). length w.bytes) (sym (hands_back utf8_encode m s cs)),
  ap (λ (w : Writing). length w.bytes) (sym (utf8_modes m cs) ∙ utf8_modes 1 cs),
)

-- the others: one byte or two, or a reference in html mode
module _ (c : ℕ) (l : c ≤ 0x10FFFF) where
  by_pointer_lem : (o : Option ℕ) → Few 1 (or_error_with o c)
  by_pointer_lem (some p) = bytes ((p + 0x80) ∷ []) (omega arith)
  by_pointer_lem none = names c l

  single_few : (look : Lookup) → Few 1 (single_byte_encode look c)
  unfolding single_byte_encode
  single_few look = choose (Few 1) (ascii c) (λ _. bytes (c ∷ []) (omega arith)) (λ _. by_pointer_lem (look first none_over c))

  user_few : Few 1 (user_defined_encode c)
  unfolding user_defined_encode
  user_few =
      choose (Few 1) (ascii c) (λ _. bytes (c ∷ []) (omega arith)) (λ _.
      choose (Few 1) (within 0xF780 c 0xF7FF) (λ _. bytes ((c - 0xF780 + 0x80) ∷ []) (omega arith)) (λ _. names c l))

  minus_small : minus c ≤ 0x10FFFF
  minus_small = choose (λ n. n ≤ 0x10FFFF) (eqb c 0x2212) (λ _. omega arith) (λ _. l)

  by_pair : (y : Layout) (o : Option ℕ) (n : ℕ) → n ≤ 0x10FFFF → Few 2 (pair_or_error_with y o n)
  by_pair y (some p) n h = bytes (two_bytes y p) (omega arith)
  by_pair y none n h = names n h

  euc_jp-few : (look : Lookup) → Few 2 (euc_jp_encode look c)
  unfolding euc_jp_encode
  euc_jp-few look =
      choose (Few 2) (ascii c) (λ _. bytes _ (omega arith)) (λ _.
      choose (Few 2) (eqb c 0xA5) (λ _. bytes _ (omega arith)) (λ _.
      choose (Few 2) (eqb c 0x203E) (λ _. bytes _ (omega arith)) (λ _.
      choose (Few 2) (within 0xFF61 c 0xFF9F) (λ _. bytes _ (omega arith)) (λ _.
      by_pair euc_jp_layout (look first jis0208_over (minus c)) (minus c) minus_small))))

  shift_jis-few : (look : Lookup) → Few 2 (shift_jis_encode look c)
  unfolding shift_jis_encode
  shift_jis-few look =
      choose (Few 2) (ascii c || eqb c 0x80) (λ _. bytes _ (omega arith)) (λ _.
      choose (Few 2) (eqb c 0xA5) (λ _. bytes _ (omega arith)) (λ _.
      choose (Few 2) (eqb c 0x203E) (λ _. bytes _ (omega arith)) (λ _.
      choose (Few 2) (within 0xFF61 c 0xFF9F) (λ _. bytes _ (omega arith)) (λ _.
      by_pair shift_jis_layout (look first shift_jis_over (minus c)) (minus c) minus_small))))

  changed_few : (look : Lookup) (katakana : List ℕ) → Few 2 (changed_pair look (changed katakana c) c)
  unfolding index_code_point
  changed_few look katakana =
      choose (λ o. Few 2 (changed_pair look o c)) (eqb c 0x2212) (λ _. by_pair iso2022_jp_layout (look first jis0208_over 0xFF0D) 0xFF0D (omega arith)) (λ _.
      choose (λ o. Few 2 (changed_pair look o c)) (within 0xFF61 c 0xFF9F) (λ _. by_cell (get_or katakana (c - 0xFF61) 0)) (λ _.
      by_pair iso2022_jp_layout (look first jis0208_over c) c l))
    where
      by_cell : (x : ℕ) → Few 2 (changed_pair look (mapped x then some x else none) c)
      by_cell x = choose (λ o. Few 2 (changed_pair look o c)) (mapped x)
          (λ h. by_pair iso2022_jp_layout (look first jis0208_over x) x (mapped_most x h)) (λ _. names c l)

  iso_2022_jp_few : (look : Lookup) (katakana : List ℕ) → Few 2 (iso2022_jp_encode look katakana c)
  unfolding iso2022_jp_encode
  iso_2022_jp_few look katakana =
      choose (Few 2) (control c) (λ _. names 0xFFFD (omega arith)) (λ _.
      choose (Few 2) (ascii c) (λ _. bytes _ (omega arith)) (λ _.
      choose (Few 2) (eqb c 0xA5) (λ _. bytes _ (omega arith)) (λ _.
      choose (Few 2) (eqb c 0x203E) (λ _. bytes _ (omega arith)) (λ _. changed_few look katakana))))

  big5_few : (look : Lookup) → Few 2 (big5_encode look c)
  unfolding big5_encode
  big5_few look = choose (Few 2) (ascii c) (λ _. bytes _ (omega arith)) (λ _. by_pair big5_layout (look (big5_side c) big5_over c) c l)

  euc_kr-few : (look : Lookup) → Few 2 (euc_kr_encode look c)
  unfolding euc_kr_encode
  euc_kr-few look = choose (Few 2) (ascii c) (λ _. bytes _ (omega arith)) (λ _. by_pair euc_kr_layout (look first none_over c) c l)

  -- two in GBK, four in gb18030
  by_four : (ranges : List ℕ) (o : Option ℕ) → Few 4 (four_or_error_with ranges o c)
  by_four ranges none = names c l
  by_four ranges (some p) =
      choose (Few 4) (gives_back (ranges_code_point ranges p) c) (λ _. bytes (four_bytes p) (omega arith)) (λ _. names c l)

  or_pair : {k : ℕ} → 2 ≤ k → (y : Layout) (o : Option ℕ) {r : Result} → Few k r → Few k (pair_or y o r)
  or_pair h y (some p) f = bytes (two_bytes y p) (omega arith)
  or_pair h y none f = f

  gb18030_few : {k : ℕ} → 2 ≤ k → (gbk : Bool) (look : Lookup) (ranges : List ℕ) →
      Few k (gbk then error_with c else four_or_error_with ranges (ranges_pointer ranges c) c) → Few k (gb18030_encode gbk look ranges c)
  unfolding gb18030_encode
  gb18030_few {k} h gbk look ranges f =
      choose (Few k) (ascii c) (λ _. bytes _ (omega arith)) (λ _.
      choose (Few k) (eqb c 0xE5E5) (λ _. names c l) (λ _.
      choose (Few k) (gbk && eqb c 0x20AC) (λ _. bytes _ (omega arith)) (λ _. or_pair h gb18030_layout (look first none_over c) f)))

few_most : (encode : ℕ → Result) (k : ℕ) → k ≤ 10 → ((c : ℕ) → c ≤ 0x10FFFF → Few k (encode c)) → (m s : ℕ) (cs : List ℕ) → scalars cs ≡ true →
    length (writing (plain encode) m s cs).bytes ≤ length cs * (eqb m 1 then k else 10)
few_most encode k l few m s cs h = split (eqb m 1)
    (λ q. rw q (plain_most encode m k few k (omega arith) (λ n. absurd (n (eqb-true m 1 q))) s cs h))
    (λ q. rw q (plain_most encode m k few 10 l (λ n. omega arith) s cs h))

-- a way from one state to another has at most three bytes
shift_few : (s s' : ℕ) → length (shift_to s s') ≤ 3
shift_few s s' = choose (λ l. length l ≤ 3) (eqb s s') (λ _. omega arith) (λ _. go (state_of s'))
  where
    go : (v : State) → length (escape v) ≤ 3
    go ASCII = omega arith
    go Roman = omega arith
    go jis0208 = omega arith

abbrev iso_after : Lookup → List ℕ → ℕ → ℕ → ℕ
iso_after look katakana s c = state_for s c (iso2022_jp_encode look katakana c)

iso_2022_jp_most : (look : Lookup) (katakana : List ℕ) (m s : ℕ) (cs : List ℕ) → scalars cs ≡ true →
    length (writing (encode_one (switching look katakana)) m s cs).bytes ≤ length cs * (eqb m 1 then 5 else 13)
iso_2022_jp_most look katakana m s cs h = split (eqb m 1)
    (λ q. rw q (most 5 (omega arith) (λ n. absurd (n (eqb-true m 1 q)))))
    (λ q. rw q (most 13 (omega arith) (λ n. omega arith)))
  where
    most : (n : ℕ) → 5 ≤ n → ((m ≡ 1 → ⊥) → 13 ≤ n) → length (writing (encode_one (switching look katakana)) m s cs).bytes ≤ length cs * n
    most n f r =
        writing_most (encode_one (switching look katakana)) m 2 3
        (λ s c. shift_to s (iso_after look katakana s c)) (iso_after look katakana) (iso2022_jp_encode look katakana)
        (λ s c. refl) (λ s c. shift_few s (iso_after look katakana s c)) (λ c l. iso_2022_jp_few c l look katakana) n f r s cs h

at_most : (look : Lookup) (e m s : ℕ) (t : Tables) (cs : List ℕ) → scalars cs ≡ true → length (lent_writing look e m s t cs).bytes ≤ length cs * most_of e m
unfolding lent_of encoder_of pair_encode
at_most look e m s t cs h = split (pairs e)
    (λ p. by_pairs e p
    (λ z. rw (z, pair_plain 29 look second refl) (few_most (gb18030_encode true look second) 2 (omega arith)
    (λ c l. gb18030_few c l (omega arith) true look second (names c l)) m s cs h))
    (λ z. rw (z, pair_plain 30 look second refl) (few_most (gb18030_encode false look second) 4 (omega arith)
    (λ c l. gb18030_few c l (omega arith) false look second (by_four c l second (ranges_pointer second c))) m s cs h))
    (λ z. rw (z, pair_plain 31 look second refl) (few_most (big5_encode look) 2 (omega arith) (λ c l. big5_few c l look) m s cs h))
    (λ z. rw (z, pair_plain 32 look second refl) (few_most (euc_jp_encode look) 2 (omega arith) (λ c l. euc_jp-few c l look) m s cs h))
    (λ z. rw z (iso_2022_jp_most look second m s cs h))
    (λ z. rw (z, pair_plain 34 look second refl) (few_most (shift_jis_encode look) 2 (omega arith) (λ c l. shift_jis-few c l look) m s cs h))
    (λ z. rw (z, pair_plain 35 look second refl) (few_most (euc_kr_encode look) 2 (omega arith) (λ c l. euc_kr-few c l look) m s cs h)))
    (λ p.
    split (eqb e 0) (λ z. rw (eqb-true e 0 z) (utf8_most m s cs h)) (λ z.
    split (eqb e 21) (λ y. rw (eqb-true e 21 y) (few_most (single_byte_encode (searching windows1252)) 1 (omega arith) (λ c l. single_few c l _) m s cs h)) (λ y.
    split (leb e 28)
    (λ x. rw (p, z, y, x, not_of 30 refl p, not_of 33 refl p) (few_most (single_byte_encode look) 1 (omega arith) (λ c l. single_few c l _) m s cs h))
    (λ x. rw (p, z, y, x, not_of 30 refl p, not_of 33 refl p) (few_most user_defined_encode 1 (omega arith) user_few m s cs h)))))
  where
    second : List ℕ
    second = t.second

    not_of : (n : ℕ) → pairs n ≡ true → pairs e ≡ false → eqb e n ≡ false
    not_of n k p = ne_eqb e n (λ q. let z : ◌≡◌ {A = ℕ} 0 1 = cc (rw q at p) in absurd (omega arith))

-- A room for the most bytes of each scalar has space for all.
pub room_for_most : (look : Lookup) (e m s : ℕ) (t : Tables) (cs : List ℕ) (n : ℕ) → scalars cs ≡ true → (k : ℕ) → k ≡ most_of e m → length cs * k ≤ n →
    false ≡ ltb n (length (lent_writing look e m s t cs).bytes)
room_for_most look e m s t cs n h k z l =
    sym (le-ltb n (length (lent_writing look e m s t cs).bytes) (omega (arith, l, ap (λ (k : ℕ). length cs * k) z, at_most look e m s t cs h)))
