-- The sequence at the front of some bytes gives scalars only, whatever the tables. Assumes nothing.
use mathlib.Core.Path.{◌≡◌, refl, sym, ◌∙◌}
use mathlib.Core.Bool.{Bool, true, false, ◌&&◌, ◌||◌}
use mathlib.Core.List.{List, [], ◌∷◌}
use Prim.Native.Nat.{ℕ, ◌+◌, ◌-◌, ◌*◌, ◌≤◌, ◌<◌}
use native.Mathlib.Omega.{arith}
use lib.Dec.{T, ltb, leb, eqb, lit≤, ltb→lt}
use lib.ListN.{get_or}
use borrow.Author.Tests.{ltb-true, ltb-false, leb-true, leb-false, le-leb, eqb-true, eqb-false, ne_eqb}
use Rattle.standard.specs.Base.{◌then◌else◌, within, every, Bytes, is_scalar, scalars, mapped}
use Rattle.standard.specs.Encodings.{Tables, Family, UTF-8, single-byte, windows-1252, GB18030, Big5, EUC-JP, ISO-2022-JP, Shift-JIS, EUC-KR, Replacement, UTF-16BE, UTF-16LE, x-user-defined}
use Rattle.standard.specs.Indexes.{windows1252}
use Rattle.standard.specs.Sequence.{Shift, Out, text, error, Next, more, item, await, cell, code, trailed}
use Rattle.standard.specs.Layouts.{Layout, leads, trails, pointer_of, pair_code, gb18030_layout, big5_layout, euc_jp_layout, iso2022_jp_layout, shift_jis_layout, euc_kr_layout}
use Rattle.standard.specs.Sequences.Utf8.{utf8, utf8_low, utf8_high, follows, utf8_three, utf8_four}
use Rattle.standard.specs.Sequences.SingleByte.{single_byte}
use Rattle.standard.specs.Sequences.Gb18030.{gb18030, gb18030_range, gb18030_four_code, gb18030_four_pointer, gb18030_third}
use Rattle.standard.specs.Sequences.Big5.{big5, big5_pair, big5_trail}
use Rattle.standard.specs.Sequences.EucJp.{euc_jp, euc_jp_kana}
use Rattle.standard.specs.Sequences.Iso2022Jp.{iso2022_jp, escaped, byte_out, code_out, escape_next, lead_next}
use Rattle.standard.specs.Sequences.ShiftJis.{shift_jis, shift_jis_code}
use Rattle.standard.specs.Sequences.EucKr.{euc_kr}
use Rattle.standard.specs.Sequences.Replacement.{replacement}
use Rattle.standard.specs.Sequences.Utf16.{utf16, unit, utf16_unit}
use Rattle.standard.specs.Sequences.UserDefined.{user_defined}
use Rattle.standard.specs.Next.{unmark, unmarked, next}
use Rattle.standard.specs.Decode.{given}
use Rattle.standard.proofs.Tests.{true_t, and_right, and_t_left, and_t_right, within_low, within_high, under, above}
use Rattle.standard.proofs.Every.{both}
use Rattle.standard.proofs.Fronts.{Front, front_test, front_item}
use Rattle.standard.proofs.AgreementsUtf.{high_most}
use Rattle.standard.proofs.UserRows.{shift_jis-either}

-- below the surrogates, and above them
low : (c : ℕ) → c ≤ 0xD7FF → T (is_scalar c)
low c h = rw (le-leb c 0x10FFFF (omega arith), under 0xD800 c 0xDFFF (omega arith)) tt

high : (c : ℕ) → 0xE000 ≤ c → c ≤ 0x10FFFF → T (is_scalar c)
high c h g = rw (le-leb c 0x10FFFF g, above 0xD800 c 0xDFFF h) tt

-- The sequence at the front gives scalars.
abbrev pub Scalar : Out → Type 0
Scalar o = T (scalars (given o))

abbrev pub Gives : Next → Type 0
Gives a = Front (λ w s o. Scalar o) a

one : (c : ℕ) → T (is_scalar c) → T (scalars (c ∷ []))
unfolding every
one c h = both (is_scalar c) true h tt

pub wrong : Scalar error
wrong = one 0xFFFD (high 0xFFFD (lit≤ tt) (lit≤ tt))

good : {w : ℕ} {s : Shift} (c : ℕ) → T (is_scalar c) → Gives (item w s (text (c ∷ [])))
good c h = front_item (one c h)

broke : {w : ℕ} {s : Shift} → Gives (item w s error)
broke = front_item wrong

ascii : {w : ℕ} {s : Shift} (b : ℕ) → ltb b 0x80 ≡ true → Gives (item w s (text (b ∷ [])))
ascii b h = good b (low b (omega (arith, ltb-true b 0x80 h)))

-- one byte more
byte : (xs : List ℕ) {f : ℕ → List ℕ → Next} → Bytes xs → ((x : ℕ) (zs : List ℕ) → x < 256 → Bytes zs → Gives (f x zs)) → Gives (await xs f)
unfolding every
byte [] p h = record { holds = tt }
byte (x ∷ xs) p h = h x xs (ltb→lt x 256 (and_t_left (ltb x 256) _ p)) (and_t_right (ltb x 256) _ p)

-- a code point where 0 is null
abbrev Point : ℕ → Type 0
Point c = eqb c 0 ≡ false → T (is_scalar c)

null : Point 0
null e = low 0 (lit≤ tt)

mapped_point : (c : ℕ) (t : Bool) → mapped c ≡ t → Point (t then c else 0)
mapped_point c true e = λ _. true_t (and_right (leb 0x80 c) (is_scalar c) e)
mapped_point c false e = null

cell_point : (table : List ℕ) (p : ℕ) → Point (cell table p)
unfolding cell
cell_point table p = mapped_point (get_or table p 0) (mapped (get_or table p 0)) refl

test_point : (t : Bool) (c : ℕ) → Point c → Point (t then c else 0)
test_point true c h = h
test_point false c h = null

pair_point : (y : Layout) (index : List ℕ) (b c : ℕ) → Point (pair_code y index b c)
unfolding pair_code
pair_point y index b c = test_point (leads y b && trails y c) _ (cell_point index _)

code_gives : (w c : ℕ) → Point c → Gives (code w c)
code_gives w c h = front_test (eqb c 0) (λ _. broke) (λ e. good c (h e))

trailed_gives : (leads w x c : ℕ) → Point c → Gives (trailed leads w x c)
trailed_gives leads w x c h = front_test (eqb c 0) (λ _. broke) (λ e. good c (h e))

pair_gives : (y : Layout) (index : List ℕ) (leads w b c : ℕ) → Gives (trailed leads w c (pair_code y index b c))
pair_gives y index leads w b c = trailed_gives leads w c (pair_code y index b c) (pair_point y index b c)

single_scalars : (index xs : List ℕ) → Bytes xs → Gives (single_byte index xs)
unfolding single_byte
single_scalars index xs p = byte xs p (λ b zs _ _. front_test (ltb b 0x80) (λ h. ascii b h) (λ _. code_gives 1 (cell index (b - 0x80)) (cell_point index (b - 0x80))))

user_scalars : (xs : List ℕ) → Bytes xs → Gives (user_defined xs)
unfolding user_defined
user_scalars xs p = byte xs p (λ b zs q _. front_test (ltb b 0x80) (λ h. ascii b h) (λ _. good (0xF780 + (b - 0x80)) (high (0xF780 + (b - 0x80)) (omega arith) (omega arith))))

kana : (b : ℕ) → within 0xA1 b 0xDF ≡ true → T (is_scalar (0xFF61 - 0xA1 + b))
kana b h = high (0xFF61 - 0xA1 + b) (omega (arith, within_low 0xA1 b 0xDF h)) (omega (arith, within_high 0xA1 b 0xDF h))

private : (p : ℕ) → within 8836 p 10715 ≡ true → T (is_scalar (0xE000 - 8836 + p))
private p h = high (0xE000 - 8836 + p) (omega (arith, within_low 8836 p 10715 h)) (omega (arith, within_high 8836 p 10715 h))

shift_jis-point : (index : List ℕ) (b c : ℕ) → Point (shift_jis_code index b c)
shift_jis-point index b c = shift_jis-either index b c Point (λ p h _. private p h) (pair_point shift_jis_layout index b c)

shift_jis-scalars : (t : Tables) (xs : List ℕ) → Bytes xs → Gives (shift_jis t xs)
unfolding shift_jis
shift_jis-scalars t xs p = byte xs p (λ b zs _ r.
    front_test (leb b 0x80) (λ h. good b (low b (omega (arith, leb-true b 0x80 h)))) (λ _.
    front_test (within 0xA1 b 0xDF) (λ h. good (0xFF61 - 0xA1 + b) (kana b h)) (λ _.
    front_test (leads shift_jis_layout b)
    (λ _. byte zs r (λ c us _ _. trailed_gives 1 2 c (shift_jis_code t.first b c) (shift_jis-point t.first b c)))
    (λ _. broke))))

euc_kr-scalars : (t : Tables) (xs : List ℕ) → Bytes xs → Gives (euc_kr t xs)
unfolding euc_kr
euc_kr-scalars t xs p = byte xs p (λ b zs _ r.
    front_test (ltb b 0x80) (λ h. ascii b h) (λ _.
    front_test (leads euc_kr_layout b)
    (λ _. byte zs r (λ c us _ _. pair_gives euc_kr_layout t.first 1 2 b c))
    (λ _. broke)))

two : {w : ℕ} {s : Shift} (c d : ℕ) → c ≤ 0xD7FF → d ≤ 0xD7FF → Gives (item w s (text (c ∷ d ∷ [])))
unfolding every
two c d h g = front_item (both (is_scalar c) _ (low c h) (one d (low d g)))

big5_trail_lem : (index : List ℕ) (b c : ℕ) → Gives (big5_trail index b c)
unfolding big5_pair
big5_trail_lem index b c = front_test (trails big5_layout c)
    (λ _. front_test (eqb (pointer_of big5_layout b c) 1133) (λ _. two 0xCA 0x304 (lit≤ tt) (lit≤ tt)) (λ _.
    front_test (eqb (pointer_of big5_layout b c) 1135) (λ _. two 0xCA 0x30C (lit≤ tt) (lit≤ tt)) (λ _.
    front_test (eqb (pointer_of big5_layout b c) 1164) (λ _. two 0xEA 0x304 (lit≤ tt) (lit≤ tt)) (λ _.
    front_test (eqb (pointer_of big5_layout b c) 1166) (λ _. two 0xEA 0x30C (lit≤ tt) (lit≤ tt)) (λ _.
    trailed_gives 1 2 c (cell index (pointer_of big5_layout b c)) (cell_point index (pointer_of big5_layout b c)))))))
    (λ _. broke)

big5_scalars : (t : Tables) (xs : List ℕ) → Bytes xs → Gives (big5 t xs)
unfolding big5
big5_scalars t xs p = byte xs p (λ b zs _ r.
    front_test (ltb b 0x80) (λ h. ascii b h) (λ _.
    front_test (leads big5_layout b) (λ _. byte zs r (λ c us _ _. big5_trail_lem t.first b c)) (λ _. broke)))

-- gb18030
four_point : (ranges : List ℕ) (p : ℕ) → Point (gb18030_four_code ranges p)
unfolding gb18030_four_code
four_point ranges p = go (within 39420 p 188999 || ltb 1237575 p) (eqb p 7457)
  where
    go : (t u : Bool) → Point (t then 0 else u then 0xE7C7 else mapped (gb18030_range ranges p 0) then gb18030_range ranges p 0 else 0)
    go true u = null
    go false true = λ _. high 0xE7C7 (lit≤ tt) (lit≤ tt)
    go false false = mapped_point (gb18030_range ranges p 0) (mapped (gb18030_range ranges p 0)) refl

gb18030_third_lem : (ranges : List ℕ) (b c d : ℕ) (vs : List ℕ) → Bytes vs → Gives (gb18030_third ranges b c d vs)
gb18030_third_lem ranges b c d vs r = front_test (within 0x81 d 0xFE)
    (λ _. byte vs r (λ e ws _ _. front_test (within 0x30 e 0x39) (λ _. code_gives 4 (gb18030_four_code ranges (gb18030_four_pointer b c d e)) (four_point ranges (gb18030_four_pointer b c d e))) (λ _. broke)))
    (λ _. broke)

gb18030_scalars : (t : Tables) (xs : List ℕ) → Bytes xs → Gives (gb18030 t xs)
unfolding gb18030
gb18030_scalars t xs p = byte xs p (λ b zs _ r.
    front_test (ltb b 0x80) (λ h. ascii b h) (λ _.
    front_test (eqb b 0x80) (λ _. good 0x20AC (low 0x20AC (lit≤ tt))) (λ _.
    front_test (leads gb18030_layout b)
    (λ _. byte zs r (λ c us _ r. front_test (within 0x30 c 0x39)
    (λ _. byte us r (λ d vs _ r. gb18030_third_lem t.second b c d vs r))
    (λ _. pair_gives gb18030_layout t.first 1 2 b c)))
    (λ _. broke))))

-- EUC-JP
kana_point : (c : ℕ) (t : Bool) → within 0xA1 c 0xDF ≡ t → Point (t then 0xFF61 - 0xA1 + c else 0)
kana_point c true h = λ _. kana c h
kana_point c false h = null

euc_jp-scalars : (t : Tables) (xs : List ℕ) → Bytes xs → Gives (euc_jp t xs)
unfolding euc_jp
euc_jp-scalars t xs p = byte xs p (λ b zs _ r.
    front_test (ltb b 0x80) (λ h. ascii b h) (λ _.
    front_test (eqb b 0x8E) (λ _. byte zs r (λ c us _ _. trailed_gives 1 2 c (euc_jp_kana c) (kana_point c (within 0xA1 c 0xDF) refl))) (λ _.
    front_test (eqb b 0x8F) (λ _. byte zs r (λ c us _ r. front_test (leads euc_jp_layout c)
    (λ _. byte us r (λ d vs _ _. pair_gives euc_jp_layout t.second 2 3 c d))
    (λ _. broke))) (λ _.
    front_test (leads euc_jp_layout b) (λ _. byte zs r (λ c us _ _. pair_gives euc_jp_layout t.first 1 2 b c)) (λ _. broke)))))

-- UTF-16
unit_small : (be : Bool) (b c : ℕ) → b < 256 → c < 256 → unit be b c < 65536
unfolding unit
unit_small true b c h g = omega arith
unit_small false b c h g = omega arith

-- at least the lower bound, and not within
beyond : (l u h : ℕ) → l ≤ u → within l u h ≡ false → h < u
beyond l u h g e = go (leb u h) refl
  where
    go : (t : Bool) → leb u h ≡ t → h < u
    go true z = let y : within l u h ≡ true = rw (le-leb l u g, z) in absurd (true_t (sym e ∙ y))
    go false z = leb-false u h z

no_surrogate : (u : ℕ) → u < 65536 → within 0xDC00 u 0xDFFF ≡ false → within 0xD800 u 0xDBFF ≡ false → T (is_scalar u)
no_surrogate u h p q = go (leb u 0xD7FF) refl
  where
    go : (t : Bool) → leb u 0xD7FF ≡ t → T (is_scalar u)
    go true e = low u (leb-true u 0xD7FF e)
    go false e =
        let a : 0xDBFF < u = beyond 0xD800 u 0xDBFF (leb-false u 0xD7FF e) q in
        let b : 0xDFFF < u = beyond 0xDC00 u 0xDFFF a p in
        high u b (omega arith)

pair_scalar : (u v : ℕ) → within 0xD800 u 0xDBFF ≡ true → within 0xDC00 v 0xDFFF ≡ true → T (is_scalar (0x10000 + (u - 0xD800) * 1024 + (v - 0xDC00)))
pair_scalar u v p q = high (0x10000 + (u - 0xD800) * 1024 + (v - 0xDC00)) (omega arith) (omega (arith, within_low 0xD800 u 0xDBFF p, within_high 0xD800 u 0xDBFF p, within_high 0xDC00 v 0xDFFF q))

unit_scalars : (be : Bool) (u : ℕ) (us : List ℕ) → u < 65536 → Bytes us → Gives (utf16_unit be u us)
unit_scalars be u us l r =
    front_test (within 0xDC00 u 0xDFFF) (λ _. broke) (λ n.
    front_test (within 0xD800 u 0xDBFF)
    (λ h. byte us r (λ d vs _ r. byte vs r (λ e ws _ _. front_test (within 0xDC00 (unit be d e) 0xDFFF) (λ g. good _ (pair_scalar u (unit be d e) h g)) (λ _. broke))))
    (λ h. good u (no_surrogate u l n h)))

utf16_scalars : (be : Bool) (xs : List ℕ) → Bytes xs → Gives (utf16 be xs)
unfolding utf16
utf16_scalars be xs p = byte xs p (λ b zs i r. byte zs r (λ c us j r. unit_scalars be (unit be b c) us (unit_small be b c i j) r))

-- UTF-8
module _ (b c : ℕ) (q : within (utf8_low b) c (utf8_high b) ≡ true) where
  second_low : utf8_low b ≤ c
  second_low = within_low (utf8_low b) c (utf8_high b) q

  second_high : c ≤ utf8_high b
  second_high = within_high (utf8_low b) c (utf8_high b) q

  second_top : c ≤ 0xBF
  second_top = omega (arith, second_high, high_most b)

two_bytes : (b c : ℕ) → within 0xC2 b 0xDF ≡ true → follows c ≡ true → T (is_scalar ((b - 0xC0) * 64 + (c - 0x80)))
two_bytes b c p q = low ((b - 0xC0) * 64 + (c - 0x80)) (omega (arith, within_high 0xC2 b 0xDF p, within_high 0x80 c 0xBF q))

three_bytes : (b c d : ℕ) → within 0xE0 b 0xEF ≡ true → within (utf8_low b) c (utf8_high b) ≡ true → follows d ≡ true → T (is_scalar ((b - 0xE0) * 4096 + (c - 0x80) * 64 + (d - 0x80)))
unfolding utf8_high
three_bytes b c d p q r = go (eqb b 0xED) (ltb b 0xED) refl refl
  where
    value : ℕ
    value = (b - 0xE0) * 4096 + (c - 0x80) * 64 + (d - 0x80)

    c_top : c ≤ 0xBF
    c_top = second_top b c q

    d_top : d ≤ 0xBF
    d_top = within_high 0x80 d 0xBF r

    b_low : 0xE0 ≤ b
    b_low = within_low 0xE0 b 0xEF p

    b_top : b ≤ 0xEF
    b_top = within_high 0xE0 b 0xEF p

    go : (t u : Bool) → eqb b 0xED ≡ t → ltb b 0xED ≡ u → T (is_scalar value)
    go true u e g = let k : c ≤ 0x9F = rw e at (second_high b c q) in low value (omega (arith, eqb-true b 0xED e, k, d_top))
    go false true e g = low value (omega (arith, ltb-true b 0xED g, c_top, d_top, b_low))
    go false false e g = let n : b ≡ 0xED → ⊥ = eqb-false b 0xED e in high value (omega (arith, ltb-false b 0xED g, n)) (omega (arith, b_top, c_top, d_top))

four_bytes : (b c d e : ℕ) → within 0xF0 b 0xF4 ≡ true → within (utf8_low b) c (utf8_high b) ≡ true → follows d ≡ true → follows e ≡ true →
    T (is_scalar ((b - 0xF0) * 262144 + (c - 0x80) * 4096 + (d - 0x80) * 64 + (e - 0x80)))
unfolding utf8_high utf8_low
four_bytes b c d e p q r z = high value (least (eqb b 0xF0) refl) (most (eqb b 0xF4) refl)
  where
    value : ℕ
    value = (b - 0xF0) * 262144 + (c - 0x80) * 4096 + (d - 0x80) * 64 + (e - 0x80)

    c_top : c ≤ 0xBF
    c_top = second_top b c q

    d_top : d ≤ 0xBF
    d_top = within_high 0x80 d 0xBF r

    e_top : e ≤ 0xBF
    e_top = within_high 0x80 e 0xBF z

    b_low : 0xF0 ≤ b
    b_low = within_low 0xF0 b 0xF4 p

    b_top : b ≤ 0xF4
    b_top = within_high 0xF0 b 0xF4 p

    least : (t : Bool) → eqb b 0xF0 ≡ t → 0xE000 ≤ value
    least true w = let k : 0x90 ≤ c = rw (ne_eqb b 0xE0 (λ y. omega (arith, b_low, y)), w) at (second_low b c q) in omega (arith, k)
    least false w = let n : b ≡ 0xF0 → ⊥ = eqb-false b 0xF0 w in omega (arith, b_low, n)

    most : (t : Bool) → eqb b 0xF4 ≡ t → value ≤ 0x10FFFF
    most true w = let k : c ≤ 0x8F = rw (ne_eqb b 0xED (λ y. omega (arith, b_low, y)), w) at (second_high b c q) in omega (arith, k, d_top, e_top, b_top)
    most false w = let n : b ≡ 0xF4 → ⊥ = eqb-false b 0xF4 w in omega (arith, c_top, d_top, e_top, b_top, n)

three_scalars : (b c : ℕ) (us : List ℕ) → within 0xE0 b 0xEF ≡ true → Bytes us → Gives (utf8_three b c us)
three_scalars b c us h r = front_test (within (utf8_low b) c (utf8_high b)) (λ g. byte us r (λ d vs _ _. front_test (follows d) (λ f. good _ (three_bytes b c d h g f)) (λ _. broke))) (λ _. broke)

four_scalars : (b c : ℕ) (us : List ℕ) → within 0xF0 b 0xF4 ≡ true → Bytes us → Gives (utf8_four b c us)
four_scalars b c us h r = front_test (within (utf8_low b) c (utf8_high b))
    (λ g. byte us r (λ d vs _ r. front_test (follows d) (λ f. byte vs r (λ e ws _ _. front_test (follows e) (λ z. good _ (four_bytes b c d e h g f z)) (λ _. broke))) (λ _. broke)))
    (λ _. broke)

utf8_scalars : (xs : List ℕ) → Bytes xs → Gives (utf8 xs)
unfolding utf8
utf8_scalars xs p = byte xs p (λ b zs _ r.
    front_test (ltb b 0x80) (λ h. ascii b h) (λ _.
    front_test (within 0xC2 b 0xDF) (λ h. byte zs r (λ c us _ _. front_test (follows c) (λ g. good _ (two_bytes b c h g)) (λ _. broke))) (λ _.
    front_test (within 0xE0 b 0xEF) (λ h. byte zs r (λ c us _ r. three_scalars b c us h r)) (λ _.
    front_test (within 0xF0 b 0xF4) (λ h. byte zs r (λ c us _ r. four_scalars b c us h r)) (λ _. broke)))))

-- ISO-2022-JP, replacement
byte_scalars : (state b : ℕ) → Scalar (byte_out state b)
unfolding byte_out every
byte_scalars state b = go (eqb state 2) (within 0x21 b 0x5F) (leb 0x80 b) (eqb b 0x0E) (eqb b 0x0F) (eqb state 1 && eqb b 0x5C) (eqb state 1 && eqb b 0x7E) refl refl
  where
    go : (t u v x y z w : Bool) → within 0x21 b 0x5F ≡ u → leb 0x80 b ≡ v → Scalar (
        t then (u then text ((0xFF61 - 0x21 + b) ∷ []) else error) else v || x || y then error else z then text (0xA5 ∷ []) else w then text (0x203E ∷ []) else text (b ∷ []))
    go true true v x y z w h g = one (0xFF61 - 0x21 + b) (high (0xFF61 - 0x21 + b) (omega (arith, within_low 0x21 b 0x5F h)) (omega (arith, within_high 0x21 b 0x5F h)))
    go true false v x y z w h g = wrong
    go false u true x y z w h g = wrong
    go false u false true y z w h g = wrong
    go false u false false true z w h g = wrong
    go false u false false false true w h g = one 0xA5 (low 0xA5 (lit≤ tt))
    go false u false false false false true h g = one 0x203E (low 0x203E (lit≤ tt))
    go false u false false false false false h g = one b (low b (omega (arith, leb-false 0x80 b g)))

choice : (t : Bool) (a b : Out) → Scalar a → Scalar b → Scalar (t then a else b)
choice true a b h g = h
choice false a b h g = g

nothing : Scalar (text [])
unfolding every
nothing = tt

code_scalars : (c : ℕ) → Point c → Scalar (code_out c)
code_scalars c h = go (eqb c 0) refl
  where
    go : (u : Bool) → eqb c 0 ≡ u → Scalar (u then error else text (c ∷ []))
    go true e = wrong
    go false e = one c (h e)

escape_scalars : (s : Shift) (c : ℕ) (us : List ℕ) → Bytes us → Gives (escape_next s c us)
escape_scalars s c us r = front_test (eqb c 0x24 || eqb c 0x28)
    (λ _. byte us r (λ d vs _ _. front_test (leb 4 (escaped c d)) (λ _. broke) (λ _. front_item (choice s.flag error (text []) wrong nothing))))
    (λ _. broke)

lead_scalars : (index : List ℕ) (b : ℕ) (zs : List ℕ) → Bytes zs → Gives (lead_next index b zs)
lead_scalars index b zs r = front_test (leads iso2022_jp_layout b)
    (λ _. byte zs r (λ c us _ _. front_test (eqb c 0x1B) (λ _. broke) (λ _. front_item (code_scalars (pair_code iso2022_jp_layout index b c) (pair_point iso2022_jp_layout index b c)))))
    (λ _. broke)

iso_2022_jp_scalars : (t : Tables) (s : Shift) (xs : List ℕ) → Bytes xs → Gives (iso2022_jp t s xs)
unfolding iso2022_jp
iso_2022_jp_scalars t s xs p = byte xs p (λ b zs _ r.
    front_test (eqb b 0x1B) (λ _. byte zs r (λ c us _ r. escape_scalars s c us r)) (λ _.
    front_test (eqb s.state 3) (λ _. lead_scalars t.first b zs r) (λ _. front_item (byte_scalars s.state b))))

replacement_scalars : (s : Shift) (xs : List ℕ) → Bytes xs → Gives (replacement s xs)
unfolding replacement
replacement_scalars s xs p = byte xs p (λ b zs _ _. front_item (choice s.flag (text []) error nothing wrong))

-- a mark dropped
unmark_scalars : (o : Out) → Scalar o → Scalar (unmark o)
unfolding every
unmark_scalars error h = h
unmark_scalars (text []) h = h
unmark_scalars (text (c ∷ cs)) h = choice (eqb c 0xFEFF) (text cs) (text (c ∷ cs)) (and_t_right (is_scalar c) _ h) h

unmarked_scalars : (t : Bool) (a : Next) → Gives a → Gives (unmarked t a)
unmarked_scalars t more h = record { holds = tt }
unmarked_scalars t (item w s o) h = front_item (choice t (unmark o) o (unmark_scalars o h.holds) h.holds)

pub next_scalars : (t : Tables) (f : Family) (s : Shift) (xs : List ℕ) → Bytes xs → Gives (next t f s xs)
unfolding next
next_scalars t UTF-8 s xs p = unmarked_scalars s.flag (utf8 xs) (utf8_scalars xs p)
next_scalars t single-byte s xs p = single_scalars t.first xs p
next_scalars t windows-1252 s xs p = single_scalars windows1252 xs p
next_scalars t GB18030 s xs p = gb18030_scalars t xs p
next_scalars t Big5 s xs p = big5_scalars t xs p
next_scalars t EUC-JP s xs p = euc_jp-scalars t xs p
next_scalars t ISO-2022-JP s xs p = iso_2022_jp_scalars t s xs p
next_scalars t Shift-JIS s xs p = shift_jis-scalars t xs p
next_scalars t EUC-KR s xs p = euc_kr-scalars t xs p
next_scalars t Replacement s xs p = replacement_scalars s xs p
next_scalars t UTF-16BE s xs p = unmarked_scalars s.flag (utf16 true xs) (utf16_scalars true xs p)
next_scalars t UTF-16LE s xs p = unmarked_scalars s.flag (utf16 false xs) (utf16_scalars false xs p)
next_scalars t x-user-defined s xs p = user_scalars xs p
