-- Look-ups that miss alike give answers of one shape: an encoder uses a pointer for its bytes alone. Assumes nothing.
use mathlib.Core.Path.{◌≡◌, refl}
use mathlib.Core.Logic.{◌↔◌}
use mathlib.Core.Bool.{Bool, true, false, ◌&&◌, ◌||◌}
use mathlib.Core.List.{List, ◌++◌}
use mathlib.Core.Option.{Option, some, none}
use Prim.Native.Nat.{ℕ}
use native.Mathlib.Omega.{arith}
use lib.Dec.{eqb}
use lib.ListN.{length, length-append}
use Rattle.standard.specs.Base.{◌then◌else◌, within}
use Rattle.standard.specs.Machine.{Result, tokens}
use Rattle.standard.specs.Handlers.{ascii}
use Rattle.standard.specs.Layouts.{Layout, two_bytes, gb18030_layout, big5_layout, euc_jp_layout, iso2022_jp_layout, shift_jis_layout, euc_kr_layout}
use Rattle.standard.specs.Search.{PassedOver, none_over, Side, first, Lookup}
use Rattle.standard.specs.Encoders.SingleByte.{or_error_with, single_byte_encode}
use Rattle.standard.specs.Encoders.Pairs.{pair_or, minus}
use Rattle.standard.specs.Encoders.Gb18030.{gb18030_encode}
use Rattle.standard.specs.Encoders.Big5.{big5_over, big5_side, big5_encode}
use Rattle.standard.specs.Encoders.EucJp.{jis0208_over, euc_jp_encode}
use Rattle.standard.specs.Encoders.Iso2022Jp.{control, changed, changed_name}
use Rattle.standard.specs.Encoders.ShiftJis.{shift_jis_over, shift_jis_encode}
use Rattle.standard.specs.Encoders.EucKr.{euc_kr_encode}
use Rattle.standard.specs.Writers.{Writer, utf-8, single-byte, windows-1252, gbk, gb18030, big5, euc-jp, iso-2022-jp, shift-jis, euc-kr}
use Rattle.standard.specs.Writers.{x-user-defined, coding}
use Rattle.standard.specs.Ones.{One, shift_to, answered, plainly, changed_pair, iso2022_jp_encode, state_for, encode_one}
use Rattle.reverse_index_spec.specs.Statements.{MissAlike}
use Rattle.indexed_writing.specs.Statements.{looked_up, same, by_pointers, SameOne}

-- Answers of one shape: the same, or as many bytes, by pointers of the code point d.
data Like (look look' : Lookup) (d : ℕ) : Result → Result → Type 0 where
  just : (r : Result) → Like look look' d r r
  found : (bs ds : List ℕ) → length bs ≡ length ds → (side : Side) (over : PassedOver) (p q : ℕ) →
      look side over d ≡ some p → look' side over d ≡ some q → Like look look' d (tokens bs) (tokens ds)

one_self : {look look' : Lookup} {d : ℕ} (o : One) → SameOne look look' d o o
one_self o = record { sizes = refl; states = refl; names = refl; which = same o.bytes }

module _ (look look' : Lookup) (A : MissAlike look look') where
  abbrev L : ℕ → Result → Result → Type 0
  L = Like look look'

  -- behind the same test
  like_test : {d : ℕ} (t : Bool) (a : Result) {b b' : Result} → L d b b' → L d (t then a else b) (t then a else b')
  like_test true a h = just a
  like_test false a h = h

  -- pointers that are both null, or neither
  by_look : (side : Side) (over : PassedOver) (d : ℕ) (K : Option ℕ → Option ℕ → Type 0) → K none none →
      ((p q : ℕ) → look side over d ≡ some p → look' side over d ≡ some q → K (some p) (some q)) → K (look side over d) (look' side over d)
  by_look side over d K n s = go (look side over d) (look' side over d) refl refl (A.misses side over d)
    where
      go : (o o' : Option ℕ) → look side over d ≡ o → look' side over d ≡ o' → (o ≡ none) ↔ (o' ≡ none) → K o o'
      go none none e e' h = n
      go (some p) (some q) e e' h = s p q e e'
      go none (some q) e e' h = let f = h.0 refl in let z : ◌≡◌ {A = ℕ} 0 1 = cc in absurd (omega arith)
      go (some p) none e e' h = let f = h.1 refl in let z : ◌≡◌ {A = ℕ} 0 1 = cc in absurd (omega arith)

  like_byte : (side : Side) (over : PassedOver) (d : ℕ) → L d (or_error_with (look side over d) d) (or_error_with (look' side over d) d)
  like_byte side over d =
      by_look side over d (λ o o'. L d (or_error_with o d) (or_error_with o' d)) (just _) (λ p q e e'. found _ _ refl side over p q e e')

  like_pair : (y : Layout) (other : Result) (side : Side) (over : PassedOver) (d : ℕ) →
      L d (pair_or y (look side over d) other) (pair_or y (look' side over d) other)
  like_pair y other side over d =
      by_look side over d (λ o o'. L d (pair_or y o other) (pair_or y o' other)) (just other)
      (λ p q e e'. found (two_bytes y p) (two_bytes y q) refl side over p q e e')

  module _ (c : ℕ) where
    like_single_byte : L c (single_byte_encode look c) (single_byte_encode look' c)
    unfolding single_byte_encode
    like_single_byte = like_test (ascii c) _ (like_byte first none_over c)

    like_euc_kr : L c (euc_kr_encode look c) (euc_kr_encode look' c)
    unfolding euc_kr_encode
    like_euc_kr = like_test (ascii c) _ (like_pair euc_kr_layout _ first none_over c)

    like_big5 : L c (big5_encode look c) (big5_encode look' c)
    unfolding big5_encode
    like_big5 = like_test (ascii c) _ (like_pair big5_layout _ (big5_side c) big5_over c)

    like_euc_jp : L (minus c) (euc_jp_encode look c) (euc_jp_encode look' c)
    unfolding euc_jp_encode
    like_euc_jp =
        like_test (ascii c) _ (like_test (eqb c 0xA5) _ (like_test (eqb c 0x203E) _ (like_test (within 0xFF61 c 0xFF9F) _
        (like_pair euc_jp_layout _ first jis0208_over (minus c)))))

    like_shift_jis : L (minus c) (shift_jis_encode look c) (shift_jis_encode look' c)
    unfolding shift_jis_encode
    like_shift_jis =
        like_test (ascii c || eqb c 0x80) _ (like_test (eqb c 0xA5) _ (like_test (eqb c 0x203E) _ (like_test (within 0xFF61 c 0xFF9F) _
        (like_pair shift_jis_layout _ first shift_jis_over (minus c)))))

    like_gb18030 : (is_gbk : Bool) (ranges : List ℕ) → L c (gb18030_encode is_gbk look ranges c) (gb18030_encode is_gbk look' ranges c)
    unfolding gb18030_encode
    like_gb18030 is_gbk ranges =
        like_test (ascii c) _ (like_test (eqb c 0xE5E5) _ (like_test (is_gbk && eqb c 0x20AC) _ (like_pair gb18030_layout _ first none_over c)))

    -- ISO-2022-JP looks up what a scalar is changed to
    like_changed : (o : Option ℕ) → L (changed_name o c) (changed_pair look o c) (changed_pair look' o c)
    like_changed none = just _
    like_changed (some d) = like_pair iso2022_jp_layout _ first jis0208_over d

    like_iso_2022_jp : (katakana : List ℕ) → L (changed_name (changed katakana c) c) (iso2022_jp_encode look katakana c) (iso2022_jp_encode look' katakana c)
    unfolding iso2022_jp_encode
    like_iso_2022_jp katakana =
        like_test (control c) _ (like_test (ascii c) _ (like_test (eqb c 0xA5) _ (like_test (eqb c 0x203E) _ (like_changed (changed katakana c)))))

  -- One scalar in a state: the state after it does not see the pointer.
  like_one : (s : ℕ) {d : ℕ} {r r' : Result} → L d r r' → SameOne look look' d (plainly s r) (plainly s r')
  like_one s (just r) = one_self (plainly s r)
  like_one s (found bs ds e side over p q f g) =
      record { sizes = e; states = refl; names = refl; which = by_pointers bs ds side over p q f g }

  like_switched : (s c : ℕ) {d : ℕ} {r r' : Result} → L d r r' →
      SameOne look look' d (answered (shift_to s (state_for s c r)) (state_for s c r) r) (answered (shift_to s (state_for s c r')) (state_for s c r') r')
  like_switched s c (just r) = one_self _
  like_switched s c (found bs ds e side over p q f g) =
      let es = shift_to s (state_for s c (tokens bs)) in
      record { sizes = simp length-append (omega (arith, e)); states = refl; names = refl; which = by_pointers (es ++ bs) (es ++ ds) side over p q f g }

pub same_one : (w : Writer) (look look' : Lookup) (second : List ℕ) → MissAlike look look' → (s c : ℕ) →
    SameOne look look' (looked_up w second c) (encode_one (coding w look second) s c) (encode_one (coding w look' second) s c)
same_one utf-8 look look' second A s c = one_self _
same_one single-byte look look' second A s c = like_one look look' A s (like_single_byte look look' A c)
same_one windows-1252 look look' second A s c = one_self _
same_one gbk look look' second A s c = like_one look look' A s (like_gb18030 look look' A c true second)
same_one gb18030 look look' second A s c = like_one look look' A s (like_gb18030 look look' A c false second)
same_one big5 look look' second A s c = like_one look look' A s (like_big5 look look' A c)
same_one euc-jp look look' second A s c = like_one look look' A s (like_euc_jp look look' A c)
same_one iso-2022-jp look look' second A s c = like_switched look look' A s c (like_iso_2022_jp look look' A c second)
same_one shift-jis look look' second A s c = like_one look look' A s (like_shift_jis look look' A c)
same_one euc-kr look look' second A s c = like_one look look' A s (like_euc_kr look look' A c)
same_one x-user-defined look look' second A s c = one_self _
