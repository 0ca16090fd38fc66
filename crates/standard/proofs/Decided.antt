-- A sixth law: a sequence that gives text is decided by its own bytes. (One in error may be decided by a byte that is put back.)
-- Assumes nothing.
use mathlib.Core.Path.{◌≡◌, sym, ap, ◌∙◌}
use mathlib.Core.Bool.{Bool, true, false}
use mathlib.Core.List.{List, [], ◌∷◌, ◌++◌}
use Prim.Native.Nat.{ℕ, suc, ◌+◌, ◌≤◌}
use native.Mathlib.Omega.{arith}
use lib.Dec.{lit≤}
use lib.ListN.{length}
use Rattle.standard.specs.Base.{◌then◌else◌}
use Rattle.standard.specs.Encodings.{Tables, Family, UTF-8, single-byte, windows-1252, GB18030, Big5, EUC-JP, ISO-2022-JP, Shift-JIS, EUC-KR, Replacement, UTF-16BE, UTF-16LE, x-user-defined}
use Rattle.standard.specs.Sequence.{Shift, Out, text, error, Next, more, item, await}
use Rattle.standard.specs.Sequences.Utf8.{utf8}
use Rattle.standard.specs.Sequences.SingleByte.{single_byte}
use Rattle.standard.specs.Sequences.Gb18030.{gb18030}
use Rattle.standard.specs.Sequences.Big5.{big5, big5_pair}
use Rattle.standard.specs.Sequences.EucJp.{euc_jp}
use Rattle.standard.specs.Sequences.Iso2022Jp.{iso2022_jp}
use Rattle.standard.specs.Sequences.ShiftJis.{shift_jis}
use Rattle.standard.specs.Sequences.EucKr.{euc_kr}
use Rattle.standard.specs.Sequences.Replacement.{replacement}
use Rattle.standard.specs.Sequences.Utf16.{utf16}
use Rattle.standard.specs.Sequences.UserDefined.{user_defined}
use Rattle.standard.specs.Next.{unmarked, next}

-- n bytes are read; `a` is the answer where xs follows them, and `b` where more bytes follow.
-- A text `b` reaches behind the n bytes; and it is `a` where xs has all of it.
pub record Own (n : ℕ) (xs : List ℕ) (a b : Next) : Type 0 where
  pub deep : (w : ℕ) (s : Shift) (cs : List ℕ) → b ≡ item w s (text cs) → n ≤ w
  pub own : (w : ℕ) (s : Shift) (cs : List ℕ) → b ≡ item w s (text cs) → w ≤ n + length xs → a ≡ item w s (text cs)

own_await : {n : ℕ} (xs ys : List ℕ) {f : ℕ → List ℕ → Next} →
    ((x : ℕ) (zs us : List ℕ) → Own (suc n) zs (f x zs) (f x (zs ++ us))) → Own n xs (await xs f) (await (xs ++ ys) f)
own_await [] [] g = record { deep = λ w s cs e. let z : ◌≡◌ {A = ℕ} 0 1 = cc in absurd (omega arith); own = λ w s cs e h. e }
own_await [] (y ∷ ys) g = record {
  deep = λ w s cs e. omega (arith, (g y [] ys).deep w s cs e);
  own = λ w s cs e h. absurd (omega (arith, (g y [] ys).deep w s cs e));
}
own_await (x ∷ xs) ys g = record {
  deep = λ w s cs e. omega (arith, (g x xs ys).deep w s cs e);
  own = λ w s cs e h. (g x xs ys).own w s cs e (omega arith);
}

own_test : {n : ℕ} {xs : List ℕ} (t : Bool) {a b a' b' : Next} → Own n xs a b → Own n xs a' b' → Own n xs (t then a else a') (t then b else b')
own_test true f g = f
own_test false f g = g

own_item : {n : ℕ} {xs : List ℕ} {w : ℕ} {s : Shift} {o : Out} → n ≤ w → Own n xs (item w s o) (item w s o)
own_item {n} {xs} {w} h = record { deep = λ w' s cs e. let z : w ≡ w' = cc in omega arith; own = λ w s cs e l. e }

own_error : {n : ℕ} {xs : List ℕ} {w : ℕ} {s : Shift} → Own n xs (item w s error) (item w s error)
own_error = record { deep = λ w s cs e. let z : ◌≡◌ {A = ℕ} 0 1 = cc in absurd (omega arith); own = λ w s cs e l. e }

utf8_own : (xs ys : List ℕ) → Own 0 xs (utf8 xs) (utf8 (xs ++ ys))
unfolding utf8
utf8_own xs ys = search (own_await, own_test, own_item, own_error, lit≤) depth 20

single_byte-own : (index xs ys : List ℕ) → Own 0 xs (single_byte index xs) (single_byte index (xs ++ ys))
unfolding single_byte
single_byte-own index xs ys = search (own_await, own_test, own_item, own_error, lit≤) depth 20

gb18030_own : (t : Tables) (xs ys : List ℕ) → Own 0 xs (gb18030 t xs) (gb18030 t (xs ++ ys))
unfolding gb18030
gb18030_own t xs ys = search (own_await, own_test, own_item, own_error, lit≤) depth 20

shift_jis-own : (t : Tables) (xs ys : List ℕ) → Own 0 xs (shift_jis t xs) (shift_jis t (xs ++ ys))
unfolding shift_jis
shift_jis-own t xs ys = search (own_await, own_test, own_item, own_error, lit≤) depth 20

user_defined-own : (xs ys : List ℕ) → Own 0 xs (user_defined xs) (user_defined (xs ++ ys))
unfolding user_defined
user_defined-own xs ys = search (own_await, own_test, own_item, lit≤) depth 20

big5_own : (t : Tables) (xs ys : List ℕ) → Own 0 xs (big5 t xs) (big5 t (xs ++ ys))
unfolding big5 big5_pair
big5_own t xs ys = search (own_await, own_test, own_item, own_error, lit≤) depth 20

euc_jp-own : (t : Tables) (xs ys : List ℕ) → Own 0 xs (euc_jp t xs) (euc_jp t (xs ++ ys))
unfolding euc_jp
euc_jp-own t xs ys = search (own_await, own_test, own_item, own_error, lit≤) depth 20

euc_kr-own : (t : Tables) (xs ys : List ℕ) → Own 0 xs (euc_kr t xs) (euc_kr t (xs ++ ys))
unfolding euc_kr
euc_kr-own t xs ys = search (own_await, own_test, own_item, own_error, lit≤) depth 20

utf16_own : (be : Bool) (xs ys : List ℕ) → Own 0 xs (utf16 be xs) (utf16 be (xs ++ ys))
unfolding utf16
utf16_own be xs ys = search (own_await, own_test, own_item, own_error, lit≤) depth 20

iso_2022_jp_own : (t : Tables) (s : Shift) (xs ys : List ℕ) → Own 0 xs (iso2022_jp t s xs) (iso2022_jp t s (xs ++ ys))
unfolding iso2022_jp
iso_2022_jp_own t s xs ys = search (own_await, own_test, own_item, own_error, lit≤) depth 20

replacement_own : (s : Shift) (xs ys : List ℕ) → Own 0 xs (replacement s xs) (replacement s (xs ++ ys))
unfolding replacement
replacement_own s xs ys = search (own_await, own_item, lit≤) depth 20

-- a dropped mark takes nothing from a text's width
unmark_text : (fresh : Bool) (b : Next) (w : ℕ) (s : Shift) (cs : List ℕ) → unmarked fresh b ≡ item w s (text cs) →
    (ds : List ℕ) × (b ≡ item w s (text ds))
unmark_text fresh more w s cs e = let z : ◌≡◌ {A = ℕ} 0 1 = cc in absurd (omega arith)
unmark_text false (item w' s' o) w s cs e = (cs, e)
unmark_text true (item w' s' error) w s cs e = let z : ◌≡◌ {A = ℕ} 0 1 = cc in absurd (omega arith)
unmark_text true (item w' s' (text ds)) w s cs e = (ds, cc)

own_marked : (fresh : Bool) {n : ℕ} {xs : List ℕ} (a b : Next) → Own n xs a b → Own n xs (unmarked fresh a) (unmarked fresh b)
own_marked fresh a b h = record {
  deep = λ w s cs e. let k = unmark_text fresh b w s cs e in h.deep w s k.0 k.1;
  own = λ w s cs e l. let k = unmark_text fresh b w s cs e in ap (unmarked fresh) (h.own w s k.0 k.1 l ∙ sym k.1) ∙ e;
}

pub next_own : (t : Tables) (f : Family) (s : Shift) (xs ys : List ℕ) → Own 0 xs (next t f s xs) (next t f s (xs ++ ys))
unfolding next
next_own t UTF-8 s xs ys = own_marked s.flag (utf8 xs) (utf8 (xs ++ ys)) (utf8_own xs ys)
next_own t single-byte s xs ys = single_byte-own t.first xs ys
next_own t windows-1252 s xs ys = single_byte-own _ xs ys
next_own t GB18030 s xs ys = gb18030_own t xs ys
next_own t Big5 s xs ys = big5_own t xs ys
next_own t EUC-JP s xs ys = euc_jp-own t xs ys
next_own t ISO-2022-JP s xs ys = iso_2022_jp_own t s xs ys
next_own t Shift-JIS s xs ys = shift_jis-own t xs ys
next_own t EUC-KR s xs ys = euc_kr-own t xs ys
next_own t Replacement s xs ys = replacement_own s xs ys
next_own t UTF-16BE s xs ys = own_marked s.flag (utf16 true xs) (utf16 true (xs ++ ys)) (utf16_own true xs ys)
next_own t UTF-16LE s xs ys = own_marked s.flag (utf16 false xs) (utf16 false (xs ++ ys)) (utf16_own false xs ys)
next_own t x-user-defined s xs ys = user_defined-own xs ys
