-- What a written scalar reads back as, and the law of one scalar: its bytes are one sequence that gives this. Assumes nothing.
use Rattle.std.specs.Prelude.{◌≡◌, Bool, true, false, ◌||◌, List, [], ◌∷◌, ◌++◌, ℕ, eqb, length}
use Rattle.standard.specs.Base.{◌then◌else◌, within, is_scalar}
use Rattle.standard.specs.Encodings.{Tables, fits, ISO-2022-JP}
use Rattle.standard.specs.Machine.{Result, tokens}
use Rattle.standard.specs.Search.{Lookup, Sound}
use Rattle.standard.specs.Encoders.Pairs.{minus}
use Rattle.standard.specs.Encoders.Iso2022Jp.{changed, changed_name}
use Rattle.standard.specs.Sequence.{Shift, text, shift, plain, scalar}
use Rattle.standard.specs.Next.{next}
use Rattle.standard.specs.Decode.{Item, span, Read, decode}
use Rattle.standard.specs.Writers.{Writer, utf-8, single-byte, windows-1252, gbk, gb18030, big5, euc-jp, iso-2022-jp, shift-jis, euc-kr}
use Rattle.standard.specs.Writers.{x-user-defined, stateless, coding, reader}
use Rattle.standard.specs.Ones.{shift_to, iso2022_jp_encode, written_in}

-- Shift_JIS and EUC-JP: itself, but U+00A5 as 5C, U+203E as 7E, U+2212 as U+FF0D
abbrev pub jp_image : ℕ → ℕ
jp_image c = eqb c 0xA5 then 0x5C else eqb c 0x203E then 0x7E else minus c

-- ISO-2022-JP, by the katakana table: itself, but U+2212 as U+FF0D, and U+FF61 to U+FF9F as their katakana cell
abbrev pub iso_image : List ℕ → ℕ → ℕ
iso_image katakana c = changed_name (changed katakana c) c

-- with the second table that the writer is lent
abbrev pub image : Writer → List ℕ → ℕ → ℕ
image utf-8 second c = c
image single-byte second c = c
image windows-1252 second c = c
image gbk second c = c
image gb18030 second c = c
image big5 second c = c
image euc-jp second c = jp_image c
image iso-2022-jp second c = iso_image second c
image shift-jis second c = jp_image c
image euc-kr second c = c
image x-user-defined second c = c

-- 02: the scalars that the read-back clause leaves out
abbrev pub jp_leaves_out : ℕ → Bool
jp_leaves_out c = eqb c 0xA5 || eqb c 0x203E || eqb c 0x2212

abbrev pub iso_leaves_out : ℕ → Bool
iso_leaves_out c = eqb c 0x2212 || within 0xFF61 c 0xFF9F

abbrev pub leaves_out : Writer → ℕ → Bool
leaves_out utf-8 c = false
leaves_out single-byte c = false
leaves_out windows-1252 c = false
leaves_out gbk c = false
leaves_out gb18030 c = false
leaves_out big5 c = false
leaves_out euc-jp c = jp_leaves_out c
leaves_out iso-2022-jp c = iso_leaves_out c
leaves_out shift-jis c = jp_leaves_out c
leaves_out euc-kr c = false
leaves_out x-user-defined c = false

-- The law of one scalar without a state; `proofs/Writers.antt` proves it. With tables that fit and any sound look-up, the bytes of a scalar, whatever
-- follows them, are one sequence at the front, of just their width, that gives the scalar's image.
abbrev pub OneScalar : Type 0
OneScalar = (w : Writer) (t : Tables) (look : Lookup) (encode : ℕ → Result) → fits (reader w) t ≡ true → Sound look t.first →
    coding w look t.second ≡ stateless encode → (c : ℕ) (bs ys : List ℕ) → is_scalar c ≡ true → encode c ≡ tokens bs →
    next t (reader w) plain (bs ++ ys) ≡ scalar (length bs) (image w t.second c)

-- The reader's shift at each state of ISO-2022-JP's writer: output state 0, 1, or 3 for the two-byte state; nothing is shifted just before.
abbrev pub reader_shift : ℕ → Shift
reader_shift s = shift (eqb s 2 then 3 else s) false

-- the sequences of the way from one state to another: a shift sequence gives no scalar
abbrev pub shifts : ℕ → ℕ → List Item
shifts s s' = eqb s s' then [] else span 3 (text []) ∷ []

-- some sequences in front of what is read
abbrev pub front : List Item → Read → Read
front is r = record { items = is ++ r.items; shift = r.shift; rest = r.rest }

-- The law of one scalar with a state; `proofs/ReadsBackIso.antt` proves it. From each state, the bytes of a scalar, whatever follows them,
-- are a shift sequence where the state changes, and then one sequence that gives the image; the reader is then in the new state.
abbrev pub OneScalarInState : Type 0
OneScalarInState = (t : Tables) (katakana : List ℕ) (look : Lookup) → fits ISO-2022-JP t ≡ true → Sound look t.first →
    (s c : ℕ) (bs ys : List ℕ) → iso2022_jp_encode look katakana c ≡ tokens bs →
    let s' = written_in s c in
    decode (next t ISO-2022-JP) (reader_shift s) ((shift_to s s' ++ bs) ++ ys) ≡
    front (shifts s s' ++ span (length bs) (text (iso_image katakana c ∷ [])) ∷ []) (decode (next t ISO-2022-JP) (reader_shift s') ys)
