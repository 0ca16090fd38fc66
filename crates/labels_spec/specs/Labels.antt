-- Document 01, "Labels and encoding numbers": the table of 004, trimming, folding, and what the label call answers. Assumes nothing.
use Rattle.std.specs.Prelude.{◌≡◌, Bool, true, false, ◌&&◌, ◌||◌, List, [], ◌∷◌, ◌++◌, map, reverse, ℕ, suc, ◌+◌, ltb, eqb, length, get_or, drop}
use Rattle.std.proofs.Math.Option.{Option, some, none}
use Prim.Native.Char.{code}
use Prim.Native.String.{String, [] as []ˢ, ◌∷◌ as ◌∷ˢ◌}
use Rattle.standard.specs.Base.{◌then◌else◌, within}
use Rattle.standard.specs.Text.{bytes}
use Rattle.labels_spec.specs.declared.Found.{Found}
use Rattle.labels_spec.specs.declared.Named.{Named}

-- The table of 004, section 4.2: each encoding's name and its labels. Its number is its place, counted from 0.
unfoldable pub table : List (String × List String)
table =
    ("UTF-8", "unicode-1-1-utf-8" ∷ "unicode11utf8" ∷ "unicode20utf8" ∷ "utf-8" ∷ "utf8" ∷ "x-unicode20utf8" ∷ []) ∷
    ("IBM866", "866" ∷ "cp866" ∷ "csibm866" ∷ "ibm866" ∷ []) ∷
    ("ISO-8859-2", "csisolatin2" ∷ "iso-8859-2" ∷ "iso-ir-101" ∷ "iso8859-2" ∷ "iso88592" ∷ "iso_8859-2" ∷ "iso_8859-2:1987" ∷ "l2" ∷ "latin2" ∷ []) ∷
    ("ISO-8859-3", "csisolatin3" ∷ "iso-8859-3" ∷ "iso-ir-109" ∷ "iso8859-3" ∷ "iso88593" ∷ "iso_8859-3" ∷ "iso_8859-3:1988" ∷ "l3" ∷ "latin3" ∷ []) ∷
    ("ISO-8859-4", "csisolatin4" ∷ "iso-8859-4" ∷ "iso-ir-110" ∷ "iso8859-4" ∷ "iso88594" ∷ "iso_8859-4" ∷ "iso_8859-4:1988" ∷ "l4" ∷ "latin4" ∷ []) ∷
    ("ISO-8859-5", "csisolatincyrillic" ∷ "cyrillic" ∷ "iso-8859-5" ∷ "iso-ir-144" ∷ "iso8859-5" ∷ "iso88595" ∷ "iso_8859-5" ∷ "iso_8859-5:1988" ∷ []) ∷
    ("ISO-8859-6", "arabic" ∷ "asmo-708" ∷ "csiso88596e" ∷ "csiso88596i" ∷ "csisolatinarabic" ∷ "ecma-114" ∷ "iso-8859-6" ∷ "iso-8859-6-e" ∷ "iso-8859-6-i" ∷ "iso-ir-127" ∷ "iso8859-6" ∷ "iso88596" ∷ "iso_8859-6" ∷ "iso_8859-6:1987" ∷ []) ∷
    ("ISO-8859-7", "csisolatingreek" ∷ "ecma-118" ∷ "elot_928" ∷ "greek" ∷ "greek8" ∷ "iso-8859-7" ∷ "iso-ir-126" ∷ "iso8859-7" ∷ "iso88597" ∷ "iso_8859-7" ∷ "iso_8859-7:1987" ∷ "sun_eu_greek" ∷ []) ∷
    ("ISO-8859-8", "csiso88598e" ∷ "csisolatinhebrew" ∷ "hebrew" ∷ "iso-8859-8" ∷ "iso-8859-8-e" ∷ "iso-ir-138" ∷ "iso8859-8" ∷ "iso88598" ∷ "iso_8859-8" ∷ "iso_8859-8:1988" ∷ "visual" ∷ []) ∷
    ("ISO-8859-8-I", "csiso88598i" ∷ "iso-8859-8-i" ∷ "logical" ∷ []) ∷
    ("ISO-8859-10", "csisolatin6" ∷ "iso-8859-10" ∷ "iso-ir-157" ∷ "iso8859-10" ∷ "iso885910" ∷ "l6" ∷ "latin6" ∷ []) ∷
    ("ISO-8859-13", "iso-8859-13" ∷ "iso8859-13" ∷ "iso885913" ∷ []) ∷
    ("ISO-8859-14", "iso-8859-14" ∷ "iso8859-14" ∷ "iso885914" ∷ []) ∷
    ("ISO-8859-15", "csisolatin9" ∷ "iso-8859-15" ∷ "iso8859-15" ∷ "iso885915" ∷ "iso_8859-15" ∷ "l9" ∷ []) ∷
    ("ISO-8859-16", "iso-8859-16" ∷ []) ∷
    ("KOI8-R", "cskoi8r" ∷ "koi" ∷ "koi8" ∷ "koi8-r" ∷ "koi8_r" ∷ []) ∷
    ("KOI8-U", "koi8-ru" ∷ "koi8-u" ∷ []) ∷
    ("macintosh", "csmacintosh" ∷ "mac" ∷ "macintosh" ∷ "x-mac-roman" ∷ []) ∷
    ("windows-874", "dos-874" ∷ "iso-8859-11" ∷ "iso8859-11" ∷ "iso885911" ∷ "tis-620" ∷ "windows-874" ∷ []) ∷
    ("windows-1250", "cp1250" ∷ "windows-1250" ∷ "x-cp1250" ∷ []) ∷
    ("windows-1251", "cp1251" ∷ "windows-1251" ∷ "x-cp1251" ∷ []) ∷
    ("windows-1252", "ansi_x3.4-1968" ∷ "ascii" ∷ "cp1252" ∷ "cp819" ∷ "csisolatin1" ∷ "ibm819" ∷ "iso-8859-1" ∷ "iso-ir-100" ∷ "iso8859-1" ∷ "iso88591" ∷ "iso_8859-1" ∷ "iso_8859-1:1987" ∷ "l1" ∷ "latin1" ∷ "us-ascii" ∷ "windows-1252" ∷ "x-cp1252" ∷ []) ∷
    ("windows-1253", "cp1253" ∷ "windows-1253" ∷ "x-cp1253" ∷ []) ∷
    ("windows-1254", "cp1254" ∷ "csisolatin5" ∷ "iso-8859-9" ∷ "iso-ir-148" ∷ "iso8859-9" ∷ "iso88599" ∷ "iso_8859-9" ∷ "iso_8859-9:1989" ∷ "l5" ∷ "latin5" ∷ "windows-1254" ∷ "x-cp1254" ∷ []) ∷
    ("windows-1255", "cp1255" ∷ "windows-1255" ∷ "x-cp1255" ∷ []) ∷
    ("windows-1256", "cp1256" ∷ "windows-1256" ∷ "x-cp1256" ∷ []) ∷
    ("windows-1257", "cp1257" ∷ "windows-1257" ∷ "x-cp1257" ∷ []) ∷
    ("windows-1258", "cp1258" ∷ "windows-1258" ∷ "x-cp1258" ∷ []) ∷
    ("x-mac-cyrillic", "x-mac-cyrillic" ∷ "x-mac-ukrainian" ∷ []) ∷
    ("GBK", "chinese" ∷ "csgb2312" ∷ "csiso58gb231280" ∷ "gb2312" ∷ "gb_2312" ∷ "gb_2312-80" ∷ "gbk" ∷ "iso-ir-58" ∷ "x-gbk" ∷ []) ∷
    ("gb18030", "gb18030" ∷ []) ∷
    ("Big5", "big5" ∷ "big5-hkscs" ∷ "cn-big5" ∷ "csbig5" ∷ "x-x-big5" ∷ []) ∷
    ("EUC-JP", "cseucpkdfmtjapanese" ∷ "euc-jp" ∷ "x-euc-jp" ∷ []) ∷
    ("ISO-2022-JP", "csiso2022jp" ∷ "iso-2022-jp" ∷ []) ∷
    ("Shift_JIS", "csshiftjis" ∷ "ms932" ∷ "ms_kanji" ∷ "shift-jis" ∷ "shift_jis" ∷ "sjis" ∷ "windows-31j" ∷ "x-sjis" ∷ []) ∷
    ("EUC-KR", "cseuckr" ∷ "csksc56011987" ∷ "euc-kr" ∷ "iso-ir-149" ∷ "korean" ∷ "ks_c_5601-1987" ∷ "ks_c_5601-1989" ∷ "ksc5601" ∷ "ksc_5601" ∷ "windows-949" ∷ []) ∷
    ("replacement", "csiso2022kr" ∷ "hz-gb-2312" ∷ "iso-2022-cn" ∷ "iso-2022-cn-ext" ∷ "iso-2022-kr" ∷ "replacement" ∷ []) ∷
    ("UTF-16BE", "unicodefffe" ∷ "utf-16be" ∷ []) ∷
    ("UTF-16LE", "csunicode" ∷ "iso-10646-ucs-2" ∷ "ucs-2" ∷ "unicode" ∷ "unicodefeff" ∷ "utf-16" ∷ "utf-16le" ∷ []) ∷
    ("x-user-defined", "x-user-defined" ∷ []) ∷ []

-- The bytes of an encoding's name; none above 39.
unfoldable pub name : ℕ → List ℕ
name e = bytes (get_or table e ("", [])).0

-- White space: 09, 0A, 0C, 0D, 20.
abbrev pub white : ℕ → Bool
white b = eqb b 0x09 || eqb b 0x0A || eqb b 0x0C || eqb b 0x0D || eqb b 0x20

-- ASCII letters, 41 to 5A, folded to lower case; no other byte changes.
abbrev pub fold : ℕ → ℕ
fold b = within 0x41 b 0x5A then b + 0x20 else b

-- How many bytes of white space stand in front.
unfoldable pub start : List ℕ → ℕ
start [] = 0
start (b ∷ xs) = white b then suc (start xs) else 0

-- The trimmed label: white space dropped from the front and, the list reversed, from the end.
unfoldable pub trimmed : List ℕ → List ℕ
trimmed xs = let ys = reverse (drop (start xs) xs) in reverse (drop (start ys) ys)

-- What trimming answers: the trimmed label, as the part of the caller's bytes that stands `start` bytes on. A place is a block and an offset.
pub record TrimmedPart (bytes : List ℕ) (place : ℕ × ℕ) (part : List ℕ) (at : ℕ × ℕ) : Type 0 where
  pub same : part ≡ trimmed bytes
  pub block : at.0 ≡ place.0
  pub offset : at.1 ≡ place.1 + start bytes

-- Are these the bytes of the text?
unfoldable pub same : List ℕ → String → Bool
same [] []ˢ = true
same [] (c ∷ˢ s) = false
same (b ∷ xs) []ˢ = false
same (b ∷ xs) (c ∷ˢ s) = eqb b (code c) && same xs s

-- Is it one of these labels?
unfoldable pub among : List ℕ → List String → Bool
among l [] = false
among l (m ∷ ms) = same l m || among l ms

-- The number of the encoding with this label, where the first row has number n.
unfoldable pub find : List ℕ → ℕ → List (String × List String) → Option ℕ
find l n [] = none
find l n (r ∷ rs) = among l r.1 then some n else find l (suc n) rs

-- A known label's number and place in the caller's bytes; an unknown one: refusal 1, encoding 0 and an empty part, at 0.
abbrev pub answer : List ℕ → Option ℕ → Found
answer xs (some e) = record { start = start xs; length = length (trimmed xs); refusal = 0; encoding = e }
answer xs none = record { start = 0; length = 0; refusal = 1; encoding = 0 }

-- The label call: the trimmed label is compared with its letters folded.
unfoldable pub label : List ℕ → Found
label xs = answer xs (find (map fold (trimmed xs)) 0 table)

-- What the name call leaves: its answer, and every byte of the room.
pub record Naming : Type 0 where
  pub answer : Named
  pub room : List ℕ

-- A refused name leaves the room as it was.
abbrev pub unnamed : ℕ → List ℕ → Naming
unnamed n room = record { answer = record { length = 0; refusal = n }; room = room }

-- The name call: 2 above 39; 7 where the room is smaller than the name; else the name at the front of the room.
unfoldable pub naming : ℕ → List ℕ → Naming
naming e room =
    ltb 39 e then unnamed 2 room else
    ltb (length room) (length (name e)) then unnamed 7 room else
    record { answer = record { length = length (name e); refusal = 0 }; room = name e ++ drop (length (name e)) room }
