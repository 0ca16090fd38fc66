-- The published index files: which is an encoding's first table, and which its second, by 000's and 004's names. Assumes nothing.
use Rattle.std.specs.Prelude.{List, [], ◌∷◌, ◌++◌, ℕ, ltb, eqb, length, get_or, drop}
use Prim.Native.String.{String}
use Rattle.standard.specs.Base.{◌then◌else◌}
use Rattle.standard.specs.Text.{bytes}
use Rattle.labels_spec.specs.Labels.{Naming, unnamed}

-- For each encoding number, the file of its first and of its second table; an empty name where it has none, or where it is built in
-- (21, windows-1252). ISO-2022-JP's second is for writing only.
unfoldable pub files : List (String × String)
files =
    ("", "") ∷
    ("index-ibm866.txt", "") ∷
    ("index-iso-8859-2.txt", "") ∷
    ("index-iso-8859-3.txt", "") ∷
    ("index-iso-8859-4.txt", "") ∷
    ("index-iso-8859-5.txt", "") ∷
    ("index-iso-8859-6.txt", "") ∷
    ("index-iso-8859-7.txt", "") ∷
    ("index-iso-8859-8.txt", "") ∷
    ("index-iso-8859-8.txt", "") ∷
    ("index-iso-8859-10.txt", "") ∷
    ("index-iso-8859-13.txt", "") ∷
    ("index-iso-8859-14.txt", "") ∷
    ("index-iso-8859-15.txt", "") ∷
    ("index-iso-8859-16.txt", "") ∷
    ("index-koi8-r.txt", "") ∷
    ("index-koi8-u.txt", "") ∷
    ("index-macintosh.txt", "") ∷
    ("index-windows-874.txt", "") ∷
    ("index-windows-1250.txt", "") ∷
    ("index-windows-1251.txt", "") ∷
    ("", "") ∷
    ("index-windows-1253.txt", "") ∷
    ("index-windows-1254.txt", "") ∷
    ("index-windows-1255.txt", "") ∷
    ("index-windows-1256.txt", "") ∷
    ("index-windows-1257.txt", "") ∷
    ("index-windows-1258.txt", "") ∷
    ("index-x-mac-cyrillic.txt", "") ∷
    ("index-gb18030.txt", "index-gb18030-ranges.txt") ∷
    ("index-gb18030.txt", "index-gb18030-ranges.txt") ∷
    ("index-big5.txt", "") ∷
    ("index-jis0208.txt", "index-jis0212.txt") ∷
    ("index-jis0208.txt", "index-iso-2022-jp-katakana.txt") ∷
    ("index-jis0208.txt", "") ∷
    ("index-euc-kr.txt", "") ∷
    ("", "") ∷
    ("", "") ∷
    ("", "") ∷
    ("", "") ∷ []

-- The bytes of the name: of the first table with which = 0, else of the second.
abbrev pub name_in : ℕ → String × String → String
name_in which r = eqb which 0 then r.0 else r.1

unfoldable pub file_name : ℕ → ℕ → List ℕ
file_name which e = bytes (name_in which (get_or files e ("", "")))

-- The call, as that of an encoding's name: 2 above 39; 7 where the room is smaller than the name; else the name at the front of the room.
unfoldable pub file_naming : ℕ → ℕ → List ℕ → Naming
file_naming which e room =
    let name = file_name which e in
    ltb 39 e then unnamed 2 room else
    ltb (length room) (length name) then unnamed 7 room else
    record { answer = record { length = length name; refusal = 0 }; room = name ++ drop (length name) room }
