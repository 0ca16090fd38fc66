-- A reader for index lines, equal to the grammar: proofs/Reader.antt. Assumes nothing.
use Rattle.std.specs.Prelude.{Bool, true, ◌&&◌, List, [], ◌∷◌, ℕ, eqb, length, get_or, drop}
use Rattle.standard.specs.Base.{◌then◌else◌, within, mapped}
use Rattle.index_spec.specs.IndexLine.{decimal, hexadecimal, value, ending}

-- What a line is: no entry, a bad line, or an entry with its pointer and code point.
pub data Read : Type 0 where
  no_entry : Read
  bad : Read
  entry : ℕ → ℕ → Read

-- The longest front whose bytes pass a test.
unfoldable pub front : (ℕ → Bool) → List ℕ → List ℕ
front p [] = []
front p (b ∷ bs) = p b then b ∷ front p bs else []

-- What stands behind it.
unfoldable pub behind : (ℕ → Bool) → List ℕ → List ℕ
behind p [] = []
behind p (b ∷ bs) = p b then behind p bs else b ∷ bs

-- Spaces in front are the byte 20 only.
abbrev pub space : ℕ → Bool
space b = eqb b 0x20

-- Do a tab and `0x` stand in front?
abbrev pub marked : List ℕ → Bool
marked xs = eqb (get_or xs 0 0) 0x09 && (eqb (get_or xs 1 0) 0x30 && eqb (get_or xs 2 0) 0x78)

-- Do the parts make an entry: decimal digits ds, xs behind them, hexadecimal digits hs, rest behind those?
unfoldable pub fits : (ds xs hs rest : List ℕ) → Bool
fits ds xs hs rest = within 1 (length ds) 7 && (marked xs && (within 4 (length hs) 6 && (ending rest && mapped (value 16 0 hs))))

-- What the parts are read as.
abbrev pub read_parts : (ds xs hs rest : List ℕ) → Read
read_parts ds xs hs rest = fits ds xs hs rest then entry (value 10 0 ds) (value 16 0 hs) else bad

-- Behind the decimal digits ds stand the mark, three bytes, and the hexadecimal digits.
abbrev pub read_code : (ds xs : List ℕ) → Read
read_code ds xs = read_parts ds xs (front hexadecimal (drop 3 xs)) (behind hexadecimal (drop 3 xs))

-- Behind the spaces stand the decimal digits.
abbrev pub read_pointer : List ℕ → Read
read_pointer xs = read_code (front decimal xs) (behind decimal xs)

-- Is the line empty, or does it start with `#`?
abbrev pub is_no_entry : List ℕ → Bool
is_no_entry [] = true
is_no_entry (b ∷ bs) = eqb b 0x23

-- A line, read from its start.
unfoldable pub read : List ℕ → Read
read line = is_no_entry line then no_entry else read_pointer (behind space line)
