-- Document 02, Ask 11: the lines of a list, their names, and the known names. Characters are numbers. Assumes nothing.
use Rattle.std.specs.Prelude.{Bool, true, false, List, [], ◌∷◌, ℕ, suc, ◌+◌, ◌-◌, ltb, eqb, take}
use Rattle.std.proofs.Math.Seq.{slice}
use Rattle.standard.specs.Base.{◌then◌else◌}

abbrev pub TAB : ℕ
TAB = 0x09

abbrev pub LF : ℕ
LF = 0x0A

abbrev pub CR : ℕ
CR = 0x0D

-- How many characters stand in front of the first x; all of them, where there is none.
unfoldable pub before : ℕ → List ℕ → ℕ
before x [] = 0
before x (c ∷ cs) = eqb c x then 0 else suc (before x cs)

-- How often x stands among the characters.
unfoldable pub count : ℕ → List ℕ → ℕ
count x [] = 0
count x (c ∷ cs) = eqb c x then suc (count x cs) else count x cs

-- Are these the same characters?
unfoldable pub same : List ℕ → List ℕ → Bool
same [] [] = true
same [] (y ∷ ys) = false
same (x ∷ xs) [] = false
same (x ∷ xs) (y ∷ ys) = eqb x y then same xs ys else false

-- A line: its number, the place of its first character, and the place just after its last. Places count from 0.
pub record Line : Type 0 where
  pub number : ℕ
  pub start : ℕ
  pub stop : ℕ

abbrev pub line : ℕ → ℕ → ℕ → Line
line n s e = record { number = n; start = s; stop = e }

-- "a line feed ends it, a carriage return just before it is dropped, .. the last line may lack its line feed": the lines of a text from
-- the place p on, inside the line n, which began at s. cr: is the character before p, in this line, a carriage return?
unfoldable pub lines_from : ℕ → ℕ → ℕ → Bool → List ℕ → List Line
lines_from n s p cr [] = ltb s p then line n s p ∷ [] else []
lines_from n s p cr (c ∷ cs) =
    eqb c LF then line n s (cr then p - 1 else p) ∷ lines_from (n + 1) (p + 1) (p + 1) false cs else
    lines_from n s (p + 1) (eqb c CR) cs

-- The lines of a text, numbered from 1.
abbrev pub lines_of : List ℕ → List Line
lines_of text = lines_from 1 0 0 false text

-- The characters of a line.
abbrev pub chars_of : List ℕ → Line → List ℕ
chars_of text l = slice l.start l.stop text

-- The name of a line: its characters in front of the first tab.
unfoldable pub name_of : List ℕ → Line → List ℕ
name_of text l = take (before TAB (chars_of text l)) (chars_of text l)

-- c in front of the first of the names; nowhere, if there is none.
abbrev pub on_first : ℕ → List (List ℕ) → List (List ℕ)
on_first c [] = []
on_first c (x ∷ xs) = (c ∷ x) ∷ xs

-- "Known names are lent as characters, each closed by a line feed; characters after the last line feed name nothing."
unfoldable pub names_of : List ℕ → List (List ℕ)
names_of [] = []
names_of (c ∷ cs) = eqb c LF then [] ∷ names_of cs else on_first c (names_of cs)

-- Is x one of the names?
unfoldable pub among : List ℕ → List (List ℕ) → Bool
among x [] = false
among x (y ∷ ys) = same y x then true else among x ys
