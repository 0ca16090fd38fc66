-- What programs read and print: the first line, a label of at most 255 bytes, numbers, lines. Assumes nothing.
use Rattle.std.specs.Prelude.{List, [], ◌∷◌, ◌++◌, ℕ, zero, suc, ◌+◌, ◌/◌, ◌%◌, ltb, eqb, length}
use Rattle.standard.specs.Base.{◌then◌else◌}
use Rattle.standard.specs.Text.{bytes}
use Rattle.labels_spec.specs.Labels.{label}

-- The first line, closed by a line feed or the end of input, and the rest behind it.
unfoldable pub first_line : List ℕ → List ℕ
first_line [] = []
first_line (b ∷ xs) = eqb b 0x0A then [] else b ∷ first_line xs

unfoldable pub after_line : List ℕ → List ℕ
after_line [] = []
after_line (b ∷ xs) = eqb b 0x0A then xs else after_line xs

-- The digit of a number below 16, in capitals.
abbrev pub digit : ℕ → ℕ
digit d = ltb d 10 then 0x30 + d else 0x37 + d

-- n in base b with at least k digits, `fuel` being enough for all of them.
unfoldable pub digits : ℕ → ℕ → ℕ → ℕ → List ℕ
digits b zero k n = []
digits b (suc fuel) zero n = eqb n 0 then [] else digits b fuel zero (n / b) ++ (digit (n % b) ∷ [])
digits b (suc fuel) (suc k) n = digits b fuel k (n / b) ++ (digit (n % b) ∷ [])

-- A count: the shortest decimal, below 2⁶⁴.
abbrev pub count : ℕ → List ℕ
count n = digits 10 20 1 n

-- The lines: a first word, a tab, a second, a line feed.
abbrev pub line : List ℕ → List ℕ → List ℕ
line first second = first ++ (0x09 ∷ second ++ (0x0A ∷ []))

abbrev pub refused : ℕ → List ℕ
refused n = line (bytes "refused") (count n)

-- The refusal of a first line, or 0.
abbrev pub label_refusal : List ℕ → ℕ
label_refusal input = ltb 255 (length (first_line input)) then 1 else (label (first_line input)).refusal
