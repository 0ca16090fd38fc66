-- Document 01, "Program `showtext`": what is printed for an input. Assumes nothing.
use Rattle.std.specs.Prelude.{List, [], ◌∷◌, ◌++◌, ℕ, suc, ltb, eqb, length}
use Rattle.standard.specs.Base.{◌then◌else◌}
use Rattle.standard.specs.Text.{bytes}
use Rattle.standard.specs.Encodings.{family, no_tables, fits}
use Rattle.standard.specs.Decode.{shown, everything}
use Rattle.labels_spec.specs.Labels.{label, name}
use Rattle.decoder.specs.Record.{new_shift}
pub use Rattle.program_text.specs.Lines.{digit, count, line, refused}
unfoldable pub use Rattle.program_text.specs.Lines.{first_line, after_line, digits}

-- A scalar: at least four capital hexadecimal digits.
abbrev pub code_point : ℕ → List ℕ
code_point c = bytes "U+" ++ digits 16 8 4 c

-- A line for each scalar, with its count; the first one's is n.
unfoldable pub scalar_lines : ℕ → List ℕ → List ℕ
scalar_lines n [] = []
scalar_lines n (c ∷ cs) = line (count n) (code_point c) ++ scalar_lines (suc n) cs

-- The text of an encoding: its name, the scalars and their number.
abbrev pub listing : ℕ → List ℕ → List ℕ
listing e cs = line (bytes "encoding") (name e) ++ (scalar_lines 0 cs ++ line (bytes "end") (count (length cs)))

-- What is printed. Replacing mode, rule drop, empty tables; a label of at most 255 bytes. A refusal is the only line.
unfoldable pub printed : List ℕ → List ℕ
printed input =
    let found = label (first_line input) in
    let e = found.encoding in
    ltb 255 (length (first_line input)) then refused 1 else
    eqb found.refusal 1 then refused 1 else
    fits (family e) no_tables then listing e (shown (everything no_tables (family e) (new_shift e 0) (after_line input))) else
    refused 4
