-- Document 02, Ask 12, the program `mend`: what it writes to standard output and to standard error for an input. Assumes nothing.
use Rattle.std.specs.Prelude.{◌||◌, List, [], ◌∷◌, ◌++◌, ℕ, ltb, eqb, length, take, replicate}
use Rattle.std.proofs.Math.Option.{Option, some, none}
use Rattle.standard.specs.Base.{◌then◌else◌, within}
use Rattle.standard.specs.Text.{bytes}
use Rattle.standard.specs.Encodings.{family, traits, Tables, lent, no_tables}
use Rattle.standard.specs.Items.{Item, shown}
use Rattle.standard.specs.Choice.{read_from, everything_from}
use Rattle.labels_spec.specs.Labels.{label}
use Rattle.decoder.specs.Record.{new_spot}
use Rattle.replacements_spec.specs.Replaced.{replaced, cells}
use Rattle.index_loading.specs.Loading.{Loaded, loading}
use Rattle.program_text.specs.Lines.{first_line, after_line, label_refusal, count, refused}
use Rattle.program_text.specs.Utf8.{utf8}

-- Standard output, and the report on standard error.
pub record Streams : Type 0 where
  pub output : List ℕ
  pub report : List ℕ

-- The line of a replaced sequence: its place, the number of bytes given up, `U+FFFD`, parted by tabs.
abbrev pub span_line : ℕ → ℕ → List ℕ
span_line place width = count place ++ (0x09 ∷ (count width ++ bytes "\tU+FFFD\n"))

-- A line for each two cells.
unfoldable pub span_lines : List ℕ → List ℕ
span_lines [] = []
span_lines (place ∷ []) = []
span_lines (place ∷ width ∷ cs) = span_line place width ++ span_lines cs

-- What some sequences give, where n bytes stand before them; and a refusal, which is the last line of the report.
abbrev pub mends : ℕ → List Item → Streams
mends n is = record { output = utf8 (shown is); report = span_lines (cells (replaced n is)) }

abbrev pub ends : Streams → ℕ → Streams
ends s n = record { output = s.output; report = s.report ++ refused n }

abbrev pub refuses : ℕ → Streams
refuses n = record { output = []; report = refused n }

-- The bytes behind the first line, by rule drop. Behind 4,294,967,295 of them comes 14: what they give is written, and what is held then is
-- neither finished nor reported.
unfoldable pub mended_text : Tables → ℕ → List ℕ → Streams
mended_text t e xs =
    ltb 4294967295 (length xs) then ends (mends 0 (read_from t e (new_spot e 0) (take 4294967295 xs)).items) 14 else
    mends 0 (everything_from t e (new_spot e 0) xs)

-- EUC-JP, EUC-KR, Big5, GBK and gb18030 are refused with 4, replacement with 9.
unfoldable pub encoding_refusal : ℕ → ℕ
encoding_refusal e =
    eqb e 36 then 9 else
    within 29 e 32 || eqb e 35 then 4 else 0

-- The cells of the one table.
abbrev pub cells_of : ℕ → ℕ
cells_of e = (traits (family e)).first

-- By the index file: 4 if it cannot be opened; the refusal of its first line at fault; else the text with the table that it fills.
abbrev pub by_table : ℕ → List ℕ → Loaded → Streams
by_table e xs l = eqb l.refusal 0 then mended_text (lent l.table []) e xs else refuses l.refusal

abbrev pub by_file : ℕ → List ℕ → Option (List ℕ) → Streams
by_file e xs none = refuses 4
by_file e xs (some file) = by_table e xs (loading (replicate (cells_of e) 0) file)

-- The refusals before a file is opened: 1, then 4 or 9.
abbrev pub begin_refusal : List ℕ → ℕ
begin_refusal input = eqb (label_refusal input) 0 then encoding_refusal (label (first_line input)).encoding else 1

-- The program, with the bytes of its index file, if it could be opened.
unfoldable pub mended : Option (List ℕ) → List ℕ → Streams
mended file input =
    let e = (label (first_line input)).encoding in
    eqb (begin_refusal input) 0 then (
    eqb (cells_of e) 0 then mended_text no_tables e (after_line input) else by_file e (after_line input) file) else
    refuses (begin_refusal input)
