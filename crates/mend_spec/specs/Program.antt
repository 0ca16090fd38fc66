-- What the program writes for buffers, one after another. Assumes nothing.
use Rattle.std.specs.Prelude.{Bool, false, List, [], ◌∷◌, ◌++◌, ℕ, ◌-◌, ltb, eqb, length, take, replicate}
use Rattle.std.proofs.Math.Option.{Option, some, none}
use Rattle.standard.specs.Base.{◌then◌else◌}
use Rattle.standard.specs.Encodings.{Tables, lent, no_tables}
use Rattle.labels_spec.specs.Labels.{label}
use Rattle.decoder.specs.Calls.{opening}
use Rattle.decoder.specs.declared.Decoder.{Decoder}
use Rattle.replacements_spec.specs.Calls.{Handed, feed_telling, finish_telling}
use Rattle.replacements_spec.specs.Statements.{Piece, told}
use Rattle.index_loading.specs.Loading.{Loaded, loading}
use Rattle.program_text.specs.Lines.{first_line, after_line, refused}
use Rattle.program_text.specs.Utf8.{utf8}
use Rattle.mend_spec.specs.Mended.{Streams, span_lines, refuses, cells_of, begin_refusal}

-- The bytes of a buffer that a decoder still takes, and whether more come.
abbrev pub fitting : Decoder → List ℕ → List ℕ
fitting d chunk = take (4294967295 - d.taken) chunk

abbrev pub over : Decoder → List ℕ → Bool
over d chunk = ltb (4294967295 - d.taken) (length chunk)

-- The refusal of a step: that of its call, or 14 where more bytes come.
abbrev pub step_of : ℕ → Bool → ℕ
step_of refusal more = eqb refusal 0 then (more then 14 else 0) else refusal

abbrev pub step_number : Handed → Bool → ℕ
step_number h more = step_of h.answer.answer.refusal more

-- What a call gives to both streams, and the line of a refusal behind it.
abbrev pub last_line : ℕ → List ℕ
last_line n = eqb n 0 then [] else refused n

abbrev pub gives : Handed → Bool → Streams
gives h more = record {
  output = utf8 (take h.answer.answer.written h.room);
  report = span_lines (told h) ++ last_line (step_number h more);
}

-- A further buffer, and the end of input.
abbrev pub fed : Tables → Decoder → Piece → Handed
fed t d p = feed_telling d t (fitting d p.chunk) p.room p.spans

abbrev pub joins : Streams → Streams → Streams
joins s s' = record { output = s.output ++ s'.output; report = s.report ++ s'.report }

abbrev pub nothing : Streams
nothing = record { output = []; report = [] }

-- All that buffers give, each with its rooms, and then the end of input. A refusal is the last line.
unfoldable pub text_by : Tables → Decoder → List Piece → List ℕ → List ℕ → Streams
text_by t d [] room spans = gives (finish_telling d t room spans) false
text_by t d (p ∷ ps) room spans =
    let h = fed t d p in
    let more = over d p.chunk in
    joins (gives h more) (eqb (step_number h more) 0 then text_by t h.answer.answer.decoder ps room spans else nothing)

-- The program, with its index file, if that could be opened: a first buffer with the label, and further ones; each has its rooms. The refusals of
-- the first buffer, then those of the file, and then the text behind the first line.
abbrev pub behind_line : Piece → Piece
behind_line p = record { chunk = after_line p.chunk; room = p.room; spans = p.spans }

abbrev pub with_table : Loaded → (Tables → Streams) → Streams
with_table l text = eqb l.refusal 0 then text (lent l.table []) else refuses l.refusal

abbrev pub with_file : ℕ → Option (List ℕ) → (Tables → Streams) → Streams
with_file e none text = refuses 4
with_file e (some file) text = with_table (loading (replicate (cells_of e) 0) file) text

unfoldable pub program : Option (List ℕ) → Piece → List Piece → List ℕ → List ℕ → Streams
program file first ps room spans =
    let e = (label (first_line first.chunk)).encoding in
    let text : Tables → Streams = λ t. text_by t (opening e 0 0).decoder (behind_line first ∷ ps) room spans in
    eqb (begin_refusal first.chunk) 0 then (eqb (cells_of e) 0 then text no_tables else with_file e file text) else
    refuses (begin_refusal first.chunk)
