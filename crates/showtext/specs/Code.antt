-- What functions within a step answer. A wrong line here would break a proof. Assumes nothing.
use Rattle.std.specs.Prelude.{List, ◌++◌, ℕ, ◌+◌, eqb}
use Rattle.standard.specs.Base.{◌then◌else◌}
use Rattle.standard.specs.Text.{bytes}
use Rattle.standard.specs.Encodings.{no_tables}
use Rattle.labels_spec.specs.Labels.{name}
use Rattle.decoder.specs.Calls.{feeding}
use Rattle.decoder.specs.declared.Decoder.{Decoder}
pub use Rattle.program_text.specs.Lines.{label_refusal}
use Rattle.showtext.specs.Output.{line, refused}
use Rattle.showtext.specs.Program.{Leaves, leave, lines_of}

-- The line of an encoding's name.
abbrev pub heading : ℕ → List ℕ
heading e = line (bytes "encoding") (name e)

-- A feed with empty tables: behind a heading the lines of its scalars, n having come before, or the line of its refusal.
unfoldable pub feeding_on : List ℕ → Decoder → ℕ → List ℕ → List ℕ → List ℕ → Leaves
feeding_on us d n chunk room out =
    let fed = feeding d no_tables chunk room in
    let a = fed.answer in
    eqb a.refusal 0 then leave a.decoder (n + a.written) 0 (us ++ lines_of n fed) fed.room out else
    leave d 0 a.refusal (refused a.refusal) fed.room out
