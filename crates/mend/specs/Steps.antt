-- What a step of the program leaves. Assumes nothing.
use Rattle.std.specs.Prelude.{◌≡◌, Bool, true, List, [], ℕ, ◌+◌, ◌*◌, ◌≤◌, ◌<◌, length, take}
use Rattle.std.specs.Io.KnownBytes.{Appends}
use Rattle.std.specs.declared.option.Option.{Option}
use Rattle.standard.specs.Encodings.{family, lent, fits}
use Rattle.replacements_spec.specs.Calls.{Handed}
use Rattle.program_text.specs.Places.{Put}
use Rattle.mend_spec.specs.Mended.{Streams}
use Rattle.mend_spec.specs.Program.{step_number, gives}
use Rattle.mend.specs.Refusals.{Numbered}
use Rattle.mend.specs.declared.Mended.{Mended}

-- A step wrote so: the decoder and the refusal after it, and the texts at the front of both rooms.
pub record Wrote (h : Handed) (more : Bool) (out report : List ℕ) (r : Mended) (out' report' : List ℕ) : Type 0 where
  pub decoder : r.decoder ≡ h.answer.answer.decoder
  pub refusal : Numbered r.outcome (step_number h more)
  pub output : Put out 0 (gives h more).output r.written out'
  pub lines : Put report 0 (gives h more).report r.told report'

-- What a step wrote stands in its rooms.
pub record Few (r : Mended) (out report : List ℕ) : Type 0 where
  pub text : r.written ≤ length out
  pub lines : r.told ≤ length report

-- What a step gave is written to both streams.
pub record Flushed (output output' errors errors' : Option (List ℕ)) (s : Mended) (out report : List ℕ) : Type 0 where
  pub text : Appends output output' (take s.written out)
  pub lines : Appends errors errors' (take s.told report)

-- Both streams are written.
pub record Written (output output' errors errors' : Option (List ℕ)) (s : Streams) : Type 0 where
  pub text : Appends output output' s.output
  pub lines : Appends errors errors' s.report

-- A room for the scalars of `full` bytes and for those held, and one for their spans.
pub record Suits (full : ℕ) (room spans : List ℕ) : Type 0 where
  pub low : 0 < full
  pub high : full ≤ 65536
  pub scalars : full + 3 ≤ length room
  pub told : 2 * (full + 3) ≤ length spans

-- An encoding and its table.
pub record Taken (encoding : ℕ) (table : List ℕ) : Type 0 where
  pub known : encoding ≤ 39
  pub suits : fits (family encoding) (lent table []) ≡ true
