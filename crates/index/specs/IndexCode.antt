-- What the code's values stand for: what the reader reads, and a pointer. Assumes nothing.
use Rattle.std.specs.Prelude.{ℕ, Option, Some, None, Ok, Err}
use Rattle.std.specs.declared.result.Result.{Result}
use Rattle.std.proofs.Math.Option.{Option as Optional, some, none}
use Rattle.index_spec.specs.IndexRead.{Read, no_entry, bad, entry}
use Rattle.index_spec.specs.declared.Line.{Line}
use Rattle.index.specs.declared.Refusal.{Refusal}
use Rattle.index.specs.declared.Refusal.TheVariants.{LongLine, BadLine, NoFreeCell}
use Rattle.index.specs.declared.reading.Entry.{Entry}
use Rattle.index.specs.declared.reading.BadLine.{BadLine as NotRead}

-- The reader's word for what the code answers.
abbrev pub read_of : Result (Option Entry) NotRead → Read
read_of (Ok None) = no_entry
read_of (Ok (Some e)) = entry e.pointer e.code_point
read_of (Err e) = bad

-- The answer of the index line call, by what the code makes of the line.
abbrev pub answer_of : Result (Option ℕ) Refusal → Line
answer_of (Ok None) = record { pointer = 0; refusal = 0; entry = 0 }
answer_of (Ok (Some p)) = record { pointer = p; refusal = 0; entry = 1 }
answer_of (Err LongLine) = record { pointer = 0; refusal = 8; entry = 0 }
answer_of (Err BadLine) = record { pointer = 0; refusal = 12; entry = 0 }
answer_of (Err NoFreeCell) = record { pointer = 0; refusal = 13; entry = 0 }

-- The standard's word for a pointer that may be null.
abbrev pub pointer_of : Option ℕ → Optional ℕ
pointer_of (Some p) = some p
pointer_of None = none
