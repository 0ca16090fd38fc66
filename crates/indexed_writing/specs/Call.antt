-- 02, Ask 8: the writer's call with an index beside the first table. Assumes nothing.
use Rattle.std.specs.Prelude.{List, ℕ, length}
use Rattle.standard.specs.Encodings.{Tables}
use Rattle.reverse_index_spec.specs.ReverseIndex.{fits, look_up}
use Rattle.encoder_spec.specs.Writer.{Outcome, call_by}
use Rattle.encoder_spec.specs.Calls.{Calling}

-- Writing by an index of any cells: as the writer's call, with 15 behind 4 where the index has not the length for the first table.
-- windows-1252 keeps its built-in table.
unfoldable pub indexed_call : ℕ → ℕ → ℕ → Tables → List ℕ → List ℕ → List ℕ → Outcome
indexed_call e m s t index cs room = call_by (look_up t.first index) (fits (length t.first) (length index)) e m s t cs room

-- a list of such calls, with the same index throughout
abbrev pub indexed_calls : ℕ → ℕ → Tables → List ℕ → Calling
indexed_calls e m t index s p = indexed_call e m s t index p.scalars p.room
