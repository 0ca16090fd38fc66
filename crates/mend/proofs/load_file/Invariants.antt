use Rattle.std.proofs.Common.{◌≡◌, ◌≤◌, List, ℕ, length}
use Rattle.std.specs.Io.KnownBytes.{Consumes}
use Rattle.index_loading.specs.Steps.{on_bytes, Stands}
use Rattle.index_loading.specs.Statements.{fresh}
use Rattle.mend.proofs.load_file.Given as goal

-- The buffer keeps its length, and loading stands behind the bytes that were read.
abbrev pub invariant-loop : goal.invariant-loop
invariant-loop g l = record {
  buffer : length l.buffer ≡ length l.fn.buffer;
  bytes : (bytes : List ℕ) × Consumes (g.R.Read.remaining l.fn.file) (g.R.Read.remaining l.file) bytes ×
      (1025 ≤ length l.fn.line → Stands (on_bytes (fresh l.fn.table) bytes) l.s l.line l.table);
}
