use mathlib.Core.Bool.{false}
use mathlib.Core.Path.{◌≡◌}
use Prim.Native.Nat.{ℕ, ◌+◌, ◌*◌, ◌<◌}
use lib.ListN.{length, get_or}
use Rattle.word_runs.specs.Units.{values, unit_at}
use Rattle.runs.specs.Run.{patch}
use Rattle.word_runs.proofs.words.read_words.Given as goal

-- The invariant: the first k words are read.
abbrev pub invariant-loop-k : goal.invariant-loop-k
invariant-loop-k l = record {
  size : length l.words ≡ length l.initial.words;
  bytes : (j : ℕ) → j < l.k → (get_or l.chunk (l.at + j * 2) 0 < 256) × (get_or l.chunk (l.at + j * 2 + 1) 0 < 256);
  wrote : l.words ≡ patch 0 (values (unit_at false l.chunk l.at) l.k) l.initial.words;
}
