use mathlib.Core.Path.{◌≡◌}
use Prim.Native.Nat.{ℕ}
use lib.ListN.{get_or}
use Rattle.standard.specs.Base.{line_feeds}
use Rattle.word_runs.specs.Units.{values, oriented}
use Rattle.word_runs.proofs.utf_16.feeds.Given as goal

-- The invariant: `count` line feeds are among the units so far.
abbrev pub invariant-loop-word : goal.invariant-loop-word
invariant-loop-word l = l.count ≡ line_feeds (values (λ (j : ℕ). oriented l.be (get_or l.words j 0)) l.word-index)
