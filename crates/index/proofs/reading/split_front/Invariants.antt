-- `split_front`. The loop's invariant: by any test that tells what `passes` answers, the bytes before this one pass. Assumes nothing.
use Rattle.std.proofs.Common.{◌≡◌, ◌<◌, ℕ, Bool, true, get_or}
use Rattle.index.proofs.reading.split_front.Given as goal

abbrev pub invariant-loop-count : goal.invariant-loop-count
invariant-loop-count g l = (p : ℕ → Bool) → ((b : ℕ) (r : Bool) → goal.F-post g l.passes b r → r ≡ p b) → (k : ℕ) → k < l.count → p (get_or l.bytes k 0) ≡ true
