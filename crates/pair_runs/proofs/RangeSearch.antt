-- The pair that decides, among ranges in ascending order. Assumes nothing.
use mathlib.Core.Path.{◌≡◌, refl, ◌∙◌}
use mathlib.Core.Bool.{false}
use mathlib.Core.List.{List, [], ◌∷◌}
use Prim.Native.Nat.{ℕ, ◌+◌, ◌-◌, ◌*◌, ◌/◌, ◌≤◌, ◌<◌}
use lib.ListN.{length, get_or}
use borrow.Author.Tests.{le-leb}
use Rattle.standard.specs.Sequences.Gb18030.{gb18030_range}
use Rattle.layouts.specs.Ranges.{Ascending, onward, last_sum}
use Rattle.layouts.proofs.RangeOrder.{decides, decided}

-- the sequences search by pointer
by_pointer_lem : (r : List ℕ) (p f : ℕ) → gb18030_range r p f ≡ last_sum false r p f
unfolding gb18030_range last_sum
by_pointer_lem [] p f = refl
by_pointer_lem (q ∷ []) p f = refl
by_pointer_lem (q ∷ c ∷ r) p f = by_pointer_lem r p (onward false q c p f)

-- a pair that is not above the pointer, whose follower is
pub found : (r : List ℕ) (p : ℕ) → Ascending false r → (k : ℕ) → k < length r / 2 → get_or r (k * 2) 0 ≤ p →
    (k + 1 < length r / 2 → p < get_or r ((k + 1) * 2) 0) → gb18030_range r p 0 ≡ get_or r (k * 2 + 1) 0 + (p - get_or r (k * 2) 0)
found r p A k h l g = by_pointer_lem r p 0 ∙ decided false r p k (decides false r p A k h l g) 0 ∙ rw (le-leb (get_or r (k * 2) 0) p l)
