-- What holds of each number below another. Assumes nothing.
use mathlib.Core.Path.{◌≡◌, subst}
use Prim.Native.Nat.{ℕ, ◌+◌, ◌-◌, ◌<◌}
use native.Mathlib.Omega.{arith}
use lib.Dec.{ltb}
use borrow.Author.Tests.{ltb-true, ltb-false}
use Rattle.standard.proofs.Tests.{split}

-- what holds below a number, and of as many from it on
pub below_add : (P : ℕ → Type 0) (k n : ℕ) → ((j : ℕ) → j < k → P j) → ((j : ℕ) → j < n → P (k + j)) →
    (j : ℕ) → j < k + n → P j
below_add P k n a b j l =
    split (ltb j k) (λ t. a j (ltb-true j k t))
    (λ t. let z : k + (j - k) ≡ j = omega (arith, ltb-false j k t) in subst P z (b (j - k) (omega (arith, ltb-false j k t))))
