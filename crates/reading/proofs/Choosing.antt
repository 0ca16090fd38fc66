-- What the first bytes choose, by tests of their number and their values. Assumes nothing.
use mathlib.Core.Path.{◌≡◌, refl}
use mathlib.Core.List.{List, [], ◌∷◌}
use Prim.Native.Nat.{ℕ, zero, suc, ◌-◌}
use native.Mathlib.Omega.{arith}
use lib.Dec.{ltb, eqb}
use lib.ListN.{length, take, get_or}
use borrow.Author.Tests.{le-ltb, ne_eqb}
use Rattle.standard.specs.Base.{◌then◌else◌}
use Rattle.standard.specs.Choice.{waiting, label, marked, mark2, mark_ef, choose}

-- behind FE or FF, and behind EF
pub two_is : (n b x g : ℕ) → mark2 x g (take (n - 1) (b ∷ [])) ≡ (ltb n 2 then waiting else eqb b x then marked 2 g else label)
two_is zero b x g = refl
two_is (suc zero) b x g = refl
two_is (suc (suc n)) b x g =
    let z : suc (suc n) - 1 ≡ suc n = omega arith in
    rw (z, le-ltb (suc (suc n)) 2 (omega arith))

pub three_is : (n b c : ℕ) → mark_ef (take (n - 1) (b ∷ c ∷ [])) ≡
    (ltb n 2 then waiting else eqb b 0xBB then (ltb n 3 then waiting else eqb c 0xBF then marked 3 2 else label) else label)
three_is zero b c = refl
three_is (suc zero) b c = refl
three_is (suc (suc zero)) b c = refl
three_is (suc (suc (suc n))) b c =
    let m = suc (suc (suc n)) in
    let z : m - 1 ≡ suc (suc n) = omega arith in
    rw (z, le-ltb m 2 (omega arith), le-ltb m 3 (omega arith))

pub choose_is : (n a b c : ℕ) → choose (take n (a ∷ b ∷ c ∷ [])) ≡
    (eqb n 0 then waiting else
    eqb a 0xEF then mark_ef (take (n - 1) (b ∷ c ∷ [])) else
    eqb a 0xFE then mark2 0xFF 3 (take (n - 1) (b ∷ [])) else
    eqb a 0xFF then mark2 0xFE 4 (take (n - 1) (b ∷ [])) else label)
unfolding choose
choose_is zero a b c = refl
choose_is (suc zero) a b c = refl
choose_is (suc (suc n)) a b c =
    let m = suc (suc n) in
    let z : m - 1 ≡ suc n = omega arith in
    rw (ne_eqb m 0 (λ z. omega arith), z)

-- by the three bytes at the front of all that are there
pub choose_at : (xs : List ℕ) {n a b c : ℕ} → n ≡ length xs → a ≡ get_or xs 0 0 → b ≡ get_or xs 1 0 → c ≡ get_or xs 2 0 →
    choose (take n (a ∷ b ∷ c ∷ [])) ≡ choose xs
unfolding choose
choose_at xs h p q r = rw (h, p, q, r) (go xs)
  where
    go : (xs : List ℕ) → choose (take (length xs) (get_or xs 0 0 ∷ get_or xs 1 0 ∷ get_or xs 2 0 ∷ [])) ≡ choose xs
    go [] = refl
    go (a ∷ []) = refl
    go (a ∷ b ∷ []) = refl
    go (a ∷ b ∷ c ∷ xs) = refl
