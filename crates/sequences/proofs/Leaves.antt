-- What a sequence is, from facts on numbers: what the returns of the code cite. Assumes nothing.
use mathlib.Core.Path.{◌≡◌, refl, ap}
use mathlib.Core.Bool.{Bool, true, false}
use mathlib.Core.List.{List, [], ◌∷◌}
use Prim.Native.Nat.{ℕ, zero, suc, ◌-◌, ◌≤◌}
use native.Mathlib.Omega.{arith}
use lib.Dec.{ltb}
use lib.ListN.{take}
use borrow.Author.Tests.{ltb-true, ltb-false, le-ltb, ne_eqb}
use Rattle.standard.specs.Base.{◌then◌else◌}
use Rattle.standard.specs.Sequence.{more, await, scalar, code, pair, trailed}
use Rattle.sequences.specs.Code.{front}

-- there is a byte more, or none
pub one_more : (n b : ℕ) (xs : List ℕ) → 1 ≤ n → take n (b ∷ xs) ≡ b ∷ take (n - 1) xs
one_more zero b xs h = absurd (omega arith)
one_more (suc n) b xs h = let e : n ≡ suc n - 1 = omega arith in ap (λ (k : ℕ). b ∷ take k xs) e

pub front_some : (n b c d e : ℕ) → (n ≡ 0 → ⊥) → front n b c d e ≡ b ∷ take (n - 1) (c ∷ d ∷ e ∷ [])
front_some n b c d e h = one_more n b (c ∷ d ∷ e ∷ []) (omega arith)

pub front_none : (n b c d e : ℕ) → n ≡ 0 → front n b c d e ≡ []
front_none n b c d e h = rw h

pub no_more : (n : ℕ) (xs : List ℕ) → n ≤ 0 → take n xs ≡ []
no_more zero xs h = refl
no_more (suc n) xs h = absurd (omega arith)

-- a code point that is not null
pub code_some : (w c : ℕ) → (c ≡ 0 → ⊥) → code w c ≡ scalar w c
code_some w c h = rw (ne_eqb c 0 h)

-- a trail byte with its code point
pub trailed_some : (l w t c : ℕ) → (c ≡ 0 → ⊥) → trailed l w t c ≡ scalar w c
trailed_some l w t c h = rw (ne_eqb c 0 h)

-- the second byte, if it is there
pub pair_there : (n t c : ℕ) → 2 ≤ n → (ltb n 2 then more else pair t c) ≡ pair t c
pair_there n t c h = rw (le-ltb n 2 h)

pub await_pair : (n c : ℕ) (xs : List ℕ) (f : ℕ → ℕ) → await (take (n - 1) (c ∷ xs)) (λ c xs. pair c (f c)) ≡ (ltb n 2 then more else pair c (f c))
await_pair n c xs f = go (ltb n 2) refl
  where
    go : (t : Bool) → ltb n 2 ≡ t → await (take (n - 1) (c ∷ xs)) (λ c xs. pair c (f c)) ≡ (t then more else pair c (f c))
    go true h = let z : n - 1 ≤ 0 = omega (arith, ltb-true n 2 h) in rw (no_more (n - 1) (c ∷ xs) z)
    go false h = let z : 1 ≤ n - 1 = omega (arith, ltb-false n 2 h) in rw (one_more (n - 1) c xs z)
