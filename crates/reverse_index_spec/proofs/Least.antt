-- Links to the least pointer that passes a test, and to the last. Assumes nothing.
use mathlib.Core.Path.{◌≡◌, refl, sym, ◌∙◌}
use mathlib.Core.Bool.{Bool, true, false}
use Prim.Native.Nat.{ℕ, zero, suc, ◌+◌, ◌≤◌, ◌<◌}
use native.Mathlib.Omega.{arith}
use lib.Dec.{ltb}
use borrow.Author.Tests.{ltb-true, ltb-false}
use Rattle.standard.proofs.Tests.{split, true_t}
use Rattle.reverse_index_spec.specs.ReverseIndex.{Least, seek}

-- A test does not come out both ways.
pub clash : {A : Type 0} {b : Bool} → b ≡ true → b ≡ false → A
clash t f = absurd (true_t (sym f ∙ t))

module _ (P : ℕ → Bool) where
  pub least_none : (p : ℕ) → ((q : ℕ) → p ≤ q → P q ≡ false) → Least P p 0
  least_none p n = record { leads = λ q e. absurd (omega arith); least = λ q h t. clash t (n q h) }

  pub least_here : (p : ℕ) → P p ≡ true → Least P p (suc p)
  least_here p t = record {
    leads = λ q e. let z : p ≡ q = omega arith in (omega arith, rw z at t);
    least = λ q h u. (omega arith, omega arith);
  }

  -- from a place on, with nothing between
  pub least_skip : (p q l : ℕ) → p ≤ q → ((r : ℕ) → p ≤ r → r < q → P r ≡ false) → Least P q l → Least P p l
  least_skip p q l h n a = record {
    leads = λ r e. (omega (arith, (a.leads r e).0), (a.leads r e).1);
    least = λ r g t. split (ltb r q) (λ u. clash t (n r g (ltb-true r q u))) (λ u. a.least r (ltb-false r q u) t);
  }

  pub least_on : (p l : ℕ) → P p ≡ false → Least P (suc p) l → Least P p l
  least_on p l f a = least_skip p (suc p) l (omega arith) (λ r h g. let z : p ≡ r = omega arith in rw z at f) a

  -- There is one such link.
  pub unique : (p l m : ℕ) → Least P p l → Least P p m → l ≡ m
  unique p zero zero a b = refl
  unique p zero (suc q) a b = let h = b.leads q refl in absurd (omega (arith, a.least q h.0 h.1))
  unique p (suc q) zero a b = let h = a.leads q refl in absurd (omega (arith, b.least q h.0 h.1))
  unique p (suc q) (suc r) a b =
      let g = a.leads q refl in
      let h = b.leads r refl in
      omega (arith, a.least r h.0 h.1, b.least q g.0 g.1)

  -- It is found upward.
  pub seek_least : (k p : ℕ) → ((q : ℕ) → p + k ≤ q → P q ≡ false) → Least P p (seek P p k)
  unfolding seek
  seek_least zero p n = least_none p (λ q h. n q (omega arith))
  seek_least (suc k) p n = split (P p)
      (λ t. rw t (least_here p t))
      (λ f. rw f (least_on p (seek P (suc p) k) f (seek_least k (suc p) (λ q h. n q (omega arith)))))

  -- Nothing passes between p and where a least link leads.
  pub between : {p l : ℕ} → Least P p l → (r : ℕ) → p ≤ r → suc r < l → P r ≡ false
  between a r h g = split (P r) (λ t. absurd (omega (arith, a.least r h t))) (λ f. f)

  pub nothing : {p : ℕ} → Least P p 0 → (r : ℕ) → p ≤ r → P r ≡ false
  nothing a r h = split (P r) (λ t. absurd (omega (arith, a.least r h t))) (λ f. f)

-- A link to the last pointer that passes a test.
pub record Last (P : ℕ → Bool) (l : ℕ) : Type 0 where
  pub leads : (q : ℕ) → l ≡ suc q → P q ≡ true
  pub most : (q : ℕ) → P q ≡ true → suc q ≤ l
