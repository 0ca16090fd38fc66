-- The ranges in ascending order: the test of the order, the search by halves, and the pair that decides. Assumes nothing.
use mathlib.Core.Path.{◌≡◌, refl, ◌∙◌}
use mathlib.Core.Bool.{Bool, true, false}
use mathlib.Core.List.{List, [], ◌∷◌}
use Prim.Native.Nat.{ℕ, zero, suc, ◌+◌, ◌-◌, ◌*◌, ◌/◌, ◌≤◌, ◌<◌}
use native.Mathlib.Omega.{arith}
use native.Mathlib.Nat.{add-zero}
use lib.Dec.{leb, ltb}
use lib.ListN.{length, drop, get_or, length-drop}
use lib.Seq.{drop-cons}
use borrow.Author.Tests.{ltb-true, ltb-false, leb-true, leb-false, lt-leb, le-leb}
use Rattle.standard.specs.Base.{◌then◌else◌}
use Rattle.standard.proofs.Tests.{split}
use Rattle.layouts.specs.Ranges.{number, Ascending, onward, last_sum, Decides}

-- the ranges, pair after pair
module _ (back : Bool) (ranges : List ℕ) (x : ℕ) where
  pub sum_step : (i f : ℕ) → i * 2 + 1 < length ranges → last_sum back (drop (i * 2) ranges) x f ≡
      last_sum back (drop ((i + 1) * 2) ranges) x (onward back (get_or ranges (i * 2) 0) (get_or ranges (i * 2 + 1) 0) x f)
  unfolding last_sum
  sum_step i f h =
      let e : i * 2 + 1 ≡ suc (i * 2) = omega arith in
      let g : (i + 1) * 2 ≡ suc (suc (i * 2)) = omega arith in
      rw (drop-cons ranges (i * 2) 0 (omega arith), drop-cons ranges (suc (i * 2)) 0 (omega arith), g, e)

  pub sum_end : (i f : ℕ) → length ranges / 2 ≤ i → last_sum back (drop (i * 2) ranges) x f ≡ f
  unfolding last_sum
  sum_end i f h = go (drop (i * 2) ranges) (omega (arith, length-drop (i * 2) ranges))
    where
      go : (l : List ℕ) → length l ≤ 1 → last_sum back l x f ≡ f
      go [] n = refl
      go (a ∷ []) n = refl
      go (a ∷ b ∷ l) n = absurd (omega arith)

-- one pair more, by its number
abbrev next : Bool → List ℕ → ℕ → ℕ → ℕ → ℕ
next back r x k f = onward back (get_or r (k * 2) 0) (get_or r (k * 2 + 1) 0) x f

passes : (back : Bool) (r : List ℕ) (x k f : ℕ) → x < number back r k → next back r x k f ≡ f
passes false r x k f h = rw (lt-leb (get_or r (k * 2) 0) x h)
passes true r x k f h = rw (lt-leb (get_or r (k * 2 + 1) 0) x h)

takes : (back : Bool) (r : List ℕ) (x k f g : ℕ) → number back r k ≤ x → next back r x k f ≡ next back r x k g
takes false r x k f g h = rw (le-leb (get_or r (k * 2) 0) x h)
takes true r x k f g h = rw (le-leb (get_or r (k * 2 + 1) 0) x h)

module _ (back : Bool) (r : List ℕ) (x : ℕ) where
  -- the pairs above x count for nothing
  rest : (n j f : ℕ) → n ≡ length r / 2 - j → ((i : ℕ) → j ≤ i → i < length r / 2 → x < number back r i) →
      last_sum back (drop (j * 2) r) x f ≡ f
  rest zero j f e h = sum_end back r x j f (omega arith)
  rest (suc n) j f e h =
      sum_step back r x j f (omega arith) ∙ rest n (j + 1) (next back r x j f) (omega arith) (λ i a b. h i (omega arith) b) ∙
      passes back r x j f (h j (omega arith) (omega arith))

  -- the pair that decides gives the answer
  module _ (k : ℕ) (D : Decides back r x k) where
    from : (d j f : ℕ) → j + d ≡ k → last_sum back (drop (j * 2) r) x f ≡ next back r x k f
    from zero j f e =
        let z : j ≡ k = omega (arith, e) in
        rw z (sum_step back r x k f (omega (arith, D.inside)) ∙
        rest (length r / 2 - (k + 1)) (k + 1) (next back r x k f) refl (λ i a b. D.behind i (omega arith) b))
    from (suc d) j f e =
        sum_step back r x j f (omega (arith, D.inside, e)) ∙ from d (j + 1) (next back r x j f) (omega (arith, e)) ∙
        takes back r x k (next back r x j f) f (D.reached (omega (arith, e)))

    pub decided : (f : ℕ) → last_sum back r x f ≡ onward back (get_or r (k * 2) 0) (get_or r (k * 2 + 1) 0) x f
    decided f = from k 0 f (omega arith)

  -- where no pair does, there is none
  pub none_decides : (k : ℕ) → (2 ≤ length r → Decides back r x k) → length r / 2 ≤ k → (f : ℕ) → last_sum back r x f ≡ f
  none_decides k D h f = split (ltb (length r) 2)
      (λ t. sum_end back r x 0 f (omega (arith, ltb-true (length r) 2 t)))
      (λ t. absurd (omega (arith, h, (D (ltb-false (length r) 2 t)).inside)))

  module _ (A : Ascending back r) where
    climbs : (d j : ℕ) → j + d < length r / 2 → number back r j ≤ number back r (j + d)
    climbs zero j h = rw (add-zero j) (omega arith)
    climbs (suc d) j h =
        let e : j + suc d ≡ j + d + 1 = omega arith in
        rw e (omega (arith, climbs d j (omega arith), A.order (j + d) (omega arith)))

    -- a pair above x, and all behind it are
    pub all_above : (k : ℕ) → x < number back r k → (i : ℕ) → k ≤ i → i < length r / 2 → x < number back r i
    all_above k h i l g =
        let e : k + (i - k) ≡ i = omega arith in
        let z = climbs (i - k) k (omega arith) in
        let y = rw e at z in
        omega (arith, h, y)

    -- a pair that is not above x, whose follower is
    pub decides : (k : ℕ) → k < length r / 2 → number back r k ≤ x → (k + 1 < length r / 2 → x < number back r (k + 1)) → Decides back r x k
    decides k h l g = record {
      inside = h;
      reached = λ z. l;
      behind = λ i a b. all_above (k + 1) (g (omega arith)) i (omega arith) b;
    }

-- a number once, or not at all
pub at_most : (h n : ℕ) (b : Bool) → n ≡ (b then 1 else 0) → h * n ≤ h
at_most h n true e = rw e (omega arith)
at_most h n false e = rw e (omega arith)

-- The pair that decides is among `count` pairs from `low` on.
pub record Narrowed (back : Bool) (r : List ℕ) (x low count : ℕ) : Type 0 where
  pub some : 1 ≤ count
  pub reached : 0 < low → number back r low ≤ x
  pub behind : (i : ℕ) → low + count ≤ i → i < length r / 2 → x < number back r i

module _ (back : Bool) (r : List ℕ) (x : ℕ) where
  pub narrowed_start : 2 ≤ length r → Narrowed back r x 0 (length r / 2)
  narrowed_start h = record { some = omega arith; reached = λ z. absurd (omega arith); behind = λ i a b. absurd (omega arith) }

  -- half the pairs are left, by the test of the pair in the middle
  module _ (low count q n : ℕ) (A : Ascending back r) (N : Narrowed back r x low count) (h : 1 < count) (g : low + count ≤ length r / 2)
      (w : q ≡ number back r (low + count / 2)) where
    upper : number back r (low + count / 2) ≤ x → Narrowed back r x (low + count / 2) (count - count / 2)
    upper l = record { some = omega arith; reached = λ z. l; behind = λ i a b. N.behind i (omega arith) b }

    lower : x < number back r (low + count / 2) → Narrowed back r x low (count - count / 2)
    lower l = record {
      some = omega arith;
      reached = N.reached;
      behind = λ i a b. all_above back r x A (low + count / 2) l i (omega arith) b;
    }

    pub narrowed_half : n ≡ (leb q x then 1 else 0) → Narrowed back r x (low + count / 2 * n) (count - count / 2)
    narrowed_half e = split (leb q x)
        (λ t. let z : low + count / 2 * n ≡ low + count / 2 = rw (e, t) (omega arith) in
        rw z (upper (rw w at (leb-true q x t))))
        (λ t. let z : low + count / 2 * n ≡ low = rw (e, t) (omega arith) in
        rw z (lower (rw w at (leb-false q x t))))

  pub narrowed_end : (low count : ℕ) → Narrowed back r x low count → count ≤ 1 → low + count ≤ length r / 2 → Decides back r x low
  narrowed_end low count N h g = record {
    inside = omega (arith, N.some);
    reached = N.reached;
    behind = λ i a b. N.behind i (omega arith) b;
  }
