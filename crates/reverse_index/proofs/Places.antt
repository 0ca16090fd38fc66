-- The place of an entry, turn by turn. Assumes nothing.
use mathlib.Core.Path.{◌≡◌, refl, sym, ◌∙◌}
use mathlib.Core.List.{List}
use Prim.Native.Nat.{ℕ, zero, suc, ◌+◌, ◌-◌, ◌≤◌, ◌<◌}
use native.Mathlib.Omega.{arith}
use native.Mathlib.Numerals.{add-one}
use lib.ListN.{get_or, set}
use Rattle.reverse_index_spec.specs.ReverseIndex.{bucket, place, linked, insert}
use Rattle.reverse_index_spec.proofs.LookUp.{follows, stops_low, stops_high}

-- The place of an entry: what the loop keeps.
pub record Placing (index : List ℕ) (n p b at low link : ℕ) : Type 0 where
  pub below : low ≤ p
  pub is : link ≡ get_or index at 0
  pub in_index : at < n + n
  pub fuel : ℕ
  pub enough : p ≤ low + fuel
  pub same : place index n p fuel low at ≡ place index n p p 0 b

pub placing_start : (index : List ℕ) (n p b link : ℕ) → b < n → link ≡ get_or index b 0 → Placing index n p b b 0 link
placing_start index n p b link h e = record {
  below = omega arith;
  is = e;
  in_index = omega arith;
  fuel = p;
  enough = omega arith;
  same = refl;
}

-- A link that is followed or not.
pub place_on : (index : List ℕ) (n p k low at : ℕ) → low < get_or index at 0 → get_or index at 0 ≤ p →
    place index n p (suc k) low at ≡ place index n p k (get_or index at 0) (n + (get_or index at 0 - 1))
unfolding place
place_on index n p k low at h g = rw (follows low (get_or index at 0) p h g)

pub place_low : (index : List ℕ) (n p k low at : ℕ) → get_or index at 0 ≤ low → at ≡ place index n p k low at
unfolding place
place_low index n p zero low at h = refl
place_low index n p (suc k) low at h = rw (stops_low low (get_or index at 0) p h)

pub place_high : (index : List ℕ) (n p k low at : ℕ) → p < get_or index at 0 → at ≡ place index n p k low at
unfolding place
place_high index n p zero low at h = refl
place_high index n p (suc k) low at h = rw (stops_high low (get_or index at 0) p h)

module _ {index : List ℕ} {n p b at low link : ℕ} (a : Placing index n p b at low link) where
  pub placing_turn : low < link → link ≤ p → p < n → (link' : ℕ) → link' ≡ get_or index (n + (link - 1)) 0 →
      Placing index n p b (n + (link - 1)) link link'
  placing_turn h g l link' e = go a.fuel a.enough a.same
    where
      go : (k : ℕ) → p ≤ low + k → place index n p k low at ≡ place index n p p 0 b → Placing index n p b (n + (link - 1)) link link'
      go zero i s = absurd (omega arith)
      go (suc k) i s = record {
        below = g;
        is = e;
        in_index = omega arith;
        fuel = k;
        enough = omega arith;
        same =
            let v = place_on index n p k low at (omega (arith, a.is)) (omega (arith, a.is)) in
            let w : get_or index at 0 ≡ link = sym a.is in
            sym (rw w at v) ∙ s;
      }

  pub placing_low : link ≤ low → at ≡ place index n p p 0 b
  placing_low h = place_low index n p a.fuel low at (omega (arith, a.is)) ∙ a.same

  pub placing_high : p < link → at ≡ place index n p p 0 b
  placing_high h = place_high index n p a.fuel low at (omega (arith, a.is)) ∙ a.same

pub linked_insert : (n p c at : ℕ) (index : List ℕ) → at ≡ place index n p p 0 (bucket n c) →
    set (set index (n + p) (get_or index at 0)) at (p + 1) ≡ insert n index p c
unfolding insert linked
linked_insert n p c at index e = rw (e, add-one)
