-- The walks, turn by turn. Assumes nothing.
use mathlib.Core.Path.{◌≡◌, refl, ap, sym, ◌∙◌}
use mathlib.Core.Bool.{Bool, true, false, ◌&&◌}
use mathlib.Core.List.{List}
use Prim.Native.Nat.{ℕ, zero, suc, ◌+◌, ◌-◌, ◌≤◌, ◌<◌}
use native.Mathlib.Omega.{arith}
use lib.Dec.{ltb, leb}
use lib.ListN.{length, get_or, get_or-eq_default}
use Rattle.standard.proofs.Tests.{split}
use Rattle.reverse_index_spec.proofs.Building.{fits_facts}
use Rattle.standard.specs.Base.{◌then◌else◌}
use Rattle.std.specs.Prelude.{Option, None}
use Rattle.standard.specs.Search.{PassedOver, Side, first, last}
use Rattle.reverse_index_spec.specs.ReverseIndex.{fits, bucket, hit, walk_first, walk_last, walk}
use Rattle.reverse_index.specs.Code.{link_of, side_of}
use Rattle.reverse_index.specs.declared.walks.Side.{Side as Wanted}
use Rattle.reverse_index.specs.declared.walks.Side.TheVariants.{First, Last}
use Rattle.reverse_index_spec.proofs.LookUp.{follows, stops_low, stops_high}

-- A turn of the walks.
module _ (P : ℕ → Bool) (index : List ℕ) (n : ℕ) where
  walk_stop : (k link : ℕ) → ltb 0 link && leb link n ≡ false → 0 ≡ walk_first P index n k link
  unfolding walk_first
  walk_stop zero link f = refl
  walk_stop (suc k) link f = rw f

  pub walk_low : (k link : ℕ) → link ≡ 0 → 0 ≡ walk_first P index n k link
  walk_low k link e = walk_stop k link (stops_low 0 link n (omega arith))

  pub walk_high : (k link : ℕ) → n < link → 0 ≡ walk_first P index n k link
  walk_high k link h = walk_stop k link (stops_high 0 link n h)

  pub walk_end : (k link : ℕ) → k ≤ 0 → 0 ≡ walk_first P index n k link
  unfolding walk_first
  walk_end zero link h = refl
  walk_end (suc k) link h = absurd (omega arith)

  pub walk_hit : (k link : ℕ) → 0 < k → (link ≡ 0 → ⊥) → link ≤ n → P (link - 1) ≡ true → link ≡ walk_first P index n k link
  unfolding walk_first
  walk_hit zero link i h g t = absurd (omega arith)
  walk_hit (suc k) link i h g t = rw (follows 0 link n (omega (arith, h)) g, t)

  pub walk_on : (k link : ℕ) → 0 < k → (link ≡ 0 → ⊥) → link ≤ n → P (link - 1) ≡ false →
      (link' : ℕ) → link' ≡ get_or index (n + (link - 1)) 0 → walk_first P index n (k - 1) link' ≡ walk_first P index n k link
  unfolding walk_first
  walk_on zero link i h g t link' e = absurd (omega arith)
  walk_on (suc k) link i h g t link' e = let z : suc k - 1 ≡ k = omega arith in rw (z, e, follows 0 link n (omega (arith, h)) g, t)

  last_stop : (k link best : ℕ) → 0 < k → ltb 0 link && leb link n ≡ false → best ≡ walk_last P index n k link best
  unfolding walk_last
  last_stop zero link best i f = absurd (omega arith)
  last_stop (suc k) link best i f = rw f

  pub last_low : (k link best : ℕ) → 0 < k → link ≡ 0 → best ≡ walk_last P index n k link best
  last_low k link best i e = last_stop k link best i (stops_low 0 link n (omega arith))

  pub last_high : (k link best : ℕ) → 0 < k → n < link → best ≡ walk_last P index n k link best
  last_high k link best i h = last_stop k link best i (stops_high 0 link n h)

  pub last_end : (k link best : ℕ) → k ≤ 0 → 0 ≡ walk_last P index n k link best
  unfolding walk_last
  last_end zero link best h = refl
  last_end (suc k) link best h = absurd (omega arith)

  pub last_on : (k link best : ℕ) → 0 < k → (link ≡ 0 → ⊥) → link ≤ n →
      (link' best' : ℕ) → link' ≡ get_or index (n + (link - 1)) 0 → best' ≡ (P (link - 1) then link else best) →
      walk_last P index n (k - 1) link' best' ≡ walk_last P index n k link best
  unfolding walk_last
  last_on zero link best i h g link' best' e f = absurd (omega arith)
  last_on (suc k) link best i h g link' best' e f =
      let z : suc k - 1 ≡ k = omega arith in
      rw (z, e, f, follows 0 link n (omega (arith, h)) g)

  -- A turn of either walk: the side that is wanted, the links that are left, the link, and what is found.
  abbrev pub walk_of : Side → ℕ → ℕ → ℕ → ℕ
  walk_of first k link found = walk_first P index n k link
  walk_of last k link found = walk_last P index n k link found

  module _ (k link : ℕ) where
    pub turns_end : (s : Wanted) (found : Option ℕ) → k ≤ 0 → 0 ≡ walk_of (side_of s) k link (link_of found)
    turns_end First found h = walk_end k link h
    turns_end Last found h = last_end k link (link_of found) h

    module _ (i : 0 < k) where
      pub turn_low : (s : Wanted) (found : Option ℕ) → (s ≡ First → found ≡ None) → link ≡ 0 → link_of found ≡ walk_of (side_of s) k link (link_of found)
      turn_low First found o e = ap link_of (o refl) ∙ walk_low k link e
      turn_low Last found o e = last_low k link (link_of found) i e

      pub turn_high : (s : Wanted) (found : Option ℕ) → (s ≡ First → found ≡ None) → n < link → link_of found ≡ walk_of (side_of s) k link (link_of found)
      turn_high First found o h = ap link_of (o refl) ∙ walk_high k link h
      turn_high Last found o h = last_high k link (link_of found) i h

      -- the link leads to pointer p
      module _ (p : ℕ) (e : suc p ≡ link) (h : p < n) where
        z : link - 1 ≡ p
        z = omega arith

        pub turn_first : (s : Wanted) (found : ℕ) → s ≡ First → P p ≡ true → suc p ≡ walk_of (side_of s) k link found
        turn_first First found q t = e ∙ walk_hit k link i (λ y. omega arith) (omega arith) (rw z t)
        turn_first Last found q t = cc

        pub turn_last : (s : Wanted) (found : ℕ) → s ≡ Last → P p ≡ true →
            walk_of (side_of s) (k - 1) (get_or index (n + p) 0) (suc p) ≡ walk_of (side_of s) k link found
        turn_last First found q t = cc
        turn_last Last found q t = last_on k link found i (λ y. omega arith) (omega arith) _ _ (rw z refl) (rw (z, t) e)

        pub turn_on : (s : Wanted) (found : ℕ) → P p ≡ false → walk_of (side_of s) (k - 1) (get_or index (n + p) 0) found ≡ walk_of (side_of s) k link found
        turn_on First found t = walk_on k link i (λ y. omega arith) (omega arith) (rw z t) _ (rw z refl)
        turn_on Last found t = last_on k link found i (λ y. omega arith) (omega arith) _ _ (rw z refl) (rw (z, t) refl)

-- Where a walk starts.
module _ (table index : List ℕ) (over : PassedOver) (c head : ℕ) (e : head ≡ get_or index (bucket (length table) c) 0) where
  pub starts : (s : Wanted) → walk_of (hit over table c) index (length table) (side_of s) 64 head 0 ≡ walk table index (side_of s) over c
  unfolding walk
  starts First = rw e
  starts Last = rw e

-- A walk in an index that fits; a table of no cells has an index of none.
pub by_walk : (n m : ℕ) {w x : ℕ} → fits n m ≡ true → x ≡ w → x ≡ (fits n m then w else 0)
by_walk n m f e = rw f e

pub walk_none : (table index : List ℕ) (s : Wanted) (over : PassedOver) (c : ℕ) → length table ≡ 0 →
    0 ≡ (fits (length table) (length index) then walk table index (side_of s) over c else 0)
walk_none table index s over c e = split (fits (length table) (length index))
    (λ f.
    let h : length index ≤ bucket (length table) c = omega (arith, (fits_facts (length table) (length index) f).1) in
    let head : 0 ≡ get_or index (bucket (length table) c) 0 = sym (get_or-eq_default index 0 h) in
    by_walk (length table) (length index) f
    (turn_low (hit over table c) index (length table) 64 0 (omega arith) s None (λ o. refl) refl ∙ starts table index over c 0 head s))
    (λ f. rw f)

pub walk_unfit : (table index : List ℕ) (s : Wanted) (over : PassedOver) (c : ℕ) → fits (length table) (length index) ≡ false →
    0 ≡ (fits (length table) (length index) then walk table index (side_of s) over c else 0)
walk_unfit table index s over c f = rw f
