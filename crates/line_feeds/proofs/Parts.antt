-- Line feeds counted part by part: one part more, and parts that end with the list. Assumes nothing.
use mathlib.Core.Path.{◌≡◌, refl, sym, ap, ◌∙◌}
use mathlib.Core.List.{List, [], ◌∷◌}
use Prim.Native.Nat.{ℕ, ◌+◌, ◌-◌, ◌≤◌}
use native.Mathlib.Omega.{arith}
use lib.ListN.{length, take, drop, length-take, length-drop}
use lib.Seq.{take-add, take_all, drop-drop}
use Rattle.standard.specs.Base.{line_feeds}
use Rattle.standard.proofs.LineFeeds.{line_feeds-append, line_feeds-length}
use Rattle.line_feeds.specs.Parts.{part}

-- n line feeds are among the k elements from a place on
pub record Counted (xs : List ℕ) (at k n : ℕ) : Type 0 where
  pub is : n ≡ line_feeds (part xs at k)

module _ {xs : List ℕ} {at : ℕ} where
  pub none_yet : Counted xs at 0 0
  unfolding line_feeds
  none_yet = record { is = refl }

  -- a part more, of m elements from the place p on
  pub part_more : {k n r : ℕ} (p m : ℕ) → p ≡ at + k → Counted xs at k n → r ≡ line_feeds (part xs p m) → Counted xs at (k + m) (n + r)
  part_more {k} p m q c e =
      record { is = rw (c.is, e, q, ← drop-drop k at xs) (sym (ap line_feeds (take-add k m (drop at xs)) ∙ line_feeds-append (take k (drop at xs)) _)) }

  -- the last part of all m elements
  pub last_part : {k n r : ℕ} (p m : ℕ) → p ≡ at + k → k ≤ m → Counted xs at k n → r ≡ line_feeds (part xs p (m - k)) → Counted xs at m (n + r)
  last_part {k} p m q l c e = let z : k + (m - k) ≡ m = omega arith in rw z at (part_more p (m - k) q c e)

  -- no more than elements
  pub at_most : {k n : ℕ} → Counted xs at k n → n ≤ k
  at_most {k} c = omega (arith, c.is, line_feeds-length (part xs at k), length-take k (drop at xs))

-- no element; parts that end with the list
pub none_in : (xs : List ℕ) (at n : ℕ) → n ≡ 0 → 0 ≡ line_feeds (part xs at n)
unfolding line_feeds
none_in xs at n h = rw h

pub to_end : (xs : List ℕ) (at n m : ℕ) → length xs ≤ at + n → length xs ≤ at + m → line_feeds (part xs at n) ≡ line_feeds (part xs at m)
to_end xs at n m h g = ap line_feeds (take_all n (drop at xs) (simp length-drop (omega arith)) ∙ sym (take_all m (drop at xs) (simp length-drop (omega arith))))
