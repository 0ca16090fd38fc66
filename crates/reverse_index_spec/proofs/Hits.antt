-- A hit is a pointer that counts, and a member of its code point's bucket; the search by hits. Assumes nothing.
use mathlib.Core.Path.{◌≡◌, refl, ap}
use mathlib.Core.Bool.{Bool, true, false, ◌&&◌, not, and-false}
use mathlib.Core.List.{List}
use mathlib.Core.Option.{Option, some, none}
use Prim.Native.Nat.{ℕ, suc, ◌/◌, ◌≤◌, ◌<◌}
use native.Mathlib.Omega.{arith}
use native.Mathlib.Nat.{mod-lt}
use lib.Dec.{ltb, eqb}
use lib.ListN.{length, get_or, get_or-eq_default}
use borrow.Author.Tests.{ltb-true, ltb-false, eqb-true, eq-eqb, not-true}
use Rattle.standard.specs.Base.{◌then◌else◌, mapped}
use Rattle.standard.specs.Indexes.{index_code_point}
use Rattle.standard.specs.Search.{PassedOver, passed, first, last, search, Counts, SearchRule}
use Rattle.standard.proofs.Search.{search_rule}
use Rattle.standard.proofs.Tests.{split, and_both}
use Rattle.reverse_index_spec.specs.ReverseIndex.{Least, bucket, member, hit}
use Rattle.reverse_index_spec.proofs.Least.{clash, Last}

-- A member of a bucket.
module _ (table : List ℕ) (b p : ℕ) where
  pub member_beyond : length table ≤ p → member table b p ≡ false
  unfolding member
  member_beyond h = rw (get_or-eq_default table 0 h)

  module _ (t : member table b p ≡ true) where
    both : (mapped (get_or table p 0) ≡ true) × (eqb (bucket (length table) (get_or table p 0)) b ≡ true)
    unfolding member
    both = and_both (mapped (get_or table p 0)) (eqb (bucket (length table) (get_or table p 0)) b) t

    pub member_mapped : mapped (get_or table p 0) ≡ true
    member_mapped = both.0

    pub member_bucket : bucket (length table) (get_or table p 0) ≡ b
    member_bucket = eqb-true (bucket (length table) (get_or table p 0)) b both.1

    pub member_inside : p < length table
    member_inside = split (ltb p (length table))
        (λ g. ltb-true p (length table) g)
        (λ g. clash t (member_beyond (ltb-false p (length table) g)))

pub bucket_inside : (n c : ℕ) → 0 < n → bucket n c < n
unfolding bucket
bucket_inside n c h = mod-lt (c / 2) h

-- A hit.
module _ (over : PassedOver) (table : List ℕ) (c p : ℕ) where
  pub hit_beyond : length table ≤ p → hit over table c p ≡ false
  unfolding hit
  hit_beyond h = rw (get_or-eq_default table 0 h, and-false (not (passed over p)))

  module _ (t : hit over table c p ≡ true) where
    parts : (passed over p ≡ false) × (mapped (get_or table p 0) ≡ true) × (get_or table p 0 ≡ c)
    unfolding hit
    parts =
        let x = get_or table p 0 in
        let u = and_both (not (passed over p)) (mapped x && eqb x c) t in
        let v = and_both (mapped x) (eqb x c) u.1 in
        (not-true (passed over p) u.0, v.0, eqb-true x c v.1)

    pub hit_inside : p < length table
    hit_inside = split (ltb p (length table))
        (λ g. ltb-true p (length table) g)
        (λ g. clash t (hit_beyond (ltb-false p (length table) g)))

    pub hit_mapped : mapped c ≡ true
    hit_mapped = rw parts.2 at parts.1

    pub hit_member : member table (bucket (length table) c) p ≡ true
    unfolding member
    hit_member = rw (parts.1, parts.2, eq-eqb (bucket (length table) c) (bucket (length table) c) refl)

    pub hit_counts : Counts over table c p
    unfolding index_code_point
    hit_counts = record { inside = hit_inside; searched = parts.0; code = rw parts.1 (ap some parts.2) }

  pub counts_hit : Counts over table c p → hit over table c p ≡ true
  unfolding hit index_code_point
  counts_hit h = rw h.searched (go (mapped (get_or table p 0)) h.code)
    where
      go : (m : Bool) → ◌≡◌ {A = Option ℕ} (m then some (get_or table p 0) else none) (some c) → m && eqb (get_or table p 0) c ≡ true
      go true e = eq-eqb (get_or table p 0) c (cc)
      go false e = let z : ◌≡◌ {A = ℕ} 0 1 = cc in absurd (omega arith)

-- The pointer of the search is the first hit, and the last.
module _ (over : PassedOver) (table : List ℕ) (c q : ℕ) where
  pub is_first : Least (hit over table c) 0 (suc q) → some q ≡ search first over table c
  is_first a = go (search first over table c) refl
    where
      rule : SearchRule first over table c
      rule = search_rule first over table c

      at_q : Counts over table c q
      at_q = hit_counts over table c q (a.leads q refl).1

      go : (o : Option ℕ) → search first over table c ≡ o → some q ≡ o
      go none e = absurd (rule.missing e q at_q)
      go (some p) e =
          let l : suc q ≤ suc p = (a.least p (omega arith) (counts_hit over table c p (rule.found p e))).1 in
          let z : q ≡ p = omega (arith, rule.nearest p q e at_q) in
          ap some z

  pub is_last : Last (hit over table c) (suc q) → some q ≡ search last over table c
  is_last a = go (search last over table c) refl
    where
      rule : SearchRule last over table c
      rule = search_rule last over table c

      at_q : Counts over table c q
      at_q = hit_counts over table c q (a.leads q refl)

      go : (o : Option ℕ) → search last over table c ≡ o → some q ≡ o
      go none e = absurd (rule.missing e q at_q)
      go (some p) e =
          let l : suc p ≤ suc q = a.most p (counts_hit over table c p (rule.found p e)) in
          let z : q ≡ p = omega (arith, rule.nearest p q e at_q) in
          ap some z
