-- The look-up: by a true index it is the full search; by any cells what is given counts. Assumes nothing.
use mathlib.Core.Path.{◌≡◌, refl, ap}
use mathlib.Core.Bool.{Bool, true, false, ◌&&◌, not, and-false}
use mathlib.Core.List.{List, [], ◌∷◌}
use mathlib.Core.Option.{Option, some, none}
use Prim.Native.Nat.{ℕ, zero, suc, ◌+◌, ◌-◌, ◌≤◌, ◌<◌}
use native.Mathlib.Omega.{arith}
use lib.Dec.{ltb, leb, eqb}
use lib.ListN.{length, get_or, get_or-eq_default}
use borrow.Author.Tests.{ltb-true, ltb-false, leb-true, lt-ltb, le-ltb, le-leb, lt-leb}
use Rattle.standard.specs.Base.{◌then◌else◌, within, mapped}
use Rattle.standard.specs.Search.{PassedOver, none_over, pass_over, Side, first, last, search_from, search, searching, Counts}
use Rattle.standard.proofs.Search.{search_rule}
use Rattle.standard.proofs.Tests.{split, and_both, under, above}
use Rattle.reverse_index_spec.specs.ReverseIndex.{Least, True, fits, bucket, member, hit, walk_first, walk_last, walk, or_else, look_up}
use Rattle.reverse_index_spec.proofs.Least.{Last, clash, least_none, least_here, least_skip, between, nothing}
use Rattle.reverse_index_spec.proofs.Hits.{member_beyond, member_mapped, member_bucket, member_inside, bucket_inside}
use Rattle.reverse_index_spec.proofs.Hits.{hit_member, hit_counts, is_first, is_last}

-- A link is followed where it leads into the table.
pub followed : (low link n : ℕ) → ltb low link && leb link n ≡ true → (low < link) × (link ≤ n)
followed low link n t = let b = and_both (ltb low link) (leb link n) t in (ltb-true low link b.0, leb-true link n b.1)

pub follows : (low link n : ℕ) → low < link → link ≤ n → ltb low link && leb link n ≡ true
follows low link n h g = rw (lt-ltb low link h, le-leb link n g)

pub stops_low : (low link n : ℕ) → link ≤ low → ltb low link && leb link n ≡ false
stops_low low link n h = rw (le-ltb low link h)

pub stops_high : (low link n : ℕ) → n < link → ltb low link && leb link n ≡ false
stops_high low link n h = rw (lt-leb link n h, and-false (ltb low link))

-- Any cells: the pointer that is given passes the test.
module _ (P : ℕ → Bool) (index : List ℕ) (n : ℕ) where
  walk_first-leads : (k link q : ℕ) → walk_first P index n k link ≡ suc q → P q ≡ true
  unfolding walk_first
  walk_first-leads zero link q e = absurd (omega arith)
  walk_first-leads (suc k) link q e = split (ltb 0 link && leb link n)
      (λ t. let e1 : (P (link - 1) then link else walk_first P index n k (get_or index (n + (link - 1)) 0)) ≡ suc q = rw t at e in
      split (P (link - 1))
      (λ u. let e2 : link ≡ suc q = rw u at e1 in let z : link - 1 ≡ q = omega arith in rw z at u)
      (λ u. walk_first-leads k (get_or index (n + (link - 1)) 0) q (rw u at e1)))
      (λ f. let e1 : 0 ≡ suc q = rw f at e in absurd (omega arith))

  walk_last-leads : (k link best q : ℕ) → ((r : ℕ) → best ≡ suc r → P r ≡ true) → walk_last P index n k link best ≡ suc q → P q ≡ true
  unfolding walk_last
  walk_last-leads zero link best q b e = absurd (omega arith)
  walk_last-leads (suc k) link best q b e = split (ltb 0 link && leb link n)
      (λ t. walk_last-leads k (get_or index (n + (link - 1)) 0) (P (link - 1) then link else best) q better (rw t at e))
      (λ f. b q (rw f at e))
    where
      better : (r : ℕ) → (P (link - 1) then link else best) ≡ suc r → P r ≡ true
      better r e = split (P (link - 1))
          (λ u. let e2 : link ≡ suc r = rw u at e in let z : link - 1 ≡ r = omega arith in rw z at u)
          (λ u. b r (rw u at e))

pub walk_leads : (table index : List ℕ) (side : Side) (over : PassedOver) (c q : ℕ) → walk table index side over c ≡ suc q →
    hit over table c q ≡ true
unfolding walk
walk_leads table index first over c q e = walk_first-leads (hit over table c) index (length table) 64 _ q e
walk_leads table index last over c q e = walk_last-leads (hit over table c) index (length table) 64 _ 0 q (λ r e. absurd (omega arith)) e

-- The last pointer that passes a test, of those below `low`.
record Upto (P : ℕ → Bool) (low best : ℕ) : Type 0 where
  leads : (q : ℕ) → best ≡ suc q → P q ≡ true
  most : (q : ℕ) → q < low → P q ≡ true → suc q ≤ best
  bound : best ≤ low

-- A true index: the walk gives the first hit, and the last.
module _ (table index : List ℕ) (tr : True table index) (over : PassedOver) (c : ℕ) where
  abbrev n : ℕ
  n = length table

  abbrev M : ℕ → Bool
  M = member table (bucket n c)

  abbrev P : ℕ → Bool
  P = hit over table c

  -- the link behind a member of the bucket
  next : (low link : ℕ) → low < link → M (link - 1) ≡ true → Least M link (get_or index (n + (link - 1)) 0)
  next low link h m =
      let e : suc (link - 1) ≡ link = omega arith in
      let b : bucket n (get_or table (link - 1) 0) ≡ bucket n c = member_bucket table (bucket n c) (link - 1) m in
      let a = tr.nexts (link - 1) (member_inside table (bucket n c) (link - 1) m) (member_mapped table (bucket n c) (link - 1) m) in
      rw (b, e) at a

  -- Outside the bucket nothing is hit.
  not_hit : (r : ℕ) → M r ≡ false → P r ≡ false
  not_hit r f = split (P r) (λ t. clash (hit_member over table c r t) f) (λ g. g)

  -- A true link that is not followed is 0.
  not_followed : (low link : ℕ) → Least M low link → ltb 0 link && leb link n ≡ false → link ≡ 0
  not_followed low zero a f = refl
  not_followed low (suc q) a f =
      clash (follows 0 (suc q) n (omega arith) (omega (arith, member_inside table (bucket n c) q (a.leads q refl).1))) f

  -- It rises, ..
  rises : (low link : ℕ) → Least M low link → 0 < link → low < link
  rises low link a h = let e : link ≡ suc (link - 1) = omega arith in omega (arith, (a.leads (link - 1) e).0)

  -- .. and leads to a member.
  to_member : (low link : ℕ) → Least M low link → low < link → M (link - 1) ≡ true
  to_member low link a h = let e : link ≡ suc (link - 1) = omega arith in (a.leads (link - 1) e).1

  -- Nothing is hit before the pointer that a link leads to, ..
  before : (low link r : ℕ) → Least M low link → low < link → low ≤ r → r < link - 1 → P r ≡ false
  before low link r a h g i = not_hit r (between M a r g (omega arith))

  -- .. nor before the next, where that pointer is no hit.
  passed : (low link r : ℕ) → Least M low link → low < link → P (link - 1) ≡ false → low ≤ r → r < link → P r ≡ false
  passed low link r a h f g i = split (ltb r (link - 1))
      (λ t. before low link r a h g (ltb-true r (link - 1) t))
      (λ t. let z : link - 1 ≡ r = omega (arith, ltb-false r (link - 1) t) in rw z at f)

  walk_first-true : (k low link q : ℕ) → Least M low link → walk_first P index n k link ≡ suc q → Least P low (suc q)
  unfolding walk_first
  walk_first-true zero low link q a e = absurd (omega arith)
  walk_first-true (suc k) low link q a e = split (ltb 0 link && leb link n)
      (λ t. let h = rises low link a (followed 0 link n t).0 in
      let e1 : (P (link - 1) then link else walk_first P index n k (get_or index (n + (link - 1)) 0)) ≡ suc q = rw t at e in
      split (P (link - 1))
      (λ u. let e2 : link ≡ suc q = rw u at e1 in
      let z : link - 1 ≡ q = omega arith in
      least_skip P low q (suc q) (omega arith) (λ r g i. before low link r a h g (omega arith)) (least_here P q (rw z at u)))
      (λ u. least_skip P low link (suc q) (omega arith) (λ r g i. passed low link r a h u g i)
      (walk_first-true k link (get_or index (n + (link - 1)) 0) q (next low link h (to_member low link a h)) (rw u at e1))))
      (λ f. let e1 : 0 ≡ suc q = rw f at e in absurd (omega arith))

  walk_last-true : (k low link best q : ℕ) → Least M low link → Upto P low best → walk_last P index n k link best ≡ suc q → Last P (suc q)
  unfolding walk_last
  walk_last-true zero low link best q a b e = absurd (omega arith)
  walk_last-true (suc k) low link best q a b e = split (ltb 0 link && leb link n)
      (λ t. let h = rises low link a (followed 0 link n t).0 in
      walk_last-true k link (get_or index (n + (link - 1)) 0) (P (link - 1) then link else best) q
      (next low link h (to_member low link a h)) (better h) (rw t at e))
      (λ f. let z = not_followed low link a f in
      let d : Least M low 0 = rw z at a in
      let e1 : best ≡ suc q = rw f at e in
      rw e1 at (ended d))
    where
      ended : Least M low 0 → Last P best
      ended d = record {
        leads = b.leads;
        most = λ r t. split (ltb r low)
            (λ g. b.most r (ltb-true r low g) t)
            (λ g. clash t (not_hit r (nothing M d r (ltb-false r low g))));
      }

      better : low < link → Upto P link (P (link - 1) then link else best)
      better f = split (P (link - 1))
          (λ u. rw u (record {
            leads = λ r e. let z : link - 1 ≡ r = omega arith in rw z at u;
            most = λ q g t. omega arith;
            bound = omega arith;
          }))
          (λ u. rw u (record {
            leads = b.leads;
            most = λ q g t. split (ltb q low)
                (λ i. b.most q (ltb-true q low i) t)
                (λ i. clash t (passed low link q a f u (ltb-false q low i) g));
            bound = omega (arith, b.bound);
          }))

  -- where the bucket starts; a table of no cells has none
  start : Least M 0 (get_or index (bucket n c) 0)
  start = by_length n refl
    where
      by_length : (m : ℕ) → n ≡ m → Least M 0 (get_or index (bucket n c) 0)
      by_length zero e =
          let z : length index ≤ bucket n c = omega (arith, tr.size) in
          rw (get_or-eq_default index 0 z) (least_none M 0 (λ q h. member_beyond table (bucket n c) q (omega arith)))
      by_length (suc m) e = tr.heads (bucket n c) (bucket_inside n c (omega arith))

  walk_true : (side : Side) (q : ℕ) → walk table index side over c ≡ suc q → some q ≡ search side over table c
  unfolding walk
  walk_true first q e = is_first over table c q (walk_first-true 64 0 _ q start e)
  walk_true last q e = is_last over table c q (walk_last-true 64 0 _ 0 q start none_yet e)
    where
      none_yet : Upto P 0 0
      none_yet = record { leads = λ r e. absurd (omega arith); most = λ q h t. absurd (omega arith); bound = omega arith }

-- The link that the walk gives, where the index has the right length.
abbrev pub link : List ℕ → List ℕ → Side → PassedOver → ℕ → ℕ
link table index side over c = fits (length table) (length index) then walk table index side over c else 0

-- A claim about a link that is not 0 is one about the walk.
by_walk : (A : ℕ → Type 0) (t : Bool) (w q : ℕ) → (t then w else 0) ≡ suc q → (w ≡ suc q → A q) → A q
by_walk A true w q e f = f e
by_walk A false w q e f = absurd (omega arith)

module _ (table index : List ℕ) (side : Side) (over : PassedOver) (c : ℕ) where
  -- A true index gives the pointer of the full search.
  pub look_up-true : True table index → look_up table index side over c ≡ search side over table c
  unfolding look_up
  look_up-true tr = go (link table index side over c) refl
    where
      go : (l : ℕ) → link table index side over c ≡ l → or_else l (search side over table c) ≡ search side over table c
      go zero e = refl
      go (suc q) e =
          by_walk (λ p. some p ≡ search side over table c) (fits (length table) (length index)) (walk table index side over c) q e
          (walk_true table index tr over c side q)

  -- By any cells a pointer that is given counts.
  pub look_up-sound : (p : ℕ) → look_up table index side over c ≡ some p → Counts over table c p
  unfolding look_up
  look_up-sound p e = go (link table index side over c) refl e
    where
      go : (l : ℕ) → link table index side over c ≡ l → or_else l (search side over table c) ≡ some p → Counts over table c p
      go zero h g = (search_rule side over table c).found p g
      go (suc q) h g = let z : q ≡ p = cc in rw z at (hit_counts over table c q
          (by_walk (λ r. hit over table c r ≡ true) (fits (length table) (length index)) (walk table index side over c) q h
          (walk_leads table index side over c q)))

  -- Nothing is found exactly where the full search finds nothing.
  pub look_up-none : look_up table index side over c ≡ none → search side over table c ≡ none
  unfolding look_up
  look_up-none e = go (link table index side over c) e
    where
      go : (l : ℕ) → or_else l (search side over table c) ≡ none → search side over table c ≡ none
      go zero g = g
      go (suc q) g = let z : ◌≡◌ {A = ℕ} 0 1 = cc in absurd (omega arith)

  pub none_looked_up : search side over table c ≡ none → look_up table index side over c ≡ none
  none_looked_up e = go (look_up table index side over c) refl
    where
      go : (o : Option ℕ) → look_up table index side over c ≡ o → o ≡ none
      go none h = refl
      go (some p) h = absurd ((search_rule side over table c).missing e p (look_up-sound p h))

-- With no cells it is the full search: no table but the empty one has an index of none, and there no link is followed.
pub no_cells : (table : List ℕ) (side : Side) (over : PassedOver) (c : ℕ) → look_up table [] side over c ≡ search side over table c
unfolding look_up walk walk_first walk_last
no_cells table side over c = ap (λ (l : ℕ). or_else l (search side over table c)) (go (fits (length table) 0) side)
  where
    go : (t : Bool) (s : Side) → (t then walk table [] s over c else 0) ≡ 0
    go true first = refl
    go true last = refl
    go false s = refl

pub no_index : (table : List ℕ) → look_up table [] ≡ searching table
no_index table = λ i side over c. no_cells table side over c i

-- From 1 to 0 no pointer is passed over.
none_within : (p : ℕ) → within 1 p 0 ≡ false
none_within p = split (ltb p 1) (λ t. under 1 p 0 (ltb-true p 1 t)) (λ t. above 1 p 0 (omega (arith, ltb-false p 1 t)))

search_none_passed : (side : Side) (p : ℕ) (table : List ℕ) (c : ℕ) →
    search_from side (pass_over 1 0) p table c ≡ search_from side none_over p table c
unfolding search_from
search_none_passed side p [] c = refl
search_none_passed side p (x ∷ table) c = rw (none_within p, search_none_passed side (suc p) table c)

hit_none_passed : (table : List ℕ) (c : ℕ) → hit (pass_over 1 0) table c ≡ hit none_over table c
unfolding hit
hit_none_passed table c = λ i p. not (none_within p i) && (mapped (get_or table p 0) && eqb (get_or table p 0) c)

pub none_passed : (table index : List ℕ) (side : Side) (c : ℕ) → look_up table index side (pass_over 1 0) c ≡ look_up table index side none_over c
unfolding look_up walk
none_passed table index first c = rw (hit_none_passed table c, search_none_passed first 0 table c)
none_passed table index last c = rw (hit_none_passed table c, search_none_passed last 0 table c)
