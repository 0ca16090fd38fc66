-- An entry put into a true index gives the true index of the table with that cell. Assumes nothing.
use mathlib.Core.Path.{◌≡◌, refl, sym, ap, ◌∙◌}
use mathlib.Core.Bool.{Bool, true, false, ◌&&◌, and-false}
use mathlib.Core.List.{List}
use Prim.Native.Nat.{ℕ, zero, suc, ◌+◌, ◌-◌, ◌≤◌, ◌<◌}
use native.Mathlib.Omega.{arith}
use lib.Dec.{ltb, leb, eqb}
use lib.ListN.{length, get_or, set, length-set}
use lib.Seq.{get_or-set_same, get_or-set_other}
use borrow.Author.Tests.{ltb-true, ltb-false, eqb-true, eqb-false, eq-eqb, ne_eqb}
use Rattle.standard.specs.Base.{mapped}
use Rattle.standard.proofs.Tests.{split}
use Rattle.reverse_index_spec.specs.ReverseIndex.{Least, True, bucket, member, place, linked, insert}
use Rattle.reverse_index_spec.proofs.Least.{clash, least_here, least_skip}
use Rattle.reverse_index_spec.proofs.LookUp.{followed, follows}
use Rattle.reverse_index_spec.proofs.Hits.{bucket_inside, member_mapped, member_bucket, member_inside}

-- Where a link of a bucket stands: at its head, or behind a pointer of it; what it tells is true from `from` on.
pub data Stands (table : List ℕ) (b at from : ℕ) : Type 0 where
  at_head : at ≡ b → from ≡ 0 → Stands table b at from
  behind : (q : ℕ) → at ≡ length table + q → from ≡ suc q → member table b q ≡ true → Stands table b at from

module _ (table index : List ℕ) (tr : True table index) (b : ℕ) (inside : b < length table) where
  abbrev n : ℕ
  n = length table

  abbrev M : ℕ → Bool
  M = member table b

  -- The link that stands there.
  link_of : (at from : ℕ) → Stands table b at from → Least M from (get_or index at 0)
  link_of at from (at_head e f) = rw (e, f) (tr.heads b inside)
  link_of at from (behind q e f m) =
      let h : bucket n (get_or table q 0) ≡ b = member_bucket table b q m in
      rw (e, f) (rw h at (tr.nexts q (member_inside table b q m) (member_mapped table b q m)))

  -- The place is one of the bucket's, in front of p with nothing of the bucket between, and its link tells what comes from p on.
  pub record Placed (p at : ℕ) : Type 0 where
    pub from : ℕ
    pub stands : Stands table b at from
    pub below : from ≤ p
    pub links : Least M p (get_or index at 0)
    pub free : (r : ℕ) → from ≤ r → r < p → M r ≡ false

  pub placed : (p k low at : ℕ) → p ≤ low + k → low ≤ p → Stands table b at low → Placed p (place index n p k low at)
  unfolding place
  placed p zero low at h l st = let e : low ≡ p = omega arith in record {
    from = low;
    stands = st;
    below = l;
    links = rw e at (link_of at low st);
    free = λ r g i. absurd (omega arith);
  }
  placed p (suc k) low at h l st = split (ltb low (get_or index at 0) && leb (get_or index at 0) p)
      (λ t. let f = followed low (get_or index at 0) p t in
      rw t (placed p k (get_or index at 0) (n + (get_or index at 0 - 1)) (omega (arith, f.0)) f.1
      (behind (get_or index at 0 - 1) refl (omega (arith, f.0)) (a.leads (get_or index at 0 - 1) (omega (arith, f.0))).1)))
      (λ t. rw t (record {
        from = low;
        stands = st;
        below = l;
        links = record {
          leads = λ r e. let g = a.leads r e in (
            split (ltb p (get_or index at 0))
                (λ u. omega (arith, ltb-true p (get_or index at 0) u))
                (λ u. clash (high r g.0 e (ltb-false p (get_or index at 0) u)) t),
            g.1,
          );
          least = λ r g u. a.least r (omega arith) u;
        };
        free = λ r g i. split (M r) (λ u. absurd (stuck r g i u t)) (λ u. u);
      }))
    where
      a : Least M low (get_or index at 0)
      a = link_of at low st

      high : (r : ℕ) → low ≤ r → get_or index at 0 ≡ suc r → get_or index at 0 ≤ p → ltb low (get_or index at 0) && leb (get_or index at 0) p ≡ true
      high r g e i = follows low (get_or index at 0) p (omega arith) i

      stuck : (r : ℕ) → low ≤ r → r < p → M r ≡ true → ltb low (get_or index at 0) && leb (get_or index at 0) p ≡ false → ⊥
      stuck r g i u t = by_link (get_or index at 0) refl
        where
          w : (0 < get_or index at 0) × (get_or index at 0 ≤ suc r)
          w = a.least r g u

          by_link : (v : ℕ) → get_or index at 0 ≡ v → ⊥
          by_link zero e = omega (arith, w)
          by_link (suc q) e = clash (high q (a.leads q e).0 e (omega (arith, w))) t

-- Tests that agree from a place on.
least_same : (P Q : ℕ → Bool) (p l : ℕ) → ((q : ℕ) → p ≤ q → P q ≡ Q q) → Least P p l → Least Q p l
least_same P Q p l s a = record {
  leads = λ q e. let g = a.leads q e in (g.0, sym (s q g.0) ∙ g.1);
  least = λ q h t. a.least q h (s q h ∙ t);
}

-- A place that is no member is passed.
least_past : (P : ℕ → Bool) (p l : ℕ) → P p ≡ false → Least P p l → Least P (suc p) l
least_past P p l f a = record {
  leads = λ q e. let g = a.leads q e in (
    split (eqb p q)
        (λ t. let z = eqb-true p q t in clash g.1 (rw z at f))
        (λ t. omega (arith, g.0, eqb-false p q t)),
    g.1,
  );
  least = λ q h t. a.least q (omega arith) t;
}

module _ (table index : List ℕ) (tr : True table index) (p c : ℕ)
    (hp : p < length table) (z : get_or table p 0 ≡ 0) (mc : mapped c ≡ true) where
  abbrev len : ℕ
  len = length table

  abbrev b : ℕ
  b = bucket len c

  in_b : b < len
  in_b = bucket_inside len c (omega arith)

  abbrev table' : List ℕ
  table' = set table p c

  -- The members after the entry.
  other : (d q : ℕ) → (q ≡ p → ⊥) → member table d q ≡ member table' d q
  unfolding member
  other d q f = rw (get_or-set_other table p q c 0 f, length-set table p c)

  here : member table' b p ≡ true
  unfolding member
  here = rw (get_or-set_same table p c 0 hp, length-set table p c, mc, eq-eqb b b refl)

  old_here : (d : ℕ) → member table d p ≡ false
  unfolding member
  old_here d = rw z

  elsewhere : (d : ℕ) → (b ≡ d → ⊥) → member table' d p ≡ false
  unfolding member
  elsewhere d f = rw (get_or-set_same table p c 0 hp, length-set table p c, ne_eqb b d f, and-false (mapped c))

  -- A link of another bucket.
  apart : (d x l : ℕ) → (b ≡ d → ⊥) → Least (member table d) x l → Least (member table' d) x l
  apart d x l f a = least_same (member table d) (member table' d) x l
      (λ q h. split (eqb q p) (λ t. let e = eqb-true q p t in rw e (old_here d ∙ sym (elsewhere d f))) (λ t. other d q (eqb-false q p t))) a

  -- A link behind p.
  later : (x l : ℕ) → p < x → Least (member table b) x l → Least (member table' b) x l
  later x l h a = least_same (member table b) (member table' b) x l (λ q g. other b q (λ e. omega arith)) a

  -- A link that now leads to p.
  to_here : (x : ℕ) → x ≤ p → ((r : ℕ) → x ≤ r → r < p → member table b r ≡ false) → Least (member table' b) x (suc p)
  to_here x h f =
      least_skip (member table' b) x p (suc p) h
      (λ r g i. sym (other b r (λ e. omega arith)) ∙ f r g i)
      (least_here (member table' b) p here)

  -- A link with a member before p.
  earlier : (x l r : ℕ) → x ≤ r → r < p → member table b r ≡ true → Least (member table b) x l → Least (member table' b) x l
  earlier x l r h g t a = record {
    leads = λ q e. let w = a.leads q e in (w.0, sym (other b q (λ i. clash w.1 (rw i (old_here b)))) ∙ w.1);
    least = λ q i u. split (eqb q p)
        (λ v. let e = eqb-true q p v in let w = a.least r h t in (w.0, omega (arith, w.1)))
        (λ v. a.least q i (other b q (eqb-false q p v) ∙ u));
  }

  -- The place of the new link.
  abbrev at : ℕ
  at = place index len p p 0 b

  found_place : Placed table index tr b in_b p at
  found_place = placed table index tr b in_b p p 0 b (omega arith) (omega arith) (at_head refl refl)

  -- It is a head, or a link behind a pointer below p.
  not_own : (from : ℕ) → Stands table b at from → from ≤ p → len + p ≡ at → ⊥
  not_own from (at_head e f) h g = omega (arith, in_b)
  not_own from (behind q e f m) h g = omega arith

  in_size : (from : ℕ) → Stands table b at from → from ≤ p → at < length index
  in_size from (at_head e f) h = omega (arith, in_b, tr.size)
  in_size from (behind q e f m) h = omega (arith, tr.size)

  -- The cells after the entry.
  new : List ℕ
  new = insert len index p c

  cell_at : get_or new at 0 ≡ suc p
  unfolding new insert linked
  cell_at =
      get_or-set_same (set index (len + p) (get_or index at 0)) at (suc p) 0
      (rw length-set (in_size found_place.from found_place.stands found_place.below))

  cell_own : get_or new (len + p) 0 ≡ get_or index at 0
  unfolding new insert linked
  cell_own =
      get_or-set_other (set index (len + p) (get_or index at 0)) at (len + p) (suc p) 0
      (not_own found_place.from found_place.stands found_place.below)
      ∙ get_or-set_same index (len + p) (get_or index at 0) 0 (omega (arith, tr.size))

  cell_else : (i : ℕ) → (i ≡ at → ⊥) → (i ≡ len + p → ⊥) → get_or new i 0 ≡ get_or index i 0
  unfolding new insert linked
  cell_else i f g =
      get_or-set_other (set index (len + p) (get_or index at 0)) at i (suc p) 0 f
      ∙ get_or-set_other index (len + p) i (get_or index at 0) 0 g

  new_size : length new ≡ len + len
  unfolding new insert linked
  new_size = simp length-set tr.size

  -- The head of each bucket.
  new_head : (d : ℕ) → d < len → Least (member table' d) 0 (get_or new d 0)
  new_head d h = split (eqb b d)
      (λ t. let e = eqb-true b d t in rw e at (own found_place.from found_place.stands found_place.below found_place.free))
      (λ t. rw (cell_else d (not_at t found_place.from found_place.stands) (λ e. omega arith))
      (apart d 0 (get_or index d 0) (eqb-false b d t) (tr.heads d h)))
    where
      not_at : eqb b d ≡ false → (from : ℕ) → Stands table b at from → d ≡ at → ⊥
      not_at t from (at_head e f) g = eqb-false b d t (sym (g ∙ e))
      not_at t from (behind q e f m) g = omega arith

      own : (from : ℕ) → Stands table b at from → from ≤ p → ((r : ℕ) → from ≤ r → r < p → member table b r ≡ false) →
          Least (member table' b) 0 (get_or new b 0)
      own from (at_head e f) l g =
          let v : get_or new b 0 ≡ suc p = ap (λ (i : ℕ). get_or new i 0) (sym e) ∙ cell_at in
          rw v (to_here 0 (omega arith) (λ r i j. g r (omega arith) j))
      own from (behind q e f m) l g =
          rw (cell_else b (λ i. omega (arith, in_b)) (λ i. omega (arith, in_b)))
          (earlier 0 (get_or index b 0) q (omega arith) (omega arith) m (tr.heads b in_b))

  -- The link behind each pointer: p's own, ..
  new_own : Least (member table' b) (suc p) (get_or new (len + p) 0)
  new_own =
      rw cell_own (later (suc p) (get_or index at 0) (omega arith)
      (least_past (member table b) p (get_or index at 0) (old_here b) found_place.links))

  -- .. one of p's bucket, ..
  new_same : (r : ℕ) → member table b r ≡ true → (r ≡ p → ⊥) →
      (from : ℕ) → Stands table b at from → from ≤ p → ((q : ℕ) → from ≤ q → q < p → member table b q ≡ false) →
      Least (member table b) (suc r) (get_or index (len + r) 0) → Least (member table' b) (suc r) (get_or new (len + r) 0)
  new_same r m f from st l g a = split (ltb p r)
      (λ t. let h = ltb-true p r t in
      rw (cell_else (len + r) (beyond_at st h) (λ e. f (omega arith))) (later (suc r) (get_or index (len + r) 0) (omega arith) a))
      (λ t. let h = ltb-false p r t in before st (omega (arith, f)))
    where
      beyond_at : Stands table b at from → p < r → len + r ≡ at → ⊥
      beyond_at (at_head e i) h j = omega (arith, in_b)
      beyond_at (behind q e i k) h j = omega arith

      before : Stands table b at from → r < p → Least (member table' b) (suc r) (get_or new (len + r) 0)
      before (at_head e i) h = clash m (g r (omega arith) h)
      before (behind q e i k) h = split (eqb r q)
          (λ t. let j = eqb-true r q t in
          let w : len + r ≡ at = omega arith in
          let v : get_or new (len + r) 0 ≡ suc p = ap (λ (x : ℕ). get_or new x 0) w ∙ cell_at in
          rw v (to_here (suc r) (omega arith) (λ x y u. g x (omega arith) u)))
          (λ t. let j = eqb-false r q t in split (ltb r q)
          (λ u. let v = ltb-true r q u in
          rw (cell_else (len + r) (λ w. j (omega arith)) (λ w. f (omega arith)))
          (earlier (suc r) (get_or index (len + r) 0) q (omega arith) (omega arith) k a))
          (λ u. clash m (g r (omega (arith, ltb-false r q u, j)) h)))

  in_bucket : (r : ℕ) → mapped (get_or table r 0) ≡ true → bucket len (get_or table r 0) ≡ b → member table b r ≡ true
  unfolding member
  in_bucket r m e = rw (m, eq-eqb (bucket len (get_or table r 0)) b e)

  -- .. and any other.
  new_next : (r : ℕ) → r < len → mapped (get_or table' r 0) ≡ true →
      Least (member table' (bucket len (get_or table' r 0))) (suc r) (get_or new (len + r) 0)
  new_next r h m = split (eqb r p)
      (λ t. let e = eqb-true r p t in rw (e, get_or-set_same table p c 0 hp) new_own)
      (λ t. rest (eqb-false r p t))
    where
      rest : (r ≡ p → ⊥) → Least (member table' (bucket len (get_or table' r 0))) (suc r) (get_or new (len + r) 0)
      rest f = rw v (split (eqb b (bucket len (get_or table r 0)))
          (λ t. let e = eqb-true b (bucket len (get_or table r 0)) t in
          rw (sym e) (new_same r (in_bucket r old (sym e)) f
          found_place.from found_place.stands found_place.below found_place.free (rw (sym e) at a)))
          (λ t. let g = eqb-false b (bucket len (get_or table r 0)) t in
          rw (cell_else (len + r) (not_at g found_place.from found_place.stands) (λ e. f (omega arith)))
          (apart (bucket len (get_or table r 0)) (suc r) (get_or index (len + r) 0) g a)))
        where
          v : get_or table' r 0 ≡ get_or table r 0
          v = get_or-set_other table p r c 0 f

          old : mapped (get_or table r 0) ≡ true
          old = rw v at m

          a : Least (member table (bucket len (get_or table r 0))) (suc r) (get_or index (len + r) 0)
          a = tr.nexts r h old

          not_at : (b ≡ bucket len (get_or table r 0) → ⊥) → (from : ℕ) → Stands table b at from → len + r ≡ at → ⊥
          not_at g from (at_head e i) j = omega (arith, in_b)
          not_at g from (behind q e i k) j = let w : q ≡ r = omega arith in g (sym (rw w at (member_bucket table b q k)))

  new_other : (r : ℕ) → r < len → mapped (get_or table' r 0) ≡ false → get_or new (len + r) 0 ≡ 0
  new_other r h m = cell_else (len + r) (not_at found_place.from found_place.stands) (λ e. not_p (omega arith)) ∙ tr.others r h old
    where
      not_p : r ≡ p → ⊥
      not_p e = clash mc (sym (ap mapped (get_or-set_same table p c 0 hp)) ∙ ap (λ (q : ℕ). mapped (get_or table' q 0)) (sym e) ∙ m)

      old : mapped (get_or table r 0) ≡ false
      old = rw (get_or-set_other table p r c 0 not_p) at m

      not_at : (from : ℕ) → Stands table b at from → len + r ≡ at → ⊥
      not_at from (at_head e i) j = omega (arith, in_b)
      not_at from (behind q e i k) j = let w : q ≡ r = omega arith in clash (rw w at (member_mapped table b q k)) old

  pub insert_true : True table' (insert len index p c)
  unfolding new
  insert_true = record {
    size = rw length-set new_size;
    heads = λ d h. new_head d (rw length-set at h);
    nexts = λ r h m. rw length-set (new_next r (rw length-set at h) m);
    others = λ r h m. rw length-set (new_other r (rw length-set at h) m);
  }
