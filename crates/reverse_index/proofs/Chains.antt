-- Building downward, turn by turn. Assumes nothing.
use mathlib.Core.Path.{◌≡◌, refl, sym, ◌∙◌}
use mathlib.Core.Bool.{true, false, and-false}
use mathlib.Core.List.{List}
use Prim.Native.Nat.{ℕ, zero, suc, ◌+◌, ◌-◌, ◌≤◌, ◌<◌}
use native.Mathlib.Omega.{arith}
use native.Mathlib.Numerals.{add-one}
use lib.Dec.{eqb}
use lib.ListN.{length, get_or, set, length-set}
use lib.Seq.{get_or-set_same, get_or-set_other}
use borrow.Author.Tests.{eqb-true, eqb-false, eq-eqb, ne_eqb}
use Rattle.standard.specs.Base.{mapped}
use Rattle.standard.proofs.Tests.{split}
use Rattle.reverse_index_spec.specs.ReverseIndex.{Least, True, bucket, member}
use Rattle.reverse_index_spec.proofs.Least.{clash, least_none, least_here, least_on}
use Rattle.reverse_index_spec.proofs.Hits.{member_beyond, bucket_inside}
use Rattle.reverse_index.specs.Code.{chained}

-- One pointer more.
pub chained_un : (n p c : ℕ) (index : List ℕ) → mapped c ≡ false → set index (n + p) 0 ≡ chained n p c index
unfolding chained
chained_un n p c index m = rw m

pub chained_in : (n p c b : ℕ) (index : List ℕ) → mapped c ≡ true → b ≡ bucket n c →
    set (set index (n + p) (get_or index b 0)) b (p + 1) ≡ chained n p c index
unfolding chained
chained_in n p c b index m e = rw (m, e, add-one)

member_is : (table : List ℕ) (p : ℕ) → mapped (get_or table p 0) ≡ true → member table (bucket (length table) (get_or table p 0)) p ≡ true
unfolding member
member_is table p m = rw (m, eq-eqb (bucket (length table) (get_or table p 0)) (bucket (length table) (get_or table p 0)) refl)

member_not : (table : List ℕ) (d p : ℕ) → (bucket (length table) (get_or table p 0) ≡ d → ⊥) → member table d p ≡ false
unfolding member
member_not table d p f = rw (ne_eqb (bucket (length table) (get_or table p 0)) d f, and-false (mapped (get_or table p 0)))

member_un : (table : List ℕ) (d p : ℕ) → mapped (get_or table p 0) ≡ false → member table d p ≡ false
unfolding member
member_un table d p m = rw m

-- An index while it is built downward: the pointers from p on are in it.
pub record Chained (table : List ℕ) (p : ℕ) (index : List ℕ) : Type 0 where
  pub size : length index ≡ length table + length table
  pub heads : (b : ℕ) → b < length table → Least (member table b) p (get_or index b 0)
  pub nexts : (q : ℕ) → p ≤ q → q < length table → mapped (get_or table q 0) ≡ true →
      Least (member table (bucket (length table) (get_or table q 0))) (suc q) (get_or index (length table + q) 0)
  pub others : (q : ℕ) → p ≤ q → q < length table → mapped (get_or table q 0) ≡ false → get_or index (length table + q) 0 ≡ 0

pub chained_none : (table index : List ℕ) → length index ≡ length table + length table →
    ((i : ℕ) → i < length table → get_or index i 0 ≡ 0) → Chained table (length table) index
chained_none table index e f = record {
  size = e;
  heads = λ b h. rw (f b h) (least_none (member table b) (length table) (λ q g. member_beyond table b q g));
  nexts = λ q g h m. absurd (omega arith);
  others = λ q g h m. absurd (omega arith);
}

pub chained_all : (table index : List ℕ) (p : ℕ) → p ≤ 0 → Chained table p index → True table index
chained_all table index p h a =
    let z : p ≡ 0 = omega arith in
    let c : Chained table 0 index = rw z at a in
    record {
      size = c.size;
      heads = c.heads;
      nexts = λ q h m. c.nexts q (omega arith) h m;
      others = λ q h m. c.others q (omega arith) h m;
    }

module _ (table index : List ℕ) (p : ℕ) (h : p < length table) (a : Chained table (suc p) index) where
  abbrev n : ℕ
  n = length table

  abbrev c : ℕ
  c = get_or table p 0

  abbrev b : ℕ
  b = bucket n c

  abbrev put : List ℕ
  put = set (set index (n + p) (get_or index b 0)) b (suc p)

  in_b : b < n
  in_b = bucket_inside n c (omega arith)

  put_head : get_or put b 0 ≡ suc p
  put_head = get_or-set_same (set index (n + p) (get_or index b 0)) b (suc p) 0 (rw length-set (omega (arith, in_b, a.size)))

  put_own : get_or put (n + p) 0 ≡ get_or index b 0
  put_own =
      get_or-set_other (set index (n + p) (get_or index b 0)) b (n + p) (suc p) 0 (λ e. omega (arith, in_b)) ∙
      get_or-set_same index (n + p) (get_or index b 0) 0 (omega (arith, a.size))

  put_else : (i : ℕ) → (i ≡ b → ⊥) → (i ≡ n + p → ⊥) → get_or put i 0 ≡ get_or index i 0
  put_else i f g =
      get_or-set_other (set index (n + p) (get_or index b 0)) b i (suc p) 0 f ∙ get_or-set_other index (n + p) i (get_or index b 0) 0 g

  with_mapped : mapped c ≡ true → Chained table p put
  with_mapped m = record {
    size = simp length-set a.size;
    heads = λ d g. split (eqb d b)
        (λ t. let e = eqb-true d b t in rw (e, put_head) (least_here (member table b) p (member_is table p m)))
        (λ t. let f = eqb-false d b t in
        rw (put_else d f (λ e. omega arith))
        (least_on (member table d) p (get_or index d 0) (member_not table d p (λ e. f (sym e))) (a.heads d g)));
    nexts = λ q g i u. split (eqb q p)
        (λ t. let e = eqb-true q p t in rw (e, put_own) (a.heads b in_b))
        (λ t. let f = eqb-false q p t in
        rw (put_else (n + q) (λ e. omega (arith, in_b)) (λ e. f (omega arith))) (a.nexts q (omega (arith, f)) i u));
    others = λ q g i u. split (eqb q p)
        (λ t. let e = eqb-true q p t in clash m (rw e at u))
        (λ t. let f = eqb-false q p t in
        put_else (n + q) (λ e. omega (arith, in_b)) (λ e. f (omega arith)) ∙ a.others q (omega (arith, f)) i u);
  }

  without_mapped : mapped c ≡ false → Chained table p (set index (n + p) 0)
  without_mapped m = record {
    size = simp length-set a.size;
    heads = λ d g. rw (get_or-set_other index (n + p) d 0 0 (λ e. omega arith))
        (least_on (member table d) p (get_or index d 0) (member_un table d p m) (a.heads d g));
    nexts = λ q g i u. split (eqb q p)
        (λ t. let e = eqb-true q p t in clash (rw e at u) m)
        (λ t. let f = eqb-false q p t in
        rw (get_or-set_other index (n + p) (n + q) 0 0 (λ e. f (omega arith))) (a.nexts q (omega (arith, f)) i u));
    others = λ q g i u. split (eqb q p)
        (λ t. let e = eqb-true q p t in rw e (get_or-set_same index (n + p) 0 0 (omega (arith, a.size))))
        (λ t. let f = eqb-false q p t in
        get_or-set_other index (n + p) (n + q) 0 0 (λ e. f (omega arith)) ∙ a.others q (omega (arith, f)) i u);
  }

  pub chained_more : Chained table p (chained n p c index)
  unfolding chained
  chained_more = split (mapped c) (λ m. rw m (with_mapped m)) (λ m. rw m (without_mapped m))

pub chained_turn : (table index : List ℕ) (p : ℕ) → 0 < p → p ≤ length table → Chained table p index → (index' : List ℕ) →
    index' ≡ chained (length table) (p - 1) (get_or table (p - 1) 0) index → Chained table (p - 1) index'
chained_turn table index zero h g a index' e = absurd (omega arith)
chained_turn table index (suc p) h g a index' e =
    let z : suc p - 1 ≡ p = omega arith in
    let f = rw z at e in
    rw (z, f) (chained_more table index p (omega arith) a)
