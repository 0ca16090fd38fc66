-- A code point searched for in a stretch of a table, and an entry put into a table. Assumes nothing.
use mathlib.Core.Path.{◌≡◌, refl, sym, ap, ◌∙◌}
use mathlib.Core.Bool.{Bool, true, false, not, ◌&&◌, and-false}
use mathlib.Core.List.{List, [], ◌∷◌, ◌++◌}
use mathlib.Core.Option.{Option, some, none}
use Prim.Native.Nat.{ℕ, zero, suc, ◌+◌, ◌-◌, ◌≤◌, ◌<◌, min}
use native.Mathlib.Numerals.{add-one}
use native.Mathlib.Omega.{arith}
use Rattle.std.specs.Prelude.{Option as Maybe, Some, None, MatchOption, option_map, position}
use Rattle.std.specs.List.{list_any, position_or_len}
use lib.Dec.{ltb, leb, eqb}
use lib.ListN.{length, get_or, take, drop, length-take, length-drop, drop_of_length-le}
use lib.Seq.{slice, take_all, take-add, take-length, take-nil, drop-nil, drop-drop}
use Rattle.std.proofs.lemmas.List.{take_at, drop_at, drop-take}
use Rattle.std.proofs.lemmas.List.Folds.{list_any-append}
use borrow.Author.Tests.{ltb-true, ltb-false, lt-ltb, le-ltb, leb-true, leb-false, eqb-true, eqb-false, not-true}
use Rattle.standard.specs.Base.{◌then◌else◌, within, mapped}
use Rattle.standard.specs.Indexes.{index_code_point}
use Rattle.standard.specs.Search.{pass_over, first, last, either, search_from, search, pointer_from, Counts}
use Rattle.standard.proofs.Search.{search_rule}
use Rattle.standard.proofs.Tests.{split, and_both, or_none_lem, under, above, in_range}
use Rattle.index_spec.specs.IndexCall.{Outcome}
use Rattle.index.specs.IndexCode.{pointer_of}

-- The first place that passes a test, past a front that has none.
module _ (p : ℕ → Bool) where
  past_front : (n : ℕ) (xs : List ℕ) → n ≤ length xs → list_any p (take n xs) ≡ false → position_or_len p xs ≡ n + position_or_len p (drop n xs)
  past_front zero xs h e = omega arith
  past_front (suc n) [] h e = absurd (omega arith)
  past_front (suc n) (x ∷ xs) h e =
      let f = or_none_lem (p x) (list_any p (take n xs)) e in
      let g : p x ≡ false = f.0 in
      rw g (omega (arith, past_front n xs (omega arith) f.1))

  pub position_behind : (n : ℕ) (xs : List ℕ) → n ≤ length xs → list_any p (take n xs) ≡ false →
      option_map (λ (i : ℕ). n + i) (position p (take (length xs - n) (drop n xs))) ≡ position p xs
  position_behind n xs h e =
      let ys = drop n xs in
      let a = position_or_len p ys in
      let f = past_front n xs h e in
      let l : length ys ≡ length xs - n = length-drop n xs in
      rw (take_all (length xs - n) ys (omega arith)) (split (ltb a (length ys))
      (λ t. rw (t, f, lt-ltb (n + a) (length xs) (omega (arith, ltb-true a (length ys) t))))
      (λ t. rw (t, f, le-ltb (n + a) (length xs) (omega (arith, ltb-false a (length ys) t)))))

  -- a block more
  pub passed_block : (cells block behind : List ℕ) (n k : ℕ) → drop n cells ≡ block ++ behind → length block ≡ k →
      list_any p (take n cells) ≡ false → list_any p block ≡ false → (behind ≡ drop (n + k) cells) × (list_any p (take (n + k) cells) ≡ false)
  passed_block cells block behind n k q e f g = (
    sym (drop_at block behind k e) ∙ ap (λ (l : List ℕ). drop k l) (sym q) ∙ drop-drop k n cells,
    rw (take-add n k cells, q, take_at block behind k e, list_any-append p (take n cells) block, f, g),
  )

  position-cons : (x : ℕ) (xs : List ℕ) → position p (x ∷ xs) ≡ (p x then Some 0 else option_map suc (position p xs))
  position-cons x xs =
      let a = position_or_len p xs in
      let n = length xs in
      split (p x)
      (λ t. rw (t, lt-ltb 0 (length (x ∷ xs)) (omega arith)))
      (λ t. split (ltb a n)
      (λ u. rw (t, u, lt-ltb (1 + a) (length (x ∷ xs)) (omega (arith, ltb-true a n u))) (ap Some (omega arith)))
      (λ u. rw (t, u, le-ltb (1 + a) (length (x ∷ xs)) (omega (arith, ltb-false a n u)))))

-- A code point that counts as mapped: the place of its first cell is its pointer.
module _ (c : ℕ) (m : mapped c ≡ true) where
  onward : (start : ℕ) (o : Maybe ℕ) → pointer_of (option_map (λ (i : ℕ). start + i) (option_map suc o)) ≡ pointer_of (option_map (λ (i : ℕ). suc start + i) o)
  onward start None = refl
  onward start (Some i) = ap some (omega arith)

  pub pointer_at : (start : ℕ) (xs : List ℕ) → pointer_of (option_map (λ (i : ℕ). start + i) (position (λ x. eqb x c) xs)) ≡ pointer_from start xs c
  unfolding search_from
  pointer_at start [] = refl
  pointer_at start (x ∷ xs) = split (eqb x c)
      (λ t. let e = eqb-true x c t in let z : start + 0 ≡ start = omega arith in rw (position-cons (λ x. eqb x c) x xs, t, e, m, z))
      (λ t. rw (position-cons (λ x. eqb x c) x xs, t, and-false (mapped x)) (onward start (position (λ x. eqb x c) xs) ∙ pointer_at (suc start) xs))

-- A stretch is passed over: what stands below it is searched, and then what stands behind it. `behind` begins at p where p is past it.
module _ (low high c : ℕ) where
  behind : ℕ → List ℕ → Option ℕ
  behind p xs = ltb high p then pointer_from p xs c else pointer_from (suc high) (drop (suc high - p) xs) c

  within_stretch : (p x : ℕ) (xs : List ℕ) → p ≤ high → behind p (x ∷ xs) ≡ behind (suc p) xs
  unfolding behind
  within_stretch p x xs h = let z : suc high - p ≡ suc (high - p) = omega arith in split (ltb high (suc p))
      (λ t. let q : high ≡ p = omega (arith, ltb-true high (suc p) t) in let o : p - p ≡ 0 = omega arith in
      rw (z, t, le-ltb high p h, q, o))
      (λ t. let o : suc high - suc p ≡ high - p = omega arith in rw (z, o, t, le-ltb high p h))

  past_stretch : (p : ℕ) (xs : List ℕ) → high < p → behind p xs ≡ pointer_from p xs c
  unfolding behind
  past_stretch p xs h = rw (lt-ltb high p h)

  no_hit : (p x : ℕ) (xs : List ℕ) → mapped x && eqb x c ≡ false → behind p (x ∷ xs) ≡ behind (suc p) xs
  unfolding search_from
  no_hit p x xs n = split (ltb high p)
      (λ t. let h = ltb-true high p t in past_stretch p (x ∷ xs) h ∙ rw n (sym (past_stretch (suc p) xs (omega arith))))
      (λ t. within_stretch p x xs (ltb-false high p t))

  behind_nil : (p : ℕ) → behind p [] ≡ none
  unfolding behind search_from
  behind_nil p = rw (drop-nil (suc high - p)) (both (ltb high p))
    where
      both : (b : Bool) → ◌≡◌ {A = Option ℕ} (b then none else none) none
      both true = refl
      both false = refl

  outside_from : (p : ℕ) (xs : List ℕ) → search_from first (pass_over low high) p xs c ≡ either first (pointer_from p (take (low - p) xs) c) (behind p xs)
  unfolding search_from
  outside_from p [] = rw (take-nil (low - p), behind_nil p)
  outside_from p (x ∷ xs) = split (ltb p low)
      (λ t. let h = ltb-true p low t in let z : low - p ≡ suc (low - suc p) = omega arith in
      rw (z, under low p high h) (split (mapped x && eqb x c) (λ m. rw m) (λ m. rw (m, no_hit p x xs m) (outside_from (suc p) xs))))
      (λ t. let h = ltb-false p low t in let z : low - p ≡ 0 = omega arith in let y : low - suc p ≡ 0 = omega arith in
      split (leb p high)
      (λ u. rw (z, in_range low p high h (leb-true p high u), within_stretch p x xs (leb-true p high u)) (rw y at (outside_from (suc p) xs)))
      (λ u. let g = leb-false p high u in
      rw (z, above low p high g, past_stretch p (x ∷ xs) g) (ap (either first (mapped x && eqb x c then some p else none))
      ((rw y at (outside_from (suc p) xs)) ∙ past_stretch (suc p) xs (omega arith)))))

  -- the two searches of a table
  pub outside : (table : List ℕ) →
      either first (pointer_from 0 (slice 0 low table) c) (pointer_from (high + 1) (slice (high + 1) (length table) table) c) ≡ search first (pass_over low high) table c
  unfolding behind
  outside table =
      let z : low - 0 ≡ low = omega arith in let y : suc high - 0 ≡ suc high = omega arith in
      sym (rw (add-one, take-length table) (rw (z, y, le-ltb high 0 (omega arith)) at (outside_from 0 table)))

-- what stands below the stretch is found first
pub either_first : (o r : Maybe ℕ) (behind : Option ℕ) → MatchOption o (pointer_of r ≡ behind) (λ p. r ≡ Some p) →
    pointer_of r ≡ either first (pointer_of o) behind
either_first None r behind h = h
either_first (Some p) r behind h = ap pointer_of h

-- A code point that counts as unmapped stands nowhere.
pub unmapped_missing : (c : ℕ) → mapped c ≡ false → (p : ℕ) (index : List ℕ) → none ≡ pointer_from p index c
unfolding search_from
unmapped_missing c m p [] = refl
unmapped_missing c m p (x ∷ index) = rw not_here (unmapped_missing c m (suc p) index)
  where
    not_here : mapped x && eqb x c ≡ false
    not_here = split (eqb x c) (λ e. rw (eqb-true x c e, m)) (λ e. rw (e, and-false (mapped x)))

-- A stretch of a table, that ends with the table at the latest.
module _ (table : List ℕ) (c start end : ℕ) where
  pub stretch_none : min end (length table) < start → none ≡ pointer_from start (slice start end table) c
  unfolding search_from
  stretch_none h =
      let e : slice start end table ≡ [] = drop_of_length-le (take end table) {i = start} (rw length-take (omega arith)) in
      rw e refl

  clipped : take (min end (length table)) table ≡ take end table
  clipped = split (leb end (length table))
      (λ h. let e : min end (length table) ≡ end = omega (arith, leb-true end (length table) h) in rw e)
      (λ h.
      let g : length table < end = leb-false end (length table) h in
      let e : min end (length table) ≡ length table = omega arith in
      rw (e, take-length table, take_all end table (omega arith)))

  pub stretch_found : mapped c ≡ true → (n : ℕ) → n ≡ min end (length table) → start ≤ n → (stretch : List ℕ) →
      stretch ≡ take (n - start) (drop start table) → (o : Maybe ℕ) → o ≡ position (λ x. eqb x c) stretch →
      pointer_of (option_map (λ (i : ℕ). start + i) o) ≡ pointer_from start (slice start end table) c
  stretch_found m n k h stretch e o q =
      let z : start + (n - start) ≡ n = omega arith in
      let s : slice start end table ≡ stretch = ap (λ (l : List ℕ). drop start l) (sym clipped ∙ ap (λ (i : ℕ). take i table) (sym k)) ∙ (rw z at (drop-take start (n - start) table)) ∙ sym e in
      rw (q, s) (pointer_at c m start stretch)

-- What a call leaves, part by part.
pub told : {o w : Outcome} → o ≡ w → (w.answer ≡ o.answer) × (w.table ≡ o.table)
told e = (ap (λ (o : Outcome). o.answer) (sym e), ap (λ (o : Outcome). o.table) (sym e))

-- The last pointer, by the law of the search: what a cell that is hit says, and what is known once the pointers from p on are tried.
module _ (low high c : ℕ) (table : List ℕ) where
  abbrev hit : ℕ → Bool
  hit p = not (within low p high) && (mapped (get_or table p 0) && eqb (get_or table p 0) c)

  pub NoneFrom : ℕ → Type 0
  NoneFrom p = (q : ℕ) → p ≤ q → Counts (pass_over low high) table c q → ⊥

  counts : (p : ℕ) → p < length table → hit p ≡ true → Counts (pass_over low high) table c p
  unfolding index_code_point
  counts p l h =
      let u = and_both (not (within low p high)) (mapped (get_or table p 0) && eqb (get_or table p 0) c) h in
      let v = and_both (mapped (get_or table p 0)) (eqb (get_or table p 0) c) u.1 in
      record {
        inside = l;
        searched = not-true (within low p high) u.0;
        code = rw v.0 (ap some (eqb-true (get_or table p 0) c v.1));
      }

  counts_not : (p : ℕ) → hit p ≡ false → Counts (pass_over low high) table c p → ⊥
  unfolding index_code_point
  counts_not p h k = go (mapped (get_or table p 0)) (rw k.searched at h) k.code
    where
      go : (m : Bool) → m && eqb (get_or table p 0) c ≡ false → ◌≡◌ {A = Option ℕ} (m then some (get_or table p 0) else none) (some c) → ⊥
      go true f e = eqb-false (get_or table p 0) c f cc
      go false f e = let z : ◌≡◌ {A = ℕ} 0 1 = cc in omega arith

  pub last_start : NoneFrom (length table)
  unfolding NoneFrom
  last_start q l k = omega (arith, k.inside)

  pub last_on : (p : ℕ) → 0 < p → NoneFrom p → hit (p - 1) ≡ false → NoneFrom (p - 1)
  unfolding NoneFrom
  last_on p h n f q l k = split (eqb q (p - 1))
      (λ z. counts_not (p - 1) f (rw (eqb-true q (p - 1) z) at k))
      (λ z. n q (omega (arith, eqb-false q (p - 1) z)) k)

  pub last_found : (p : ℕ) → 0 < p → p ≤ length table → NoneFrom p → hit (p - 1) ≡ true →
      some (p - 1) ≡ search last (pass_over low high) table c
  unfolding NoneFrom
  last_found p h l n t = go (search last (pass_over low high) table c) refl
    where
      k : Counts (pass_over low high) table c (p - 1)
      k = counts (p - 1) (omega arith) t

      go : (o : Option ℕ) → search last (pass_over low high) table c ≡ o → some (p - 1) ≡ o
      go none e = absurd ((search_rule last (pass_over low high) table c).missing e (p - 1) k)
      go (some q) e =
          let rule = search_rule last (pass_over low high) table c in
          split (eqb q (p - 1))
          (λ z. ap some (sym (eqb-true q (p - 1) z)))
          (λ z. absurd (n q (omega (arith, eqb-false q (p - 1) z, rule.nearest q (p - 1) e k)) (rule.found q e)))

  pub last_none : (p : ℕ) → p ≤ 0 → NoneFrom p → none ≡ search last (pass_over low high) table c
  unfolding NoneFrom
  last_none p z n = go (search last (pass_over low high) table c) refl
    where
      go : (o : Option ℕ) → search last (pass_over low high) table c ≡ o → none ≡ o
      go none e = refl
      go (some q) e = absurd (n q (omega arith) ((search_rule last (pass_over low high) table c).found q e))
