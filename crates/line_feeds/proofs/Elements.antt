-- Line feeds among the numbers of some elements, which are counted in blocks. Assumes nothing.
use Rattle.std.proofs.Common.{◌≡◌, ℕ, suc, ◌+◌, ◌-◌, ◌*◌, ◌%◌, ◌≤◌, ◌<◌, ◌⊎◌, inl, inr, min, cond, eqb, Bool, true, false, List, [], ◌∷◌, ◌++◌, map, length, drop, refl, sym, ap, ◌∙◌, arith, count_by}
use Rattle.std.proofs.lemmas.List.Sums.{sum_by-cons}
use Rattle.std.proofs.lemmas.List.{map-append, length-map, length-append, length-take, length-drop}
use Rattle.std.proofs.Math.Seq.{drop-append_seam, drop-drop}
use Rattle.standard.specs.Base.{◌then◌else◌, line_feeds}
use Rattle.std.proofs.lemmas.Bool.{cases_lt}
use Rattle.std.proofs.Math.Nat.{add-mul-mod_self_right, mod-eq_of_lt}
use Rattle.line_feeds.specs.Parts.{part}
use Rattle.line_feeds.proofs.Parts.{to_end}
use Rattle.standard.proofs.LineFeeds.{line_feeds-append, line_feeds-length}

-- line feeds are the elements that are 0A
pub counted : (xs : List ℕ) → line_feeds xs ≡ count_by (λ x. eqb x 0x0A) xs
unfolding line_feeds
counted [] = refl
counted (x ∷ xs) = go (eqb x 0x0A) (counted xs) ∙ sym (sum_by-cons (λ x. cond (eqb x 0x0A) 1 0) x xs)
  where
    go : (t : Bool) → line_feeds xs ≡ count_by (λ x. eqb x 0x0A) xs → (t then suc (line_feeds xs) else line_feeds xs) ≡ cond t 1 0 + count_by (λ x. eqb x 0x0A) xs
    go true h = omega arith
    go false h = omega arith

-- Line feeds among the numbers of some elements: of two parts, and no more than elements.
pub in_parts : {X : Type 0} (f : X → ℕ) (xs ys : List X) → line_feeds (map f (xs ++ ys)) ≡ line_feeds (map f xs) + line_feeds (map f ys)
in_parts f xs ys = rw map-append (line_feeds-append (map f xs) (map f ys))

pub no_more_than : {X : Type 0} (f : X → ℕ) (xs : List X) → line_feeds (map f xs) ≤ length xs
no_more_than f xs = rw length-map at (line_feeds-length (map f xs))

-- a part with no element: none is asked for, or it is behind the end
pub no_element : (xs : List ℕ) (at n : ℕ) → min n (length xs - at) ≡ 0 → 0 ≡ line_feeds (part xs at n)
no_element xs at n h = omega (arith, line_feeds-length (part xs at n), length-take n (drop at xs), length-drop at xs)

-- a part up to a place, or to the end where that is nearer
pub cut : (xs : List ℕ) (at to end : ℕ) → end ≡ min to (length xs) → line_feeds (part xs at (end - at)) ≡ line_feeds (part xs at (to - at))
cut xs at to end h = go (cases_lt (length xs) to)
  where
    go : (length xs < to) ⊎ (to ≤ length xs) → line_feeds (part xs at (end - at)) ≡ line_feeds (part xs at (to - at))
    go (inl i) = to_end xs at (end - at) (to - at) (omega arith) (omega arith)
    go (inr i) = let e : end ≡ to = omega arith in rw e

-- What is left behind so many blocks, a block more, and what is left of all: the rest that no block has.
module _ {X : Type 0} (all : List X) where
  pub a_block : (l b t : List X) (k j size : ℕ) → l ≡ b ++ t → length b ≡ size → l ≡ drop (k * size) all → k * size ≤ length all → j ≡ k + 1 →
      (t ≡ drop (j * size) all) × (j * size ≤ length all)
  a_block l b t k j size e n h i q =
      let m : j * size ≡ k * size + size = rw q (grind arith) in
      let long : length l ≡ size + length t = rw (e, length-append, n) refl in
      let less : length l ≡ length all - k * size = rw (h, length-drop) refl in
      (sym (drop-append_seam b t) ∙ ap (λ x. drop x (b ++ t)) n ∙ ap (drop size) (sym e ∙ h) ∙ drop-drop size (k * size) all ∙ ap (λ x. drop x all) (sym m), rw m (omega arith))

  pub the_rest : (l r : List X) (k size : ℕ) → l ≡ drop (k * size) all → k * size ≤ length all → length l < size → r ≡ drop (length all - length all % size) all → r ≡ l
  the_rest l r k size h i s e =
      let less : length l ≡ length all - k * size = rw (h, length-drop) refl in
      let n : length all % size ≡ length l = ap (λ x. x % size) (omega arith) ∙ add-mul-mod_self_right (length l) k size ∙ mod-eq_of_lt s in
      e ∙ ap (λ x. drop x all) (omega arith) ∙ sym h
