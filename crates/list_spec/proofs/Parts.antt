-- Parts of a text, and the tests over characters as facts. Assumes nothing.
use mathlib.Core.Path.{◌≡◌, refl, sym, ap, ◌∙◌}
use mathlib.Core.Bool.{Bool, true, false, true≢false}
use mathlib.Core.List.{List, [], ◌∷◌}
use Prim.Native.Nat.{ℕ, zero, suc, ◌+◌, ◌-◌, ◌≤◌, ◌<◌}
use native.Mathlib.Omega.{arith}
use lib.Dec.{eqb}
use lib.ListN.{length, take, drop, get_or}
use lib.Seq.{slice, length-slice, length-take-le, take-length, take-add, take-take, drop_at}
use borrow.Author.Tests.{eq-eqb, eqb-true}
use Rattle.standard.specs.Base.{◌then◌else◌, line_feeds}
use Rattle.list_spec.specs.Lines.{TAB, LF, before, count, same, line, name_of}

-- to the end of the text, and a part as the front of what is left
pub slice_all : (a : ℕ) (l : List ℕ) → slice a (length l) l ≡ drop a l
slice_all a l = rw take-length

pub slice_front : (a n : ℕ) (l : List ℕ) → a ≤ length l → slice a (a + n) l ≡ take n (drop a l)
slice_front a n l h = rw (take-add a n l) (drop_at (take a l) (take n (drop a l)) a (length-take-le a l h))

-- what stands in front of the first x
pub before_le : (x : ℕ) (l : List ℕ) → before x l ≤ length l
unfolding before
before_le x [] = omega arith
before_le x (c ∷ cs) = go (eqb c x) (before_le x cs)
  where
    go : (b : Bool) → before x cs ≤ length cs → (b then 0 else suc (before x cs)) ≤ suc (length cs)
    go true h = omega arith
    go false h = omega arith

pub before_at : (x : ℕ) (l : List ℕ) → before x l < length l → get_or l (before x l) 0 ≡ x
unfolding before
before_at x [] h = absurd (omega arith)
before_at x (c ∷ cs) h = go (eqb c x) refl h (before_at x cs)
  where
    go : (b : Bool) → eqb c x ≡ b → (b then 0 else suc (before x cs)) < suc (length cs) →
        (before x cs < length cs → get_or cs (before x cs) 0 ≡ x) → get_or (c ∷ cs) (b then 0 else suc (before x cs)) 0 ≡ x
    go true e h r = eqb-true c x e
    go false e h r = r (omega arith)

-- how often x stands there: none, where none is in front; none in what is in front; one more than behind the first
pub count_none : (x : ℕ) (l : List ℕ) → before x l ≡ length l → count x l ≡ 0
unfolding before count
count_none x [] h = refl
count_none x (c ∷ cs) h = go (eqb c x) (count_none x cs) h
  where
    go : (b : Bool) → (before x cs ≡ length cs → count x cs ≡ 0) → (b then 0 else suc (before x cs)) ≡ suc (length cs) →
        (b then suc (count x cs) else count x cs) ≡ 0
    go true r h = absurd (omega arith)
    go false r h = r (omega arith)

pub count_before : (x : ℕ) (l : List ℕ) (j : ℕ) → j ≤ before x l → count x (take j l) ≡ 0
unfolding before count
count_before x l zero h = refl
count_before x [] (suc j) h = refl
count_before x (c ∷ cs) (suc j) h = go (eqb c x) h (count_before x cs j)
  where
    go : (b : Bool) → suc j ≤ (b then 0 else suc (before x cs)) → (j ≤ before x cs → count x (take j cs) ≡ 0) →
        (b then suc (count x (take j cs)) else count x (take j cs)) ≡ 0
    go true h r = absurd (omega arith)
    go false h r = r (omega arith)

pub count_one : (x : ℕ) (l : List ℕ) → before x l < length l → count x l ≡ suc (count x (drop (suc (before x l)) l))
unfolding before count
count_one x [] h = absurd (omega arith)
count_one x (c ∷ cs) h = go (eqb c x) (count_one x cs) h
  where
    go : (b : Bool) → (before x cs < length cs → count x cs ≡ suc (count x (drop (suc (before x cs)) cs))) →
        (b then 0 else suc (before x cs)) < suc (length cs) →
        (b then suc (count x cs) else count x cs) ≡ suc (count x (drop (suc (b then 0 else suc (before x cs))) (c ∷ cs)))
    go true r h = refl
    go false r h = r (omega arith)

-- up to the first x and with it there is one
pub count_to : (x : ℕ) (l : List ℕ) → before x l < length l → count x (take (suc (before x l)) l) ≡ 1
unfolding before count
count_to x [] h = absurd (omega arith)
count_to x (c ∷ cs) h = go (eqb c x) (count_to x cs) h
  where
    go : (b : Bool) → (before x cs < length cs → count x (take (suc (before x cs)) cs) ≡ 1) →
        (b then 0 else suc (before x cs)) < suc (length cs) →
        (b then suc (count x (take (b then 0 else suc (before x cs)) cs)) else count x (take (b then 0 else suc (before x cs)) cs)) ≡ 1
    go true r h = refl
    go false r h = r (omega arith)

pub count_line_feeds : (l : List ℕ) → count LF l ≡ line_feeds l
unfolding count line_feeds
count_line_feeds [] = refl
count_line_feeds (c ∷ cs) = rw (count_line_feeds cs)

-- the same characters
pub same_true : (xs ys : List ℕ) → same xs ys ≡ true → xs ≡ ys
unfolding same
same_true [] [] h = refl
same_true [] (y ∷ ys) h = absurd (true≢false (sym h))
same_true (x ∷ xs) [] h = absurd (true≢false (sym h))
same_true (x ∷ xs) (y ∷ ys) h = go (eqb x y) refl h (same_true xs ys)
  where
    go : (b : Bool) → eqb x y ≡ b → (b then same xs ys else false) ≡ true → (same xs ys ≡ true → xs ≡ ys) → x ∷ xs ≡ y ∷ ys
    go true e h r = let p : x ≡ y = eqb-true x y e in let q : xs ≡ ys = r h in cc
    go false e h r = absurd (true≢false (sym h))

pub same_refl : (xs : List ℕ) → same xs xs ≡ true
unfolding same
same_refl [] = refl
same_refl (x ∷ xs) = simp (eq-eqb x x refl, same_refl xs)

-- the name of the line from a to z, whose first tab is at j, as a part of the text
module _ (text : List ℕ) (n a z j : ℕ) (h : a ≤ z) (g : z ≤ length text) (e : j ≡ a + before TAB (slice a z text)) where
  pub name_part : slice a j text ≡ name_of text (line n a z)
  unfolding name_of
  name_part =
      let t = before TAB (slice a z text) in
      let w : t ≤ z - a = omega (arith, before_le TAB (slice a z text), length-slice a z text g) in
      let v : a + (z - a) ≡ z = omega arith in
      let u : slice a z text ≡ take (z - a) (drop a text) =
      sym (ap (λ (i : ℕ). slice a i text) v) ∙ slice_front a (z - a) text (omega arith) in
      let r : take t (slice a z text) ≡ take t (drop a text) = ap (λ (l : List ℕ). take t l) u ∙ take-take t (z - a) (drop a text) w in
      rw e (slice_front a t text (omega arith)) ∙ sym r
