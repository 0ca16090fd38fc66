-- Trimming and folding: white space goes from both ends and nothing else does; the letters' case does not matter. Assumes nothing.
use mathlib.Core.Path.{◌≡◌, refl, sym, ap, ◌∙◌}
use mathlib.Core.Bool.{Bool, true, false}
use mathlib.Core.List.{List, [], ◌∷◌, ◌++◌, map, map-append, reverse, reverse-append, reverse-reverse, reverse-cons, append-nil}
use Prim.Native.Nat.{ℕ, zero, suc, ◌+◌, ◌≤◌}
use native.Mathlib.Omega.{arith}
use lib.Dec.{leb}
use lib.ListN.{length, take, drop, take-append-drop}
use borrow.Author.Tests.{leb-true, le-leb, lt-leb, ne_eqb}
use Rattle.standard.specs.Base.{within, every}
use Rattle.standard.proofs.Tests.{split, and_both}
use Rattle.labels_spec.specs.Labels.{white, fold, start, trimmed}
use Rattle.labels_spec.specs.Statements.{Trims}

-- Every element of a joined list passes a test if those of the parts do.
every_join : (p : ℕ → Bool) (xs ys : List ℕ) → every p xs ≡ true → every p ys ≡ true → every p (xs ++ ys) ≡ true
unfolding every
every_join p [] ys h g = g
every_join p (x ∷ xs) ys h g =
    let k : (p x ≡ true) × (every p xs ≡ true) = and_both (p x) (every p xs) h in
    rw k.0 (every_join p xs ys k.1 g)

-- Every element of a reversed list passes a test if those of the list do.
every_reverse : (p : ℕ → Bool) (xs : List ℕ) → every p xs ≡ true → every p (reverse xs) ≡ true
unfolding every
every_reverse p [] h = refl
every_reverse p (x ∷ xs) h =
    let k : (p x ≡ true) × (every p xs ≡ true) = and_both (p x) (every p xs) h in
    rw reverse-cons (every_join p (reverse xs) (x ∷ []) (every_reverse p xs k.1) (rw k.0))

-- Without the white space in front.
abbrev trim_start : List ℕ → List ℕ
trim_start xs = drop (start xs) xs

-- The front is white space.
front_white : (xs : List ℕ) → every white (take (start xs) xs) ≡ true
unfolding start every
front_white [] = refl
front_white (b ∷ xs) = split (white b) (λ h. rw (h, h) (front_white xs)) (λ h. rw h)

-- The front has as many bytes as `start` counts.
front_length : (xs : List ℕ) → length (take (start xs) xs) ≡ start xs
unfolding start
front_length [] = refl
front_length (b ∷ xs) = split (white b) (λ h. rw h (ap suc (front_length xs))) (λ h. rw h)

-- The byte behind it is no white space.
front_first : (xs : List ℕ) (b : ℕ) (ys : List ℕ) → trim_start xs ≡ b ∷ ys → white b ≡ false
unfolding start
front_first [] b ys e = let z : white b ≡ false = cc in z
front_first (x ∷ xs) b ys e = split (white x)
    (λ h. front_first xs b ys (rw h at e))
    (λ h. let g : x ∷ xs ≡ b ∷ ys = rw h at e in let k : x ≡ b = cc in rw (← k) h)

-- The trimmed label, with what is taken away on each side.
pub trims : (xs : List ℕ) → Trims xs
unfolding trimmed
trims xs = record {
  before = take (start xs) xs;
  behind = reverse (take (start back) back);
  whole = sym (ap (λ l. take (start xs) xs ++ l) (sym inner) ∙ take-append-drop (start xs) xs);
  starts = front_length xs;
  white_before = front_white xs;
  white_behind = every_reverse white (take (start back) back) (front_white back);
  first = λ b ys e. front_first xs b (ys ++ reverse (take (start back) back)) (inner ∙ ap (λ l. l ++ reverse (take (start back) back)) e);
  last = λ b ys e. front_first back b (reverse ys) (sym (reverse-reverse (trim_start back)) ∙ ap reverse e ∙ reverse-append ys (b ∷ []));
}
  where
    back : List ℕ
    back = reverse (trim_start xs)

    inner : trim_start xs ≡ reverse (trim_start back) ++ reverse (take (start back) back)
    inner =
        sym (reverse-reverse (trim_start xs)) ∙ ap reverse (sym (take-append-drop (start back) back)) ∙
        reverse-append (take (start back) back) (trim_start back)

-- White space in front is dropped.
skip : (before xs : List ℕ) → every white before ≡ true → trim_start (before ++ xs) ≡ trim_start xs
unfolding start every
skip [] xs h = refl
skip (b ∷ before) xs h =
    let k : (white b ≡ true) × (every white before ≡ true) = and_both (white b) (every white before) h in
    rw k.0 (skip before xs k.1)

-- Nothing is left of white space alone.
skip_all : (xs : List ℕ) → every white xs ≡ true → trim_start xs ≡ []
unfolding start
skip_all xs h = ap trim_start (sym (append-nil xs)) ∙ skip xs [] h

-- White space at the end changes nothing that is left.
skip_end : (xs behind : List ℕ) → every white behind ≡ true → trim_start (reverse (trim_start (xs ++ behind))) ≡ trim_start (reverse (trim_start xs))
unfolding start
skip_end [] behind h = rw (skip_all behind h)
skip_end (b ∷ xs) behind h = split (white b)
    (λ g. rw g (skip_end xs behind h))
    (λ g. rw g (rw (reverse-append (b ∷ xs) behind) (skip (reverse behind) (reverse (b ∷ xs)) (every_reverse white behind h))))

-- White space on both sides does not change the trimmed label.
pub around : (before xs behind : List ℕ) → every white before ≡ true → every white behind ≡ true → trimmed (before ++ (xs ++ behind)) ≡ trimmed xs
unfolding trimmed
around before xs behind h g = rw (skip before (xs ++ behind) h) (ap reverse (skip_end xs behind g))

-- What the test for a letter says.
letter : (b : ℕ) → within 0x41 b 0x5A ≡ true → (0x41 ≤ b) × (b ≤ 0x5A)
letter b h = let k : (leb 0x41 b ≡ true) × (leb b 0x5A ≡ true) = and_both (leb 0x41 b) (leb b 0x5A) h in (leb-true 0x41 b k.0, leb-true b 0x5A k.1)

-- No letter is white space.
not_white : (b : ℕ) → 0x41 ≤ b → white b ≡ false
not_white b h = rw (ne_eqb b 0x09 (omega arith), ne_eqb b 0x0A (omega arith), ne_eqb b 0x0C (omega arith), ne_eqb b 0x0D (omega arith), ne_eqb b 0x20 (omega arith))

-- A folded byte is white space where the byte is.
fold_white : (b : ℕ) → white (fold b) ≡ white b
fold_white b = split (within 0x41 b 0x5A)
    (λ h. let k : (0x41 ≤ b) × (b ≤ 0x5A) = letter b h in rw h (not_white (b + 0x20) (omega arith) ∙ sym (not_white b k.0)))
    (λ h. rw h)

-- Folding twice is folding once.
fold_fold : (b : ℕ) → fold (fold b) ≡ fold b
fold_fold b = split (within 0x41 b 0x5A)
    (λ h. let k : (0x41 ≤ b) × (b ≤ 0x5A) = letter b h in rw h (rw (le-leb 0x41 (b + 0x20) (omega arith), lt-leb (b + 0x20) 0x5A (omega arith))))
    (λ h. rw (h, h))

-- Folding a list twice is folding it once.
pub fold_all : (xs : List ℕ) → map fold (map fold xs) ≡ map fold xs
fold_all [] = refl
fold_all (b ∷ xs) = rw (fold_fold b, fold_all xs)

-- Folding and `drop` change places.
map_drop : (n : ℕ) (xs : List ℕ) → drop n (map fold xs) ≡ map fold (drop n xs)
map_drop zero xs = refl
map_drop (suc n) [] = refl
map_drop (suc n) (b ∷ xs) = map_drop n xs

-- Folding and `reverse` change places.
map_reverse : (xs : List ℕ) → reverse (map fold xs) ≡ map fold (reverse xs)
map_reverse [] = refl
map_reverse (b ∷ xs) = reverse-cons (fold b) (map fold xs) ∙ ap (λ l. l ++ (fold b ∷ [])) (map_reverse xs) ∙
    sym (ap (map fold) (reverse-cons b xs) ∙ map-append fold (reverse xs) (b ∷ []))

-- Folding keeps the count of white space in front.
pub fold_start : (xs : List ℕ) → start (map fold xs) ≡ start xs
unfolding start
fold_start [] = refl
fold_start (b ∷ xs) = rw (fold_white b, fold_start xs)

-- Folding and dropping white space in front change places.
fold_trim_start : (xs : List ℕ) → trim_start (map fold xs) ≡ map fold (trim_start xs)
fold_trim_start xs = rw (fold_start xs) (map_drop (start xs) xs)

-- Folding and trimming change places.
pub fold_trimmed : (xs : List ℕ) → trimmed (map fold xs) ≡ map fold (trimmed xs)
unfolding trimmed
fold_trimmed xs = ap (λ l. reverse (trim_start (reverse l))) (fold_trim_start xs) ∙ ap (λ l. reverse (trim_start l)) (map_reverse (trim_start xs)) ∙
    ap reverse (fold_trim_start (reverse (trim_start xs))) ∙ map_reverse (trim_start (reverse (trim_start xs)))
