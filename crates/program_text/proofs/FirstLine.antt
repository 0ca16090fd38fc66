-- The first line and the bytes behind it. Assumes nothing.
use mathlib.Core.Path.{◌≡◌, refl, sym, ap, ◌∙◌}
use mathlib.Core.Bool.{Bool, true, false}
use mathlib.Core.List.{List, [], ◌∷◌, ◌++◌, append-nil, map}
use mathlib.Core.Option.{Option, some, none}
use Prim.Native.Nat.{ℕ, suc, ◌+◌, ◌-◌, ◌≤◌, ◌<◌}
use Prim.Native.String.{String}
use native.Mathlib.Numerals.{add-one, one-add}
use native.Mathlib.Omega.{arith}
use lib.Dec.{ltb, eqb}
use lib.ListN.{length, take, drop, drop_of_length-le}
use borrow.Author.Tests.{ltb-true, ltb-false}
use Rattle.standard.proofs.Tests.{split}
use Rattle.std.proofs.Common.{Option as Maybe, Some, None}
use Rattle.std.specs.List.{position, position_or_len}
use Rattle.std.specs.Option.{unwrap_or}
use Rattle.std.proofs.lemmas.List.{take_rest}
use Rattle.standard.specs.Base.{◌then◌else◌}
use Rattle.labels_spec.specs.Labels.{table, trimmed, fold, among, find, answer, label}
use Rattle.labels_spec.proofs.Known.{encodings}
use Rattle.program_text.specs.Lines.{first_line, after_line}

pub first_few : (xs : List ℕ) → length (first_line xs) ≤ length xs
unfolding first_line
first_few [] = omega arith
first_few (b ∷ xs) = split (eqb b 0x0A) (λ e. rw e (omega arith)) (λ e. rw e (omega (arith, first_few xs)))

-- Behind the first line and its line feed.
after_is : (xs : List ℕ) → drop (suc (length (first_line xs))) xs ≡ after_line xs
unfolding first_line after_line
after_is [] = refl
after_is (b ∷ xs) = split (eqb b 0x0A) (λ e. rw e) (λ e. rw e (after_is xs))

-- Where the first line feed stands, or where the input ends.
line_len : (xs : List ℕ) → length (first_line xs) ≡ position_or_len (λ (b : ℕ). eqb b 10) xs
unfolding first_line
line_len [] = refl
line_len (b ∷ xs) = split (eqb b 10) (λ e. rw e) (λ e. rw (e, one-add) (ap suc (line_len xs)))

take_line : (xs : List ℕ) → take (length (first_line xs)) xs ≡ first_line xs
unfolding first_line
take_line [] = refl
take_line (b ∷ xs) = split (eqb b 10) (λ e. rw e) (λ e. rw e (ap (λ (l : List ℕ). b ∷ l) (take_line xs)))

module _ (xs : List ℕ) where
  feed : ℕ
  feed = position_or_len (λ (b : ℕ). eqb b 10) xs

  -- The first line by the place of the line feed, or without one.
  pub line_is : (r : Maybe ℕ) {n : ℕ} → r ≡ position (λ (b : ℕ). eqb b 10) xs → n ≡ unwrap_or r (length xs) →
      (n ≡ length (first_line xs)) × (n ≤ length xs) × (take n xs ≡ first_line xs)
  unfolding feed
  line_is r e q =
      let p = q ∙ rw e (split (ltb feed (length xs))
      (λ t. rw t (sym (line_len xs)))
      (λ t. let h = ltb-false feed (length xs) t in rw t (omega (arith, line_len xs, h, first_few xs)))) in
      (p, rw p (first_few xs), rw p (take_line xs))

  -- What stands behind it.
  pub after_feed : (i : ℕ) → Some i ≡ position (λ (b : ℕ). eqb b 10) xs → take (length xs - (i + 1)) (drop (i + 1) xs) ≡ after_line xs
  after_feed i e = let p = (line_is (Some i) e refl).0 in take_rest xs (i + 1) ∙ rw (p, add-one) (after_is xs)

  pub after_none : None ≡ position (λ (b : ℕ). eqb b 10) xs → [] ≡ after_line xs
  after_none e =
      let p = (line_is None e refl).0 in
      let l : length xs ≤ length xs + 1 = omega arith in
      sym (drop_of_length-le xs l) ∙ rw (p, add-one) (after_is xs)

-- The first line of a longer input.
pub line_closed : (xs ys : List ℕ) → length (first_line xs) < length xs → (first_line (xs ++ ys) ≡ first_line xs) × (after_line (xs ++ ys) ≡ after_line xs ++ ys)
unfolding first_line after_line
line_closed [] ys h = absurd (omega arith)
line_closed (b ∷ xs) ys h = go (line_closed xs ys) (eqb b 0x0A) h
  where
    go : (length (first_line xs) < length xs → (first_line (xs ++ ys) ≡ first_line xs) × (after_line (xs ++ ys) ≡ after_line xs ++ ys)) → (e : Bool) → length (e then [] else b ∷ first_line xs) < suc (length xs) →
        ((e then [] else b ∷ first_line (xs ++ ys)) ≡ (e then [] else b ∷ first_line xs)) × ((e then xs ++ ys else after_line (xs ++ ys)) ≡ (e then xs else after_line xs) ++ ys)
    go f true g = (refl, refl)
    go f false g = let r = f (omega (arith, g)) in (ap (λ (l : List ℕ). b ∷ l) r.0, r.1)

pub line_longer : (xs ys : List ℕ) → length (first_line xs) ≤ length (first_line (xs ++ ys))
unfolding first_line
line_longer [] ys = omega arith
line_longer (b ∷ xs) ys = go (line_longer xs ys) (eqb b 0x0A)
  where
    go : length (first_line xs) ≤ length (first_line (xs ++ ys)) → (e : Bool) → length (e then [] else b ∷ first_line xs) ≤ length (e then [] else b ∷ first_line (xs ++ ys))
    go f true = omega arith
    go f false = omega (arith, f)

pub after_few : (xs : List ℕ) → length (after_line xs) ≤ length xs
unfolding after_line
after_few [] = omega arith
after_few (b ∷ xs) = split (eqb b 0x0A) (λ e. rw e (omega arith)) (λ e. rw e (omega (arith, after_few xs)))

-- A first part of 256 bytes or more, or the whole, has the whole first line, where that has at most 255 bytes.
pub line_cut : (first rest : List ℕ) → (length first < 256 → rest ≡ []) → length (first_line first) ≤ 255 →
    (first_line (first ++ rest) ≡ first_line first) × (after_line (first ++ rest) ≡ after_line first ++ rest)
line_cut first rest h l = split (ltb (length first) 256)
    (λ e. rw (h (ltb-true (length first) 256 e), append-nil first, append-nil (after_line first)) (refl, refl))
    (λ e. line_closed first rest (omega (arith, l, ltb-false (length first) 256 e)))

-- An encoding that a label names has a number up to 39.
find_below : (l : List ℕ) (n : ℕ) (rs : List (String × List String)) (e : ℕ) → find l n rs ≡ some e → e < n + length rs
unfolding find
find_below l n [] e h = let z : ◌≡◌ {A = ℕ} 0 1 = cc in absurd (omega arith)
find_below l n (r ∷ rs) e h = go (find_below l (suc n) rs e) (among l r.1) h
  where
    go : (find l (suc n) rs ≡ some e → e < suc n + length rs) → (b : Bool) → (b then some n else find l (suc n) rs) ≡ some e → e < n + suc (length rs)
    go f true g = let z : n ≡ e = cc in omega (arith, z)
    go f false g = omega (arith, f g)

pub known_below : (xs : List ℕ) → ((label xs).refusal ≡ 1 → ⊥) → (label xs).encoding ≤ 39
unfolding label
known_below xs h = go (find (map fold (trimmed xs)) 0 table) refl h
  where
    go : (o : Option ℕ) → find (map fold (trimmed xs)) 0 table ≡ o → ((answer xs o).refusal ≡ 1 → ⊥) → (answer xs o).encoding ≤ 39
    go none e g = absurd (g refl)
    go (some n) e g = omega (arith, find_below (map fold (trimmed xs)) 0 table n e, encodings)
