-- Four bytes tell: the sequence at the front of four bytes is the one at the front of all. Assumes nothing.
use mathlib.Core.Path.{◌≡◌, refl, sym, ap, ◌∙◌}
use mathlib.Core.Bool.{Bool, true, false}
use mathlib.Core.List.{List, [], ◌∷◌}
use Prim.Native.Nat.{ℕ, suc, ◌+◌, ◌-◌, ◌≤◌, ◌<◌}
use native.Mathlib.Omega.{arith}
use native.Mathlib.Nat.{add-zero}
use lib.Dec.{leb}
use lib.ListN.{length, take, drop, get_or, length-drop, take-append-drop}
use lib.Seq.{length-take-le, get_or-drop, take_all, take-nil, drop-cons}
use borrow.Author.Tests.{leb-true, leb-false}
use Rattle.standard.specs.Encodings.{Family, Tables}
use Rattle.standard.specs.Sequence.{Shift, Next, more, item}
use Rattle.standard.specs.Next.{next}
use Rattle.standard.proofs.FamilyLaws.{keeps, next_laws}
use Rattle.standard.proofs.Walk.{at_item, at_more}
use Rattle.sequences.specs.Code.{front}

-- the first four bytes
front4 : (xs : List ℕ) → take (length xs) (get_or xs 0 0 ∷ get_or xs 1 0 ∷ get_or xs 2 0 ∷ get_or xs 3 0 ∷ []) ≡ take 4 xs
front4 [] = refl
front4 (a ∷ []) = refl
front4 (a ∷ b ∷ []) = refl
front4 (a ∷ b ∷ c ∷ []) = refl
front4 (a ∷ b ∷ c ∷ d ∷ xs) = ap (λ (l : List ℕ). a ∷ b ∷ c ∷ d ∷ l) (take-nil (length xs))

-- four bytes tell: the answer at the front of the first four is the answer at the front of all
module _ (t : Tables) (f : Family) (s : Shift) where
  four_tell : (xs : List ℕ) → next t f s (take 4 xs) ≡ next t f s xs
  four_tell xs = go (next t f s (take 4 xs)) refl
    where
      few : length (take 4 xs) ≤ 3 → length xs ≤ 4
      few n = pick (leb (length xs) 4) refl
        where
          pick : (b : Bool) → leb (length xs) 4 ≡ b → length xs ≤ 4
          pick true q = leb-true (length xs) 4 q
          pick false q = let l : 4 < length xs = leb-false (length xs) 4 q in absurd (omega (arith, n, length-take-le 4 xs (omega arith)))

      go : (a : Next) → next t f s (take 4 xs) ≡ a → next t f s (take 4 xs) ≡ next t f s xs
      go more h = ap (next t f s) (take_all 4 xs (few (at_more (keeps f) (next t f) (next_laws t f) s (take 4 xs) h).0))
      go (item w s' o) h =
          let l = at_item (keeps f) (next t f) (next_laws t f) s (take 4 xs) h (drop 4 xs) in
          h ∙ sym (ap (next t f s) (sym (take-append-drop 4 xs)) ∙ l.0)

  pub front_is : (Q : List ℕ) (at : ℕ) → {n b0 b1 b2 b3 : ℕ} → n ≡ length Q - at → b0 ≡ get_or Q at 0 → b1 ≡ get_or Q (at + 1) 0 → b2 ≡ get_or Q (at + 2) 0 → b3 ≡ get_or Q (at + 3) 0 →
      next t f s (front n b0 b1 b2 b3) ≡ next t f s (drop at Q)
  front_is Q at {n} {b0} {b1} {b2} {b3} p p0 p1 p2 p3 =
      ap (next t f s) (
      rw (p ∙ sym (length-drop at Q), p0 ∙ ap (λ (k : ℕ). get_or Q k 0) (sym (add-zero at)) ∙ sym (get_or-drop at Q 0 0), p1 ∙ sym (get_or-drop at Q 1 0), p2 ∙ sym (get_or-drop at Q 2 0), p3 ∙ sym (get_or-drop at Q 3 0)) (front4 (drop at Q))) ∙
      four_tell (drop at Q)

  -- the same, where there are at least four
  pub front_four : (Q : List ℕ) (at : ℕ) → at + 4 ≤ length Q → next t f s (front 4 (get_or Q at 0) (get_or Q (at + 1) 0) (get_or Q (at + 2) 0) (get_or Q (at + 3) 0)) ≡ next t f s (drop at Q)
  front_four Q at h =
      ap (next t f s) (sym (take_all (length Q - at) (get_or Q at 0 ∷ get_or Q (at + 1) 0 ∷ get_or Q (at + 2) 0 ∷ get_or Q (at + 3) 0 ∷ []) (omega arith))) ∙
      front_is Q at refl refl refl refl refl

-- the bytes at a place
next_byte : (xs : List ℕ) (i n : ℕ) → i < length xs → suc i ≡ n → drop i xs ≡ get_or xs i 0 ∷ drop n xs
next_byte xs i n h e = drop-cons xs i 0 h ∙ ap (λ (k : ℕ). get_or xs i 0 ∷ drop k xs) e

pub byte_at : (xs : List ℕ) (i : ℕ) → i < length xs → drop i xs ≡ get_or xs i 0 ∷ drop (i + 1) xs
byte_at xs i h = next_byte xs i (i + 1) h (omega arith)

pub two_at : (xs : List ℕ) (i : ℕ) → i + 1 < length xs → drop i xs ≡ get_or xs i 0 ∷ get_or xs (i + 1) 0 ∷ drop (i + 2) xs
two_at xs i h = byte_at xs i (omega arith) ∙ ap (◌∷◌ (get_or xs i 0)) (next_byte xs (i + 1) (i + 2) h (omega arith))

pub three_at : (xs : List ℕ) (i : ℕ) → i + 2 < length xs → drop i xs ≡ get_or xs i 0 ∷ get_or xs (i + 1) 0 ∷ get_or xs (i + 2) 0 ∷ drop (i + 3) xs
three_at xs i h = two_at xs i (omega arith) ∙ ap (λ (l : List ℕ). get_or xs i 0 ∷ get_or xs (i + 1) 0 ∷ l) (next_byte xs (i + 2) (i + 3) h (omega arith))

pub four_at : (xs : List ℕ) (i : ℕ) → i + 3 < length xs → drop i xs ≡ get_or xs i 0 ∷ get_or xs (i + 1) 0 ∷ get_or xs (i + 2) 0 ∷ get_or xs (i + 3) 0 ∷ drop (i + 4) xs
four_at xs i h = three_at xs i (omega arith) ∙ ap (λ (l : List ℕ). get_or xs i 0 ∷ get_or xs (i + 1) 0 ∷ get_or xs (i + 2) 0 ∷ l) (next_byte xs (i + 3) (i + 4) h (omega arith))
