-- The parts of an index line, found at places of the line. Assumes nothing.
use mathlib.Core.Path.{◌≡◌, refl, sym, ap, ◌∙◌}
use mathlib.Core.Bool.{Bool, true, false, ◌&&◌, and-true, and-false}
use mathlib.Core.List.{List, [], ◌∷◌}
use Prim.Native.Nat.{ℕ, zero, suc, ◌+◌, ◌-◌, ◌*◌, ◌≤◌, ◌<◌}
use native.Mathlib.Nat.{mul-le-mul_left}
use native.Mathlib.Numerals.{add-one}
use native.Mathlib.Omega.{arith}
use lib.Dec.{eqb}
use lib.Pointwise.{pointwise}
use lib.ListN.{length, get_or, drop, take, drop_of_length-le}
use lib.Seq.{drop-cons}
use Rattle.standard.specs.Base.{within, mapped}
use Rattle.standard.proofs.Tests.{split, and_both}
use Rattle.index_spec.specs.IndexLine.{decimal, hexadecimal, digit, value, ending}
use Rattle.index_spec.specs.IndexRead.{no_entry, bad, entry, front, behind, space, marked, fits, read_parts, is_no_entry, read}

-- Bytes that pass a test at the front: those before a place, where the place is the end or its byte fails.
module _ (p : ℕ → Bool) where
  front_at : (bytes : List ℕ) (n : ℕ) → n ≤ length bytes → ((k : ℕ) → k < n → p (get_or bytes k 0) ≡ true) →
      (n < length bytes → p (get_or bytes n 0) ≡ false) → (take n bytes ≡ front p bytes) × (drop n bytes ≡ behind p bytes)
  unfolding front behind
  front_at [] zero h f g = (refl, refl)
  front_at (b ∷ bs) zero h f g = let e : p b ≡ false = g (omega arith) in rw e (refl, refl)
  front_at [] (suc n) h f g = absurd (omega arith)
  front_at (b ∷ bs) (suc n) h f g =
      let e : p b ≡ true = f 0 (omega arith) in
      let r = front_at bs n (omega arith) (λ k i. f (suc k) (omega arith)) (λ i. g (omega arith)) in
      rw e (ap (λ (l : List ℕ). b ∷ l) r.0, r.1)

  pub split_at_place : (bytes x y : List ℕ) (n : ℕ) → n ≤ length bytes → ((k : ℕ) → k < n → p (get_or bytes k 0) ≡ true) →
      (n < length bytes → p (get_or bytes n 0) ≡ false) → x ≡ take n bytes → y ≡ drop n bytes → (x ≡ front p bytes) × (y ≡ behind p bytes)
  split_at_place bytes x y n h f g u v = let r = front_at bytes n h f g in (u ∙ r.0, v ∙ r.1)

-- The largest number that so many digits can stand for, where a digit is at most 200 and the base at most 16.
unfoldable pub most : ℕ → ℕ
most zero = 0
most (suc k) = most k * 16 + 200

most_more : (j k : ℕ) → most k ≤ most (j + k)
unfolding most
most_more zero k = let e : 0 + k ≡ k = omega arith in rw e (omega arith)
most_more (suc j) k = let e : suc j + k ≡ suc (j + k) = omega arith in rw e (omega (arith, most_more j k))

most_seven : (k : ℕ) → k ≤ 7 → most k ≤ 3579139400
unfolding most
most_seven k h = let e : 7 - k + k ≡ 7 = omega arith in rw e at (most_more (7 - k) k)

-- The number that the first i digits give, with which the others give the whole number.
pub record Numbered (digits : List ℕ) (base n i : ℕ) : Type 0 where
  pub bound : n ≤ most i
  pub same : value base n (drop i digits) ≡ value base 0 digits

module _ (digits : List ℕ) (base : ℕ) where
  pub numbered_start : Numbered digits base 0 0
  numbered_start = record { bound = omega arith; same = refl }

  module _ (n i : ℕ) (s : Numbered digits base n i) where
    pub numbered_end : length digits ≤ i → n ≡ value base 0 digits
    unfolding value
    numbered_end h = let e : drop i digits ≡ [] = drop_of_length-le digits {i = i} h in rw e at s.same

    module _ (h : i < length digits) (l : length digits ≤ 7) (b : base ≤ 16) (d : ℕ) (g : d ≤ 200) where
      next_bound : n * base + d ≤ most (i + 1)
      unfolding most
      next_bound = rw add-one (omega (arith, s.bound, mul-le-mul_left n b))

      pub next_fits : n * base + d ≤ 3579139400
      next_fits = omega (arith, next_bound, most_seven (i + 1) (omega arith))

      pub numbered_on : d ≡ digit (get_or digits i 0) → Numbered digits base (n * base + d) (i + 1)
      unfolding value
      numbered_on e = record {
        bound = next_bound;
        same = rw (add-one, e) (rw (drop-cons digits i 0 h) at s.same);
      }

-- The mark, as the code compares it.
abbrev pub mark : List ℕ
mark = 0x09 ∷ 0x30 ∷ 0x78 ∷ []

marked_is : (xs : List ℕ) → pointwise eqb (take 3 xs) mark ≡ marked xs
marked_is [] = refl
marked_is (a ∷ []) = refl
marked_is (a ∷ b ∷ []) = refl
marked_is (a ∷ b ∷ c ∷ xs) = rw (and-true (eqb c 0x78))

-- What the parts are read as.
module _ (ds xs hs rest : List ℕ) where
  abbrev fit : Bool
  fit = within 1 (length ds) 7 && (within 4 (length hs) 6 && ending rest)

  not_marked : marked xs ≡ false → bad ≡ read_parts ds xs hs rest
  unfolding fits
  not_marked h = rw (h, and-false (within 1 (length ds) 7))

  module _ (m : marked xs ≡ true) where
    not_fit : fit ≡ false → bad ≡ read_parts ds xs hs rest
    unfolding fits
    not_fit f = split (within 1 (length ds) 7)
        (λ a. split (within 4 (length hs) 6)
        (λ b. split (ending rest) (λ e. let k = rw (a, b, e) at f in cc) (λ e. rw (a, m, b, e)))
        (λ b. rw (a, m, b)))
        (λ a. rw a)

    module _ (f : fit ≡ true) where
      not_mapped : mapped (value 16 0 hs) ≡ false → bad ≡ read_parts ds xs hs rest
      unfolding fits
      not_mapped u =
          let a = and_both (within 1 (length ds) 7) (within 4 (length hs) 6 && ending rest) f in
          let b = and_both (within 4 (length hs) 6) (ending rest) a.1 in
          rw (a.0, m, b.0, b.1, u)

      is_entry_lem : mapped (value 16 0 hs) ≡ true → entry (value 10 0 ds) (value 16 0 hs) ≡ read_parts ds xs hs rest
      unfolding fits
      is_entry_lem u =
          let a = and_both (within 1 (length ds) 7) (within 4 (length hs) 6 && ending rest) f in
          let b = and_both (within 4 (length hs) 6) (ending rest) a.1 in
          rw (a.0, m, b.0, b.1, u)

-- The front of a line that has an entry or is bad: spaces, the decimal digits ds, and xs behind them.
pub record Front (line rest ds xs : List ℕ) : Type 0 where
  pub some : is_no_entry line ≡ false
  pub spaces : rest ≡ behind space line
  pub decimals : ds ≡ front decimal rest
  pub remains : xs ≡ behind decimal rest

module _ (line rest ds xs : List ℕ) (l : Front line rest ds xs) where
  by_parts : read_parts ds xs (front hexadecimal (drop 3 xs)) (behind hexadecimal (drop 3 xs)) ≡ read line
  unfolding read
  by_parts = rw (l.some, sym l.spaces, sym l.decimals, sym l.remains)

  pub read_unmarked : pointwise eqb (take 3 xs) mark ≡ false → bad ≡ read line
  read_unmarked h = not_marked _ _ _ _ (sym (marked_is xs) ∙ h) ∙ by_parts

  -- behind the mark the hexadecimal digits hs, and the end of the line
  module _ (h : pointwise eqb (take 3 xs) mark ≡ true) (tail hs end : List ℕ) (t : tail ≡ drop 3 xs)
      (p : (hs ≡ front hexadecimal tail) × (end ≡ behind hexadecimal tail)) where
    m : marked xs ≡ true
    m = sym (marked_is xs) ∙ h

    by_code : read_parts ds xs hs end ≡ read line
    by_code = rw (p.0, p.1, t) by_parts

    pub read_unfit : fit ds xs hs end ≡ false → bad ≡ read line
    read_unfit f = not_fit _ _ _ _ m f ∙ by_code

    module _ (f : fit ds xs hs end ≡ true) (c : ℕ) (v : c ≡ value 16 0 hs) where
      pub read_unmapped : mapped c ≡ false → bad ≡ read line
      read_unmapped u = not_mapped _ _ _ _ m f (ap mapped (sym v) ∙ u) ∙ by_code

      pub read_entry : mapped c ≡ true → (n : ℕ) → n ≡ value 10 0 ds → entry n c ≡ read line
      read_entry u n w = rw (w, v) (is_entry_lem _ _ _ _ m f (ap mapped (sym v) ∙ u) ∙ by_code)

pub read_nothing : (line : List ℕ) → is_no_entry line ≡ true → no_entry ≡ read line
unfolding read
read_nothing line h = rw h
