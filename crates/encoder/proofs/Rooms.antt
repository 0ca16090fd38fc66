-- Bytes written into a room: copied ones, and the digits of a reference. Assumes nothing.
use mathlib.Core.Path.{◌≡◌, refl, sym, ap, ◌∙◌}
use mathlib.Core.List.{List, [], ◌∷◌, ◌++◌, append_assoc}
use Prim.Native.Nat.{ℕ, zero, suc, ◌+◌, ◌*◌, ◌/◌, ◌%◌, ◌≤◌, ◌<◌}
use native.Mathlib.Nat.{add-zero}
use native.Mathlib.Numerals.{add-one}
use native.Mathlib.Omega.{arith}
use lib.Dec.{ltb}
use lib.ListN.{length, set, take, drop, length-append}
use lib.Seq.{sets, sets-eq, drop-drop}
use borrow.Rule.Slice.PartMut.{put_mid}
use borrow.Author.Tests.{ltb-true, ltb-false, lt-ltb, le-ltb}
use Rattle.standard.specs.Machine.{digits, reference}
use Rattle.standard.proofs.Tests.{split}

-- Digits: any count of turns that suffices gives the same.
digits_one : (n c : ℕ) → c < 10 → digits n c ≡ (0x30 + c) ∷ []
unfolding digits
digits_one zero c h = refl
digits_one (suc n) c h = rw (lt-ltb c 10 h, digits)

digits_step : (n c : ℕ) → 10 ≤ c → digits (suc n) c ≡ digits n (c / 10) ++ (0x30 + c % 10) ∷ []
unfolding digits
digits_step n c h = rw (le-ltb c 10 h, digits)

before_last : (c : ℕ) {us vs : List ℕ} → us ≡ vs → us ++ (0x30 + c % 10) ∷ [] ≡ vs ++ (0x30 + c % 10) ∷ []
before_last c e = ap (λ (l : List ℕ). l ++ (0x30 + c % 10) ∷ []) e

digits_enough : (n m c : ℕ) → c ≤ n → c ≤ m → digits n c ≡ digits m c
digits_enough zero m c h g = digits_one zero c (omega arith) ∙ sym (digits_one m c (omega arith))
digits_enough (suc n) zero c h g = digits_one (suc n) c (omega arith) ∙ sym (digits_one zero c (omega arith))
digits_enough (suc n) (suc m) c h g = split (ltb c 10)
    (λ e. let l : c < 10 = ltb-true c 10 e in digits_one (suc n) c l ∙ sym (digits_one (suc m) c l))
    (λ e. let l : 10 ≤ c = ltb-false c 10 e in
    digits_step n c l ∙ before_last c (digits_enough n m (c / 10) (omega arith) (omega arith)) ∙ sym (digits_step m c l))

digits_more : (c : ℕ) → 10 ≤ c → digits c c ≡ digits (c / 10) (c / 10) ++ (0x30 + c % 10) ∷ []
digits_more c h =
    digits_enough c (suc c) c (omega arith) (omega arith) ∙ digits_step c c h ∙
    before_last c (digits_enough c (c / 10) (c / 10) (omega arith) (omega arith))

pub digits_one_length : (c : ℕ) → c < 10 → 1 ≡ length (digits c c)
digits_one_length c h = rw (digits_one c c h)

pub digits_more_length : (c : ℕ) → 10 ≤ c → (r : ℕ) → r ≡ length (digits (c / 10) (c / 10)) → r + 1 ≡ length (digits c c)
digits_more_length c h r e = rw (digits_more c h, length-append) (omega (arith, e))

pub reference_length : (c : ℕ) → length (reference c) ≡ length (digits c c) + 3
unfolding reference
reference_length c = omega (arith, length-append (digits c c) (0x3B ∷ []))

-- a number has at most seven digits below 10,000,000
tens : ℕ → ℕ
tens zero = 10
tens (suc k) = 10 * tens k

digits_below : (k c : ℕ) → c < tens k → length (digits c c) ≤ suc k
unfolding tens
digits_below zero c h = omega (arith, digits_one_length c h)
digits_below (suc k) c h = split (ltb c 10)
    (λ e. omega (arith, digits_one_length c (ltb-true c 10 e)))
    (λ e. omega (arith, digits_more_length c (ltb-false c 10 e) (length (digits (c / 10) (c / 10))) refl, digits_below k (c / 10) (omega arith)))

pub reference_most : (c : ℕ) → c ≤ 0x10FFFF → length (reference c) ≤ 10
unfolding tens
reference_most c h = omega (arith, reference_length c, digits_below 6 c (omega arith))

-- and ten in 32 bits
pub reference_wide : (c : ℕ) → c < 0x100000000 → length (reference c) ≤ 13
unfolding tens
reference_wide c h = omega (arith, reference_length c, digits_below 9 c (omega arith))

-- Stores one after the other.
pub sets_append : (l : List ℕ) (i : ℕ) (us vs : List ℕ) → sets l i (us ++ vs) ≡ sets (sets l i us) (i + length us) vs
sets_append l i [] vs = rw (add-zero i)
sets_append l i (u ∷ us) vs = let e : i + suc (length us) ≡ suc i + length us = omega arith in rw e (sets_append (set l i u) (suc i) us vs)

module _ (room : List ℕ) (at : ℕ) where
  -- a place and a room, for an equal list
  pub same_list : {bs cs : List ℕ} {r : ℕ} {after : List ℕ} → bs ≡ cs → (r ≡ at + length bs) × (after ≡ sets room at bs) →
      (r ≡ at + length cs) × (after ≡ sets room at cs)
  same_list e w = (w.0 ∙ ap (λ (l : List ℕ). at + length l) e, w.1 ∙ ap (λ (l : List ℕ). sets room at l) e)

  pub put_one_digit : (c v : ℕ) → c < 10 → v ≡ 0x30 + c → (at + 1 ≡ at + length (digits c c)) × (set room at v ≡ sets room at (digits c c))
  put_one_digit c v h e = same_list (sym (digits_one c c h)) (refl, rw e)

  pub put_more_digits : (c v last : ℕ) (after : List ℕ) → 10 ≤ c → last ≡ at + length (digits (c / 10) (c / 10)) →
      after ≡ sets room at (digits (c / 10) (c / 10)) → v ≡ 0x30 + c % 10 →
      (last + 1 ≡ at + length (digits c c)) × (set after last v ≡ sets room at (digits c c))
  put_more_digits c v last after h p q e = same_list (sym (digits_more c h)) (
    omega (arith, p, length-append (digits (c / 10) (c / 10)) ((0x30 + c % 10) ∷ [])),
    rw (p, q, e) (sym (sets_append room at (digits (c / 10) (c / 10)) ((0x30 + c % 10) ∷ []))),
  )

  -- the digits written before the last one have room
  pub digits_room : (c n : ℕ) → 10 ≤ c → at + length (digits c c) ≤ n → at + length (digits (c / 10) (c / 10)) + 1 ≤ n
  digits_room c n h g = omega (arith, digits_more_length c h (length (digits (c / 10) (c / 10))) refl)

  pub put_reference : (c last : ℕ) (after : List ℕ) → last ≡ at + 2 + length (digits c c) →
      after ≡ sets (set (set room at 0x26) (at + 1) 0x23) (at + 2) (digits c c) →
      (last + 1 ≡ at + length (reference c)) × (set after last 0x3B ≡ sets room at (reference c))
  unfolding reference
  put_reference c last after p q = (omega (arith, p, length-append (digits c c) (0x3B ∷ [])), rw (p, q) (sym (sets_append front (at + 2) (digits c c) (0x3B ∷ [])) ∙ places))
    where
      front : List ℕ
      front = set (set room at 0x26) (at + 1) 0x23

      places : sets front (at + 2) (digits c c ++ 0x3B ∷ []) ≡ sets room at (0x26 ∷ 0x23 ∷ (digits c c ++ 0x3B ∷ []))
      places = let two : at + 2 ≡ suc (suc at) = omega arith in rw (two, add-one)

-- bytes copied into a part of a room
pub copied : (room bytes part : List ℕ) (at k : ℕ) → at + k ≤ length room → part ≡ bytes → length bytes ≡ k →
    put_mid at k room part ≡ sets room at bytes
copied room bytes part at k h e l =
    ap (put_mid at k room) e ∙ sym (append_assoc (take at room) bytes (drop k (drop at room))) ∙
    ap (λ (r : List ℕ). (take at room ++ bytes) ++ r) (drop-drop k at room ∙ ap (λ (n : ℕ). drop (at + n) room) (sym l)) ∙
    sym (sets-eq bytes room at (omega (arith, l)))
