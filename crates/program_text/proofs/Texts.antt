-- What is written into a room of bytes, from a place on. Assumes nothing.
use mathlib.Core.Path.{◌≡◌, refl, sym, ap, ◌∙◌}
use mathlib.Core.List.{List, [], ◌∷◌, ◌++◌, append_assoc}
use Prim.Native.Nat.{ℕ, zero, suc, ◌+◌, ◌-◌, ◌/◌, ◌%◌, ◌≤◌, ◌<◌}
use native.Mathlib.Nat.{add-zero}
use native.Mathlib.Omega.{arith}
use lib.ListN.{length, take, set, length-append}
use lib.Seq.{sets, sets-eq, take_all}
use lib.ListN.{drop}
use Rattle.std.proofs.lemmas.List.{drop-drop, take_rest}
use mathlib.Core.Logic.{◌⊎◌}
use borrow.Rule.Slice.PartMut.{put_mid}
use Rattle.program_text.specs.Lines.{digit, digits, count, line}
use Rattle.program_text.specs.Places.{Put}
use Rattle.program_text.proofs.Numbers.{no_digit, last, count_few}

-- Stores one after the other.
pub sets_append : (l : List ℕ) (i : ℕ) (us vs : List ℕ) → sets l i (us ++ vs) ≡ sets (sets l i us) (i + length us) vs
sets_append l i [] vs = rw (add-zero i)
sets_append l i (u ∷ us) vs = let e : i + suc (length us) ≡ suc i + length us = omega arith in rw e (sets_append (set l i u) (suc i) us vs)

module _ {room : List ℕ} {at : ℕ} where
  -- an equal text
  pub same : {us vs : List ℕ} {place : ℕ} {after : List ℕ} → us ≡ vs → Put room at us place after → Put room at vs place after
  same e p = record { behind = p.behind ∙ ap (λ (l : List ℕ). at + length l) e; stands = p.stands ∙ ap (λ (l : List ℕ). sets room at l) e }

  -- a second text behind a first
  pub then_put : {us vs : List ℕ} {place place' : ℕ} {after after' : List ℕ} → Put room at us place after → Put after place vs place' after' → Put room at (us ++ vs) place' after'
  then_put {us} {vs} p q = record {
    behind = omega (arith, p.behind, q.behind, length-append us vs);
    stands = q.stands ∙ rw (p.behind, p.stands) (sym (sets_append room at us vs));
  }

  -- one byte behind a text
  pub then_byte : {us : List ℕ} {place : ℕ} {after : List ℕ} (b : ℕ) → Put room at us place after → Put room at (us ++ (b ∷ [])) (place + 1) (set after place b)
  then_byte b p = then_put p (record { behind = refl; stands = refl })

  pub nothing : Put room at [] at room
  nothing = record { behind = sym (add-zero at); stands = refl }

drop_set : (l : List ℕ) (i v : ℕ) → i < length l → drop i (set l i v) ≡ v ∷ drop (suc i) l
drop_set [] i v h = absurd (omega arith)
drop_set (x ∷ l) zero v h = refl
drop_set (x ∷ l) (suc i) v h = drop_set l i v (omega arith)

-- Digits made from the last to the first: those from `start` on stand in a text, and those in front of them belong to the number that is left.
module _ (b : ℕ) (all text : List ℕ) (start owed left : ℕ) (made : all ≡ digits b start owed left ++ drop start text) where
  -- one digit more
  pub made_more : (rest v : ℕ) → 0 < start → start ≤ length text → (owed ≡ 0 → left ≡ 0 → ⊥) → rest ≡ owed - 1 → v ≡ digit (left % b) →
      all ≡ digits b (start - 1) rest (left / b) ++ drop (start - 1) (set text (start - 1) v)
  made_more rest v p h g e d =
      let k : suc (start - 1) ≡ start = omega arith in
      let q = drop_set text (start - 1) v (omega arith) in
      made ∙ rw (last b start owed left p g, e, q, k, d) (append_assoc (digits b (start - 1) (owed - 1) (left / b)) (digit (left % b) ∷ []) (drop start text))

  -- all of them
  pub made_all : (start ≡ 0) ⊎ ((owed ≡ 0) × (left ≡ 0)) → take (length text - start) (drop start text) ≡ all
  made_all h = take_rest text start ∙ sym (made ∙ rw (no_digit b start owed left h))

-- the digits of a code point below 0x10000
pub four : (c : ℕ) → c < 0x10000 → {u v x y : ℕ} → u ≡ digit (c / 0x1000) → v ≡ digit (c / 0x100 % 16) → x ≡ digit (c / 16 % 16) → y ≡ digit (c % 16) →
    u ∷ v ∷ x ∷ y ∷ [] ≡ digits 16 8 4 c
unfolding digits
four c h p q r s =
    let z : c / 16 / 16 / 16 / 16 ≡ 0 = omega arith in
    let i : c / 16 / 16 / 16 % 16 ≡ c / 0x1000 = omega arith in
    let j : c / 16 / 16 % 16 ≡ c / 0x100 % 16 = omega arith in
    rw (p, q, r, s, z, i, j)

-- A line.
module _ (room : List ℕ) (at : ℕ) where
  pub put_line : (us vs : List ℕ) {tab end : ℕ} {a b : List ℕ} → Put room at us tab a → Put (set a tab 0x09) (tab + 1) vs end b → Put room at (line us vs) (end + 1) (set b end 0x0A)
  put_line us vs p q = same (simp append_assoc) (then_byte 0x0A (then_put (then_byte 0x09 p) q))

-- The same, of four texts one behind the other.
pub put_four : {room : List ℕ} {at : ℕ} (us vs : List ℕ) {tab number end next : ℕ} {a b c d : List ℕ} → Put room at us tab a → Put a tab (0x09 ∷ []) number b →
    Put b number vs end c → Put c end (0x0A ∷ []) next d → Put room at (line us vs) next d
put_four us vs p q r s = same (simp append_assoc) (then_put (then_put (then_put p q) r) s)

pub number_few : (word : List ℕ) (n : ℕ) → length (line word (count n)) ≤ length word + 22
number_few word n = omega (arith, count_few n, length-append word (0x09 ∷ count n ++ (0x0A ∷ [])), length-append (count n) (0x0A ∷ []))

-- the whole of a list
pub put_all : {room : List ℕ} {at : ℕ} (f : List ℕ → List ℕ) (cs : List ℕ) (i : ℕ) → length cs ≤ i → {o : ℕ} {a : List ℕ} → Put room at (f (take i cs)) o a → Put room at (f cs) o a
put_all f cs i h p = same (ap f (take_all i cs h)) p

-- a copy into a part of the room
pub put_copy : (room bs : List ℕ) (at : ℕ) {new : List ℕ} → at + length bs ≤ length room → new ≡ bs →
    Put room at bs (at + length bs) (put_mid at (at + length bs - at) room new)
put_copy room bs at h e =
    let k : at + length bs - at ≡ length bs = omega arith in
    let d : drop (length bs) (drop at room) ≡ drop (at + length bs) room = drop-drop (length bs) at room in
    record { behind = refl; stands = rw (e, k, d) (sym (sets-eq bs room at h ∙ append_assoc (take at room) bs (drop (at + length bs) room))) }
