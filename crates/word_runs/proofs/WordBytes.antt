-- Bytes in pairs, as words. Assumes nothing.
use mathlib.Core.Path.{◌≡◌, refl, ap, subst, ◌∙◌}
use mathlib.Core.Bool.{false}
use mathlib.Core.List.{List, [], ◌∷◌}
use Prim.Native.Nat.{ℕ, suc, ◌+◌, ◌*◌, ◌/◌, ◌%◌, ◌≤◌, ◌<◌}
use native.Mathlib.Omega.{arith}
use lib.Dec.{eqb}
use lib.ListN.{length, get_or, set}
use lib.Seq.{sets}
use borrow.Author.Tests.{eqb-true, eqb-false, eq-eqb, ne_eqb}
use Rattle.standard.specs.Sequences.Utf16.{unit}
use Rattle.standard.proofs.Tests.{split}
use Rattle.runs.specs.Run.{patch}
use Rattle.word_runs.specs.Units.{values, unit_at}
use Rattle.word_runs.specs.Bytes.{byte_of, Through}
use Rattle.runs.proofs.Patches.{patch_sets}
use Rattle.word_runs.proofs.Values.{values_at, values_same, wrote_on}

lower : (b c : ℕ) → b < 256 → unit false b c % 256 ≡ b
unfolding unit
lower b c h = omega arith

upper : (b c : ℕ) → b < 256 → unit false b c / 256 ≡ c
unfolding unit
upper b c h = omega arith

-- the bytes of a word
module _ (words : List ℕ) (k q : ℕ) where
  pub first_byte : k ≡ q * 2 → byte_of words k ≡ get_or words q 0 % 256
  first_byte e =
      let even : k % 2 ≡ 0 = omega arith in
      let half : k / 2 ≡ q = omega arith in
      rw (eq-eqb (k % 2) 0 even, half)

  pub second_byte : k ≡ q * 2 + 1 → byte_of words k ≡ get_or words q 0 / 256
  second_byte e =
      let half : k / 2 ≡ q = omega arith in
      rw (ne_eqb (k % 2) 0 (λ z. omega arith), half)

-- words of a chunk have its bytes
module _ (chunk : List ℕ) (at n : ℕ) (words : List ℕ) (e : words ≡ values (unit_at false chunk at) n) (p : (j : ℕ) → j < n → (get_or chunk (at + j * 2) 0 < 256) × (get_or chunk (at + j * 2 + 1) 0 < 256)) where
  word_at : (j : ℕ) → j < n → get_or words j 0 ≡ unit_at false chunk at j
  word_at j l = ap (λ (ws : List ℕ). get_or ws j 0) e ∙ values_at (unit_at false chunk at) n j l

  pub word_byte : (k : ℕ) → k < n * 2 → (get_or chunk (at + k) 0 < 256) × (byte_of words k ≡ get_or chunk (at + k) 0)
  word_byte k l = split (eqb (k % 2) 0)
      (λ t.
      let z = eqb-true (k % 2) 0 t in
      let place : at + k / 2 * 2 ≡ at + k = omega arith in
      let q = (p (k / 2) (omega arith)).0 in (
        subst (λ (i : ℕ). get_or chunk i 0 < 256) place q,
        first_byte words k (k / 2) (omega arith) ∙ ap (λ (u : ℕ). u % 256) (word_at (k / 2) (omega arith)) ∙ lower (get_or chunk (at + k / 2 * 2) 0) (get_or chunk (at + k / 2 * 2 + 1) 0) q ∙ ap (λ (i : ℕ). get_or chunk i 0) place,
      ))
      (λ t.
      let z = eqb-false (k % 2) 0 t in
      let place : at + k / 2 * 2 + 1 ≡ at + k = omega arith in
      let q = p (k / 2) (omega arith) in (
        subst (λ (i : ℕ). get_or chunk i 0 < 256) place q.1,
        second_byte words k (k / 2) (omega arith) ∙ ap (λ (u : ℕ). u / 256) (word_at (k / 2) (omega arith)) ∙ upper (get_or chunk (at + k / 2 * 2) 0) (get_or chunk (at + k / 2 * 2 + 1) 0) q.0 ∙ ap (λ (i : ℕ). get_or chunk i 0) place,
      ))

-- the cells of a word's bytes, written behind those before
module _ (low words : List ℕ) (j : ℕ) where
  pub word_more : (room₀ room room' : List ℕ) (o d q p : ℕ) → q * 2 ≡ j * 2 + d → p ≡ o + d → room ≡ patch o (values (λ (k : ℕ). get_or low (byte_of words (j * 2 + k)) 0) d) room₀ →
      room' ≡ sets room p (get_or low (get_or words q 0 % 256) 0 ∷ get_or low (get_or words q 0 / 256) 0 ∷ []) → o + d + 2 ≤ length room → o + d ≤ length room₀ →
      room' ≡ patch o (values (λ (k : ℕ). get_or low (byte_of words (j * 2 + k)) 0) (d + 2)) room₀
  unfolding values
  word_more room₀ room room' o d q p eq ep e e' h h₀ =
      let g : ℕ → ℕ = λ (k : ℕ). get_or low (byte_of words (q * 2 + k)) 0 in
      let a : g 0 ≡ get_or low (get_or words q 0 % 256) 0 = ap (λ (b : ℕ). get_or low b 0) (first_byte words (q * 2 + 0) q (omega arith)) in
      let b : g 1 ≡ get_or low (get_or words q 0 / 256) 0 = ap (λ (b : ℕ). get_or low b 0) (second_byte words (q * 2 + 1) q refl) in
      let two : room' ≡ patch (o + d) (g 0 ∷ g 1 ∷ []) room = e' ∙ rw (a, b, ep) (patch_sets room (o + d) (get_or low (get_or words q 0 % 256) 0 ∷ get_or low (get_or words q 0 / 256) 0 ∷ []) h) in
      wrote_on room₀ room room' o (λ (k : ℕ). get_or low (byte_of words (j * 2 + k)) 0) g d 2 e two (λ k l. let z : q * 2 + k ≡ j * 2 + (d + k) = omega arith in ap (λ (i : ℕ). get_or low (byte_of words i) 0) z) h₀

  -- and those of n bytes of words from q on
  pub words_more : (room₀ room room' : List ℕ) (o d q p n : ℕ) → q * 2 ≡ j * 2 + d → p ≡ o + d → room ≡ patch o (values (λ (k : ℕ). get_or low (byte_of words (j * 2 + k)) 0) d) room₀ →
      room' ≡ patch p (values (λ (k : ℕ). get_or low (byte_of words (q * 2 + k)) 0) n) room → o + d ≤ length room₀ →
      room' ≡ patch o (values (λ (k : ℕ). get_or low (byte_of words (j * 2 + k)) 0) (d + n)) room₀
  words_more room₀ room room' o d q p n eq ep e e' h =
      wrote_on room₀ room room' o (λ (k : ℕ). get_or low (byte_of words (j * 2 + k)) 0) (λ (k : ℕ). get_or low (byte_of words (q * 2 + k)) 0) d n e (rw ep at e')
      (λ k l. let z : q * 2 + k ≡ j * 2 + (d + k) = omega arith in ap (λ (i : ℕ). get_or low (byte_of words i) 0) z) h

-- words of a chunk through a table
pub words_through : (table chunk words : List ℕ) (at n o : ℕ) (room room' : List ℕ) → words ≡ values (unit_at false chunk at) n →
    ((j : ℕ) → j < n → (get_or chunk (at + j * 2) 0 < 256) × (get_or chunk (at + j * 2 + 1) 0 < 256)) →
    room' ≡ patch o (values (λ (k : ℕ). get_or table (byte_of words k) 0) (n * 2)) room → Through (λ (b : ℕ). get_or table b 0) chunk at (n * 2) o room room'
words_through table chunk words at n o room room' e p q = record {
  bytes = λ j l. (word_byte chunk at n words e p j l).0;
  wrote = q ∙ ap (λ (cs : List ℕ). patch o cs room) (values_same (λ (k : ℕ). get_or table (byte_of words k) 0) (λ (j : ℕ). get_or table (get_or chunk (at + j) 0) 0) (n * 2)
      (λ j l. ap (λ (b : ℕ). get_or table b 0) (word_byte chunk at n words e p j l).1));
}

-- two cells in one number
pub parts : (x y h : ℕ) → x < 4294967296 → h ≡ y * 4294967296 → ((x + h) % 4294967296 ≡ x) × ((x + h) / 4294967296 ≡ y)
parts x y h l e = (omega arith, omega arith)

-- two stores
pub two_sets : (r : List ℕ) (o a b : ℕ) → set (set r o a) (o + 1) b ≡ sets r o (a ∷ b ∷ [])
two_sets r o a b =
    let z : o + 1 ≡ suc o = omega arith in
    rw z
