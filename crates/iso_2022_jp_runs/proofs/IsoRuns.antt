-- ISO-2022-JP in a run: a byte in the state of ASCII, and a pair. Assumes nothing.
use mathlib.Core.Path.{◌≡◌, refl, sym, subst, ◌∙◌}
use mathlib.Core.Bool.{Bool, true, false, ◌||◌}
use mathlib.Core.List.{List, [], ◌∷◌}
use Prim.Native.Nat.{ℕ, ◌+◌, ◌/◌, ◌≤◌, ◌<◌}
use native.Mathlib.Omega.{arith}
use native.Mathlib.Nat.{add-zero}
use lib.Dec.{eqb}
use lib.ListN.{length, drop, get_or, set}
use borrow.Author.Tests.{le-leb, lt-leb, ne_eqb, eqb-true, eqb-false}
use Rattle.standard.specs.Layouts.{pair_code, iso2022_jp_layout}
use Rattle.standard.specs.Encodings.{ISO-2022-JP, Tables, lent}
use Rattle.standard.specs.Sequence.{text, error, item, shift}
use Rattle.standard.specs.Sequences.Iso2022Jp.{escaped, iso2022_jp, byte_out}
use Rattle.standard.specs.Next.{next}
use Rattle.standard.specs.Decode.{given}
use Rattle.standard.proofs.Layouts.{pair_found}
use Rattle.standard.proofs.Tests.{within_low}
use Rattle.runs.specs.Run.{Gives, Ready}
use Rattle.runs.proofs.Running.{Going, going_start, going_one}
use Rattle.runs.proofs.Fronts.{byte_at, two_at, three_at}

-- what a byte gives in the state of ASCII
module _ (b : ℕ) where
  pub byte_high : 0x80 ≤ b → byte_out 0 b ≡ error
  unfolding byte_out
  byte_high h = rw (le-leb 0x80 b h)

  pub byte_text : b < 0x80 → (b ≡ 0x0E → ⊥) → (b ≡ 0x0F → ⊥) → byte_out 0 b ≡ text (b ∷ [])
  unfolding byte_out
  byte_text h n m = rw (lt-leb 0x80 b h, ne_eqb b 0x0E n, ne_eqb b 0x0F m)

  byte_0e : b ≡ 0x0E → byte_out 0 b ≡ error
  unfolding byte_out
  byte_0e h = rw h

  byte_0f : b ≡ 0x0F → byte_out 0 b ≡ error
  unfolding byte_out
  byte_0f h = rw h

  pub byte_half : b / 2 ≡ 7 → byte_out 0 b ≡ error
  byte_half h = go (eqb b 0x0E) refl
    where
      go : (u : Bool) → eqb b 0x0E ≡ u → byte_out 0 b ≡ error
      go true e = byte_0e (eqb-true b 0x0E e)
      go false e = let n : b ≡ 0x0E → ⊥ = eqb-false b 0x0E e in byte_0f (omega arith)

  pub half_other : (b / 2 ≡ 7 → ⊥) → (b ≡ 0x0E → ⊥) × (b ≡ 0x0F → ⊥)
  half_other n = (λ e. n (omega arith), λ e. n (omega arith))

-- a byte in the state of ASCII, where an error counts or is none
module _ (t : Tables) (m : ℕ) (f : Bool) (b r : ℕ) (xs : List ℕ) (n : b ≡ 0x1B → ⊥) where
  byte_next : next t ISO-2022-JP (shift 0 f) (b ∷ xs) ≡ item 1 (shift 0 false) (byte_out 0 b)
  unfolding next iso2022_jp
  byte_next = rw (ne_eqb b 0x1B n)

  differs : text (b ∷ []) ≡ error → ⊥
  differs q = let z : ◌≡◌ {A = ℕ} 0 1 = cc in absurd (omega arith)

  pub byte_gives : (m ≡ 1 → (b < 0x80) × (b ≡ 0x0E → ⊥) × (b ≡ 0x0F → ⊥)) → given (byte_out 0 b) ≡ r ∷ [] → Gives m (next t ISO-2022-JP (shift 0 f) (b ∷ xs)) 1 (shift 0 false) r
  byte_gives h g = record { out = byte_out 0 b; is = byte_next; gives = g; allowed = λ e q. let k = h e in differs (sym (byte_text b k.0 k.1 k.2) ∙ q) }

-- a pair that the index has
pub pair_next : (index : List ℕ) (lead trail r : ℕ) → r ≡ pair_code iso2022_jp_layout index lead trail → (r ≡ 0 → ⊥) →
    (second : List ℕ) (f : Bool) (xs : List ℕ) → next (lent index second) ISO-2022-JP (shift 3 f) (lead ∷ trail ∷ xs) ≡ item 2 (shift 3 false) (text (r ∷ []))
unfolding next iso2022_jp
pair_next index lead trail r e z second f xs =
    let h = pair_found iso2022_jp_layout index lead trail (λ y. z (e ∙ y)) in
    let a : lead ≡ 0x1B → ⊥ = λ q. omega (arith, within_low 0x21 lead 0x7E h.0) in
    let b : trail ≡ 0x1B → ⊥ = λ q. omega (arith, within_low 0x21 trail 0x7E h.1) in
    rw (ne_eqb lead 0x1B a, h.0, ne_eqb trail 0x1B b, ← e, ne_eqb r 0 z)

-- at a place of the chunk
module _ (m : ℕ) (chunk : List ℕ) (i : ℕ) (f : Bool) where
  pub byte_there : (t : Tables) → i < length chunk → (get_or chunk i 0 ≡ 0x1B → ⊥) → (m ≡ 1 → (get_or chunk i 0 < 0x80) × (get_or chunk i 0 ≡ 0x0E → ⊥) × (get_or chunk i 0 ≡ 0x0F → ⊥)) →
      (r : ℕ) → given (byte_out 0 (get_or chunk i 0)) ≡ r ∷ [] → Gives m (next t ISO-2022-JP (shift 0 f) (drop i chunk)) 1 (shift 0 false) r
  byte_there t h n k r g =
      subst (λ (xs : List ℕ). Gives m (next t ISO-2022-JP (shift 0 f) xs) 1 (shift 0 false) r) (sym (byte_at chunk i h)) (byte_gives t m f (get_or chunk i 0) r (drop (i + 1) chunk) n k g)

  pub pair_there : (t : Tables) → i + 1 < length chunk → (r : ℕ) →
      ((xs : List ℕ) → next t ISO-2022-JP (shift 3 f) (get_or chunk i 0 ∷ get_or chunk (i + 1) 0 ∷ xs) ≡ item 2 (shift 3 false) (text (r ∷ []))) →
      Gives m (next t ISO-2022-JP (shift 3 f) (drop i chunk)) 2 (shift 3 false) r
  pair_there t h r e = record { out = text (r ∷ []); is = rw (two_at chunk i h) (e (drop (i + 2) chunk)); gives = refl; allowed = λ a q. let z : ◌≡◌ {A = ℕ} 0 1 = cc in absurd (omega arith) }

-- four bytes in the state of ASCII, one after another
module _ (t : Tables) (m : ℕ) (n : m ≡ 1 → ⊥) (chunk : List ℕ) (at w : ℕ) (inside : at + 4 ≤ length chunk)
    (free : (j : ℕ) → j < 4 → get_or chunk (at + j) 0 ≡ 0x1B → ⊥) where
  abbrev Come : Bool → Bool → ℕ → List ℕ → List ℕ → Type 0
  Come f g j = Going t ISO-2022-JP m chunk at (at + j) (shift 0 f) (shift 0 g) w (w + j)

  one_more : (f g : Bool) (j : ℕ) (room₀ room : List ℕ) → Come f g j room₀ room → j < 4 →
      (r : ℕ) → given (byte_out 0 (get_or chunk (at + j) 0)) ≡ r ∷ [] → Come f false (j + 1) room₀ (set room (w + j) r)
  one_more f g j room₀ room G h r e =
      let i : at + j + 1 ≡ at + (j + 1) = omega arith in
      let o : w + j + 1 ≡ w + (j + 1) = omega arith in
      rw (i, o) at (going_one G (byte_there m chunk (at + j) g t (omega arith) (free j h) (λ z. absurd (n z)) r e))

  pub four_bytes : (f : Bool) (room : List ℕ) → Ready chunk at room w → (a b c d : ℕ) →
      given (byte_out 0 (get_or chunk at 0)) ≡ a ∷ [] → given (byte_out 0 (get_or chunk (at + 1) 0)) ≡ b ∷ [] →
      given (byte_out 0 (get_or chunk (at + 2) 0)) ≡ c ∷ [] → given (byte_out 0 (get_or chunk (at + 3) 0)) ≡ d ∷ [] →
      Come f false 4 room (set (set (set (set room w a) (w + 1) b) (w + 2) c) (w + 3) d)
  four_bytes f room h a b c d e₀ e₁ e₂ e₃ =
      let first = rw (add-zero at) at (free 0 (omega arith)) in
      let one = going_one (going_start h) (byte_there m chunk at f t (omega arith) first (λ z. absurd (n z)) a e₀) in
      let two = one_more f false 1 room _ one (omega arith) b e₁ in
      let three = one_more f false 2 room _ two (omega arith) c e₂ in
      one_more f false 3 room _ three (omega arith) d e₃

-- an escape at a place of the chunk, where something came since the one before
pub escape_there : (chunk : List ℕ) (i flag s : ℕ) → (flag ≡ 1 → ⊥) → i + 3 ≤ length chunk → get_or chunk i 0 ≡ 0x1B →
    eqb (get_or chunk (i + 1) 0) 0x24 || eqb (get_or chunk (i + 1) 0) 0x28 ≡ true → s < 4 →
    escaped (get_or chunk (i + 1) 0) (get_or chunk (i + 2) 0) ≡ s →
    (t : Tables) (state : ℕ) → next t ISO-2022-JP (shift state (eqb flag 1)) (drop i chunk) ≡ item 3 (shift s true) (text [])
unfolding next iso2022_jp
escape_there chunk i flag s n h b c l e t state =
    rw (three_at chunk i (omega arith), b, c, e, lt-leb 4 s (omega arith), ne_eqb flag 1 n)

-- the two escapes that a run reads
pub escape_to_pairs : (c d : ℕ) → d ≡ 0x42 → c ≡ 0x24 → (eqb c 0x24 || eqb c 0x28 ≡ true) × (3 < 4) × (escaped c d ≡ 3)
unfolding escaped
escape_to_pairs c d e f = rw (e, f) (refl, omega arith, refl)

pub escape_to_ascii : (c d : ℕ) → d ≡ 0x42 → c ≡ 0x28 → (eqb c 0x24 || eqb c 0x28 ≡ true) × (0 < 4) × (escaped c d ≡ 0)
unfolding escaped
escape_to_ascii c d e f = rw (e, f) (refl, omega arith, refl)
