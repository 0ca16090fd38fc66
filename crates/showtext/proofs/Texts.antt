-- What is written into a room of bytes, from a place on. Assumes nothing.
use mathlib.Core.Path.{◌≡◌, refl, sym, ap, ◌∙◌}
use mathlib.Core.List.{List, [], ◌∷◌, ◌++◌, append_assoc, append-nil}
use Prim.Native.Nat.{ℕ, suc, ◌+◌, ◌*◌, ◌≤◌, ◌<◌}
use native.Mathlib.Nat.{add-zero}
use native.Mathlib.Numerals.{add-one}
use native.Mathlib.Omega.{arith}
use lib.ListN.{length, get_or, take, set, length-append}
use lib.Seq.{take-suc, length-take-le}
use Rattle.standard.specs.Text.{bytes}
use Rattle.showtext.specs.Output.{digits, count, code_point, line, scalar_lines}
use Rattle.program_text.specs.Places.{Put}
use Rattle.program_text.proofs.Numbers.{count_few, hexadecimal_few}
pub use Rattle.program_text.proofs.Texts.{same, then_put, then_byte, nothing, number_few, put_line, put_all}

-- Lines.
module _ (room : List ℕ) (at : ℕ) where
  pub put_scalar : (n c : ℕ) {tab end : ℕ} {a b : List ℕ} → Put room at (count n) tab a → Put (set (set (set a tab 0x09) (tab + 1) 0x55) (tab + 2) 0x2B) (tab + 3) (digits 16 8 4 c) end b →
      Put room at (line (count n) (code_point c)) (end + 1) (set b end 0x0A)
  unfolding bytes
  put_scalar n c {tab} {end} {a} p q = same (append_assoc (count n) (0x09 ∷ 0x55 ∷ 0x2B ∷ digits 16 8 4 c) (0x0A ∷ [])) (then_byte 0x0A (then_put p (then_put three q)))
    where
      three : Put a tab (0x09 ∷ 0x55 ∷ 0x2B ∷ []) (tab + 3) (set (set (set a tab 0x09) (tab + 1) 0x55) (tab + 2) 0x2B)
      three = let two : tab + 2 ≡ suc (suc tab) = omega arith in record { behind = refl; stands = rw (two, add-one) refl }

-- The length of a scalar's line.
pub line_few : (n c : ℕ) → length (line (count n) (code_point c)) ≤ 32
unfolding bytes
line_few n c = omega (arith, count_few n, hexadecimal_few c, length-append (count n) (0x09 ∷ code_point c ++ (0x0A ∷ [])), length-append (digits 16 8 4 c) (0x0A ∷ []))

-- The lines of some scalars and of some more.
pub scalar_lines-append : (n : ℕ) (xs ys : List ℕ) → scalar_lines n (xs ++ ys) ≡ scalar_lines n xs ++ scalar_lines (n + length xs) ys
unfolding scalar_lines
scalar_lines-append n [] ys = rw (add-zero n)
scalar_lines-append n (x ∷ xs) ys =
    let z : n + suc (length xs) ≡ suc n + length xs = omega arith in
    ap (λ (l : List ℕ). line (count n) (code_point x) ++ l) (scalar_lines-append (suc n) xs ys) ∙ rw z (sym (append_assoc (line (count n) (code_point x)) (scalar_lines (suc n) xs) (scalar_lines (suc n + length xs) ys)))

pub lines_few : (n : ℕ) (cs : List ℕ) → length (scalar_lines n cs) ≤ 32 * length cs
unfolding scalar_lines
lines_few n [] = omega arith
lines_few n (c ∷ cs) = omega (arith, lines_few (suc n) cs, line_few n c, length-append (line (count n) (code_point c)) (scalar_lines (suc n) cs))

module _ (n : ℕ) (cs : List ℕ) (i : ℕ) (h : i < length cs) where
  -- one line more
  next_line : scalar_lines n (take i cs) ++ line (count (n + i)) (code_point (get_or cs i 0)) ≡ scalar_lines n (take (i + 1) cs)
  unfolding scalar_lines
  next_line = sym (rw (add-one, take-suc cs i 0 h, scalar_lines-append n (take i cs) (get_or cs i 0 ∷ []), length-take-le i cs (omega arith)) (ap (λ (l : List ℕ). scalar_lines n (take i cs) ++ l) (append-nil _)))

  pub put_next : {room : List ℕ} {at : ℕ} {o o' : ℕ} {a a' : List ℕ} → Put room at (scalar_lines n (take i cs)) o a → Put a o (line (count (n + i)) (code_point (get_or cs i 0))) o' a' →
      Put room at (scalar_lines n (take (i + 1) cs)) o' a'
  put_next p q = same next_line (then_put p q)

pub no_lines : (n : ℕ) {room : List ℕ} {at : ℕ} → Put room at (scalar_lines n []) at room
unfolding scalar_lines
no_lines n = nothing
