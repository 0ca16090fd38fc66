-- The lines of the report: of cells joined, and one line more. Assumes nothing.
use mathlib.Core.Path.{◌≡◌, refl, sym, ap, ◌∙◌}
use mathlib.Core.List.{List, [], ◌∷◌, ◌++◌, append_assoc, append-nil}
use Prim.Native.Nat.{ℕ, zero, suc, ◌+◌, ◌*◌, ◌≤◌, ◌<◌}
use native.Mathlib.Omega.{arith}
use lib.ListN.{length, get_or, take, drop, set, length-append}
use lib.Seq.{drop-cons, take-add, length-take-le}
use Rattle.standard.specs.Text.{bytes}
use Rattle.replacements_spec.specs.Replaced.{Replaced, cells}
use Rattle.replacements_spec.proofs.Spans.{cells_length}
use Rattle.program_text.specs.Lines.{count}
use Rattle.program_text.specs.Places.{Put}
use Rattle.program_text.proofs.Numbers.{count_few}
use Rattle.program_text.proofs.Texts.{same, then_put, then_byte}
use Rattle.mend_spec.specs.Mended.{span_line, span_lines}

-- cells of whole sequences, and more behind them
pub lines_append : (k : ℕ) (xs ys : List ℕ) → length xs ≡ 2 * k → span_lines (xs ++ ys) ≡ span_lines xs ++ span_lines ys
unfolding span_lines
lines_append zero [] ys h = refl
lines_append zero (x ∷ xs) ys h = absurd (omega arith)
lines_append (suc k) [] ys h = absurd (omega arith)
lines_append (suc k) (x ∷ []) ys h = absurd (omega arith)
lines_append (suc k) (x ∷ y ∷ xs) ys h =
    ap (λ (l : List ℕ). span_line x y ++ l) (lines_append k xs ys (omega arith)) ∙ sym (append_assoc (span_line x y) (span_lines xs) (span_lines ys))

pub lines_of : (rs : List Replaced) (ys : List ℕ) → span_lines (cells rs ++ ys) ≡ span_lines (cells rs) ++ span_lines ys
lines_of rs ys = lines_append (length rs) (cells rs) ys (cells_length rs)

pub span_few : (place width : ℕ) → length (span_line place width) ≤ 49
unfolding bytes
span_few place width = omega (
  arith,
  count_few place,
  count_few width,
  length-append (count place) (0x09 ∷ (count width ++ bytes "\tU+FFFD\n")),
  length-append (count width) (bytes "\tU+FFFD\n"),
)

-- one line more
module _ (spans : List ℕ) (k : ℕ) (h : 2 * k + 1 < length spans) where
  two_more : take (2 * (k + 1)) spans ≡ take (2 * k) spans ++ get_or spans (2 * k) 0 ∷ get_or spans (2 * k + 1) 0 ∷ []
  two_more =
      let e : 2 * (k + 1) ≡ 2 * k + 2 = omega arith in
      let one : suc (2 * k) ≡ 2 * k + 1 = omega arith in
      ap (λ (n : ℕ). take n spans) e ∙ take-add (2 * k) 2 spans ∙
      ap (λ (l : List ℕ). take (2 * k) spans ++ take 2 l)
      (drop-cons spans (2 * k) 0 (omega arith) ∙
      ap (λ (n : ℕ). get_or spans (2 * k) 0 ∷ drop n spans) one ∙
      ap (λ (l : List ℕ). get_or spans (2 * k) 0 ∷ l) (drop-cons spans (2 * k + 1) 0 h))

  pub lines_more : span_lines (take (2 * k) spans) ++ span_line (get_or spans (2 * k) 0) (get_or spans (2 * k + 1) 0) ≡ span_lines (take (2 * (k + 1)) spans)
  unfolding span_lines
  lines_more = sym (ap span_lines two_more ∙ lines_append k (take (2 * k) spans) _ (length-take-le (2 * k) spans (omega arith)) ∙
      ap (λ (l : List ℕ). span_lines (take (2 * k) spans) ++ l) (append-nil _))

pub lines_few : (k : ℕ) (xs : List ℕ) → length xs ≡ 2 * k → length (span_lines xs) ≤ 49 * k
unfolding span_lines
lines_few zero [] h = omega arith
lines_few zero (x ∷ xs) h = absurd (omega arith)
lines_few (suc k) [] h = absurd (omega arith)
lines_few (suc k) (x ∷ []) h = absurd (omega arith)
lines_few (suc k) (x ∷ y ∷ xs) h = rw length-append (omega (arith, span_few x y, lines_few k xs (omega arith)))

-- a line put by its parts
pub put_line : (room : List ℕ) (at place width : ℕ) {tab end to : ℕ} {a b c : List ℕ} → Put room at (count place) tab a →
    Put (set a tab 0x09) (tab + 1) (count width) end b → Put b end (bytes "\tU+FFFD\n") to c → Put room at (span_line place width) to c
put_line room at place width p q r = same (simp append_assoc) (then_put (then_put (then_byte 0x09 p) q) r)
