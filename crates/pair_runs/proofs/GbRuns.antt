-- gb18030 at a place of the chunk, by its bytes. Assumes nothing.
use mathlib.Core.Path.{◌≡◌, ◌∙◌}
use mathlib.Core.Bool.{true, false, ◌||◌}
use mathlib.Core.List.{List, []}
use Prim.Native.Nat.{ℕ, ◌+◌, ◌≤◌}
use native.Mathlib.Omega.{arith}
use lib.Dec.{ltb}
use lib.ListN.{length, drop, get_or}
use Rattle.standard.specs.Base.{within, mapped}
use Rattle.standard.specs.Encodings.{Tables, GB18030, lent}
use Rattle.standard.specs.Sequence.{code, scalar, plain}
use Rattle.standard.specs.Sequences.Gb18030.{gb18030, gb18030_range, gb18030_four_code, gb18030_four_pointer}
use Rattle.standard.specs.Next.{next}
use Rattle.layouts.specs.Fours.{four_pointer}
use Rattle.layouts.proofs.Fours.{four_in, four_ranges, told}
use Rattle.sequences.specs.Code.{front}
use Rattle.sequences.proofs.Leaves.{code_some}
use Rattle.sequences.proofs.Gb18030Leaves.{gb18030_third_lem, fourth_digit, four_mapped}
use Rattle.runs.proofs.Fronts.{front_four}

module _ (t : Tables) (chunk : List ℕ) (i : ℕ) (h : i + 4 ≤ length chunk) where
  pub at_front : gb18030 t (front 4 (get_or chunk i 0) (get_or chunk (i + 1) 0) (get_or chunk (i + 2) 0) (get_or chunk (i + 3) 0)) ≡ next t GB18030 plain (drop i chunk)
  unfolding next
  at_front = front_four t GB18030 plain chunk i h

-- four bytes that have a pointer
pub four_front : (b c d e : ℕ) → four_pointer b c d e ≤ 1237575 → (t : Tables) → gb18030 t (front 4 b c d e) ≡ code 4 (gb18030_four_code t.second (four_pointer b c d e))
four_front b c d e h t =
    let r = four_ranges b c d e h in
    let z : four_pointer b c d e ≡ gb18030_four_pointer b c d e = four_in b c d e r.0 r.1 r.2 r.3 in
    gb18030_third_lem t 4 b c d e [] r.0 r.1 (omega arith) ∙ fourth_digit t.second 4 b c d e [] r.2 (omega arith) r.3 ∙ rw z

-- four bytes whose pointer a range tells
pub four_told : (ranges : List ℕ) (p r : ℕ) (b c d e : ℕ) → p ≡ four_pointer b c d e →
    within 39420 p 188999 || ltb 1237575 p ≡ false → (p ≡ 7457 → ⊥) → r ≡ gb18030_range ranges p 0 → mapped r ≡ true → (r ≡ 0 → ⊥) →
    (first : List ℕ) → gb18030 (lent first ranges) (front 4 b c d e) ≡ scalar 4 r
four_told ranges p r b c d e h g n q m z first =
    let l = told p g in
    four_front b c d e (omega (arith, h, l)) (lent first ranges) ∙ rw (← h, four_mapped ranges p g n r q m) (code_some 4 r z)
