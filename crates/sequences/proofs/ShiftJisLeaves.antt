-- Shift_JIS, leaf by leaf. Assumes nothing.
use mathlib.Core.Path.{◌≡◌, sym, subst, ◌∙◌}
use mathlib.Core.Bool.{true, false}
use mathlib.Core.List.{List, ◌∷◌}
use Prim.Native.Nat.{ℕ, ◌+◌, ◌-◌, ◌≤◌, ◌<◌}
use lib.ListN.{take}
use native.Mathlib.Omega.{arith}
use borrow.Author.Tests.{le-leb, lt-leb}
use Rattle.standard.specs.Base.{within}
use Rattle.standard.specs.Encodings.{Tables}
use Rattle.standard.specs.Layouts.{leads, pointer_of, pair_code, shift_jis_layout}
use Rattle.standard.specs.Sequence.{await, scalar, bad, pair}
use Rattle.standard.specs.Sequences.ShiftJis.{shift_jis, shift_jis_code}
use Rattle.standard.proofs.Layouts.{shift_jis-low, shift_jis-no_kana}
use Rattle.standard.proofs.Tests.{in_range}
use Rattle.standard.proofs.UserRows.{shift_jis-private, shift_jis-indexed}
use Rattle.layouts.specs.Rows.{row, column}
use Rattle.layouts.proofs.Rows.{led, trailed, by_row}

module _ (t : Tables) (n b c : ℕ) (xs : List ℕ) where
  pub shift_jis-ascii : b ≤ 0x80 → shift_jis t (b ∷ take (n - 1) (c ∷ xs)) ≡ scalar 1 b
  unfolding shift_jis
  shift_jis-ascii h = rw (le-leb b 0x80 h)

  module _ (h : 0x80 < b) where
    pub shift_jis-kana : within 0xA1 b 0xDF ≡ true → shift_jis t (b ∷ take (n - 1) (c ∷ xs)) ≡ scalar 1 (0xFF61 - 0xA1 + b)
    unfolding shift_jis
    shift_jis-kana k = rw (lt-leb b 0x80 h, k)

    pub shift_jis-bad : within 0xA1 b 0xDF ≡ false → leads shift_jis_layout b ≡ false → shift_jis t (b ∷ take (n - 1) (c ∷ xs)) ≡ bad 1
    unfolding shift_jis
    shift_jis-bad k g = rw (lt-leb b 0x80 h, k, g)

pub shift_jis-led : (t : Tables) (b : ℕ) (xs : List ℕ) → leads shift_jis_layout b ≡ true →
    shift_jis t (b ∷ xs) ≡ await xs (λ c xs. pair c (shift_jis_code t.first b c))
unfolding shift_jis
shift_jis-led t b xs g = rw (lt-leb b 0x80 (shift_jis-low b g), shift_jis-no_kana b g, g)

-- the code point of a pair by the sum p of its row and its column
module _ (index : List ℕ) (b c p : ℕ) (e : p ≡ row shift_jis_layout b + column shift_jis_layout c) where
  pub code_private : 8836 ≤ p → p ≤ 10715 → 0xE000 - 8836 + p ≡ shift_jis_code index b c
  code_private h g =
      let t = trailed shift_jis_layout b c (omega arith) in
      let k = e ∙ by_row shift_jis_layout b c (led shift_jis_layout b c (omega arith)) t in
      rw k (sym (shift_jis-private index b c t (in_range 8836 (pointer_of shift_jis_layout b c) 10715 (omega arith) (omega arith))))

  pub code_indexed : leads shift_jis_layout b ≡ true → within 8836 p 10715 ≡ false → pair_code shift_jis_layout index b c ≡ shift_jis_code index b c
  code_indexed l f = sym (shift_jis-indexed index b c (λ t. subst (λ (q : ℕ). within 8836 q 10715 ≡ false) (e ∙ by_row shift_jis_layout b c l t) f))
