-- EUC-JP, leaf by leaf. Assumes nothing.
use mathlib.Core.Path.{◌≡◌}
use mathlib.Core.Bool.{true, false}
use mathlib.Core.List.{List, ◌∷◌}
use Prim.Native.Nat.{ℕ, ◌+◌, ◌-◌, ◌≤◌, ◌<◌}
use native.Mathlib.Omega.{arith}
use lib.Dec.{ltb, lit≤}
use lib.ListN.{take}
use borrow.Author.Tests.{le-ltb, lt-ltb, ne_eqb}
use Rattle.standard.specs.Base.{◌then◌else◌, within}
use Rattle.standard.specs.Encodings.{Tables}
use Rattle.standard.specs.Layouts.{leads, pair_code, euc_jp_layout}
use Rattle.standard.specs.Sequence.{more, await, scalar, bad, pair, trailed}
use Rattle.standard.specs.Sequences.EucJp.{euc_jp, euc_jp_kana, euc_jp_three}
use Rattle.standard.proofs.Tests.{within_low, not_ascii}
use Rattle.sequences.proofs.Leaves.{one_more, no_more, await_pair}

-- half-width katakana
pub kana_some : (c : ℕ) → within 0xA1 c 0xDF ≡ true → euc_jp_kana c ≡ 0xFF61 - 0xA1 + c
kana_some c h = rw h

pub kana_none : (c : ℕ) → within 0xA1 c 0xDF ≡ false → euc_jp_kana c ≡ 0
kana_none c h = rw h

-- after 8F
module _ (j : List ℕ) (n c d : ℕ) (xs : List ℕ) where
  pub three_other : leads euc_jp_layout c ≡ false → euc_jp_three j c (take (n - 2) (d ∷ xs)) ≡ pair c 0
  three_other h = rw h

  module _ (h : leads euc_jp_layout c ≡ true) where
    pub three_wait : n < 3 → euc_jp_three j c (take (n - 2) (d ∷ xs)) ≡ more
    three_wait g = rw (h, no_more (n - 2) (d ∷ xs) (omega arith))

    pub three_trail : 3 ≤ n → euc_jp_three j c (take (n - 2) (d ∷ xs)) ≡ trailed 2 3 d (pair_code euc_jp_layout j c d)
    three_trail g = rw (h, one_more (n - 2) d xs (omega arith))

-- the first byte
module _ (t : Tables) (n b c d : ℕ) (xs : List ℕ) where
  pub euc_jp-ascii : b < 0x80 → euc_jp t (b ∷ take (n - 1) (c ∷ d ∷ xs)) ≡ scalar 1 b
  unfolding euc_jp
  euc_jp-ascii h = rw (lt-ltb b 0x80 h)

  pub euc_jp-8e : b ≡ 0x8E → euc_jp t (b ∷ take (n - 1) (c ∷ d ∷ xs)) ≡ (ltb n 2 then more else pair c (euc_jp_kana c))
  unfolding euc_jp
  euc_jp-8e h = rw h (await_pair n c (d ∷ xs) (λ c. euc_jp_kana c))

  module _ (h : b ≡ 0x8F) where
    pub euc_jp-8f_wait : n < 2 → euc_jp t (b ∷ take (n - 1) (c ∷ d ∷ xs)) ≡ more
    unfolding euc_jp
    euc_jp-8f_wait g = rw (h, no_more (n - 1) (c ∷ d ∷ xs) (omega arith))

    pub euc_jp-8f : 2 ≤ n → euc_jp t (b ∷ take (n - 1) (c ∷ d ∷ xs)) ≡ euc_jp_three t.second c (take (n - 2) (d ∷ xs))
    unfolding euc_jp
    euc_jp-8f g = let z : n - 2 ≡ n - 1 - 1 = omega arith in rw (h, one_more (n - 1) c (d ∷ xs) (omega arith), z)

  pub euc_jp-bad : 0x80 ≤ b → (b ≡ 0x8E → ⊥) → (b ≡ 0x8F → ⊥) → leads euc_jp_layout b ≡ false → euc_jp t (b ∷ take (n - 1) (c ∷ d ∷ xs)) ≡ bad 1
  unfolding euc_jp
  euc_jp-bad h i j g = rw (le-ltb b 0x80 h, ne_eqb b 0x8E i, ne_eqb b 0x8F j, g)

pub euc_jp-led : (t : Tables) (b : ℕ) (xs : List ℕ) → leads euc_jp_layout b ≡ true → euc_jp t (b ∷ xs) ≡ await xs (λ c xs. pair c (pair_code euc_jp_layout t.first b c))
unfolding euc_jp
euc_jp-led t b xs g =
    let l = within_low 0xA1 b 0xFE g in
    rw (not_ascii 0xA1 b 0xFE (lit≤ tt) g, ne_eqb b 0x8E (λ z. omega arith), ne_eqb b 0x8F (λ z. omega arith), g)
