-- EUC-KR, leaf by leaf. Assumes nothing.
use mathlib.Core.Path.{◌≡◌}
use mathlib.Core.Bool.{true, false}
use mathlib.Core.List.{List, ◌∷◌}
use Prim.Native.Nat.{ℕ, ◌-◌, ◌≤◌, ◌<◌}
use lib.Dec.{lit≤}
use lib.ListN.{take}
use borrow.Author.Tests.{le-ltb, lt-ltb}
use Rattle.standard.specs.Encodings.{Tables}
use Rattle.standard.specs.Layouts.{leads, pair_code, euc_kr_layout}
use Rattle.standard.specs.Sequence.{await, scalar, bad, pair}
use Rattle.standard.specs.Sequences.EucKr.{euc_kr}
use Rattle.standard.proofs.Tests.{not_ascii}

module _ (t : Tables) (n b c : ℕ) (xs : List ℕ) where
  pub euc_kr-ascii : b < 0x80 → euc_kr t (b ∷ take (n - 1) (c ∷ xs)) ≡ scalar 1 b
  unfolding euc_kr
  euc_kr-ascii h = rw (lt-ltb b 0x80 h)

  pub euc_kr-bad : 0x80 ≤ b → leads euc_kr_layout b ≡ false → euc_kr t (b ∷ take (n - 1) (c ∷ xs)) ≡ bad 1
  unfolding euc_kr
  euc_kr-bad h g = rw (le-ltb b 0x80 h, g)

pub euc_kr-led : (t : Tables) (b : ℕ) (xs : List ℕ) → leads euc_kr_layout b ≡ true → euc_kr t (b ∷ xs) ≡ await xs (λ c xs. pair c (pair_code euc_kr_layout t.first b c))
unfolding euc_kr
euc_kr-led t b xs g = rw (not_ascii 0x81 b 0xFE (lit≤ tt) g, g)
