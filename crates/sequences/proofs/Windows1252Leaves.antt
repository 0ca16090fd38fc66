-- windows-1252, leaf by leaf. Assumes nothing.
use mathlib.Core.Path.{◌≡◌, refl, ◌∙◌}
use mathlib.Core.Bool.{Bool, true, ◌&&◌, not}
use mathlib.Core.List.{List, ◌∷◌}
use Prim.Native.Nat.{ℕ, ◌+◌, ◌-◌, ◌≤◌, ◌<◌}
use native.Mathlib.Omega.{arith}
use lib.Dec.{ltb, eqb}
use lib.ListN.{get_or}
use borrow.Author.Tests.{le-ltb, lt-ltb, eqb-true, not-true}
use Rattle.standard.specs.Base.{◌then◌else◌}
use Rattle.standard.specs.Indexes.{irregular, count_from, windows1252}
use Rattle.standard.specs.Sequence.{scalar, code, cell}
use Rattle.standard.specs.Sequences.SingleByte.{single_byte}
use Rattle.standard.proofs.Tests.{and_left, and_right}
use Rattle.standard.proofs.Every.{upto, upto_at}
use Rattle.sequences.proofs.SingleByteLeaves.{single_cell}

-- the code point of the byte 80 + i
wanted : ℕ → ℕ
wanted i = ltb i 32 then get_or irregular i 0 else i + 0x80

right : ℕ → Bool
right i = eqb (cell windows1252 i) (wanted i) && not (eqb (cell windows1252 i) 0)

all_right : upto right 128 ≡ true
unfolding right wanted cell irregular count_from windows1252
all_right = refl

is_wanted : (i : ℕ) → i < 128 → code 1 (cell windows1252 i) ≡ scalar 1 (wanted i)
unfolding right
is_wanted i h =
    let e = upto_at right 128 all_right i h in
    let z = not-true (eqb (cell windows1252 i) 0) (and_right (eqb (cell windows1252 i) (wanted i)) (not (eqb (cell windows1252 i) 0)) e) in
    rw (z, eqb-true (cell windows1252 i) (wanted i) (and_left (eqb (cell windows1252 i) (wanted i)) (not (eqb (cell windows1252 i) 0)) e))

module _ (b : ℕ) (xs : List ℕ) where
  pub windows_irregular : 0x80 ≤ b → b < 0xA0 → single_byte windows1252 (b ∷ xs) ≡ scalar 1 (get_or irregular (b - 0x80) 0)
  unfolding wanted
  windows_irregular g k = single_cell windows1252 b xs g ∙ is_wanted (b - 0x80) (omega arith) ∙ rw (lt-ltb (b - 0x80) 32 (omega arith))

  pub windows_itself : 0xA0 ≤ b → b < 0x100 → single_byte windows1252 (b ∷ xs) ≡ scalar 1 b
  unfolding wanted
  windows_itself g k =
      let q : b - 0x80 + 0x80 ≡ b = omega arith in
      single_cell windows1252 b xs (omega arith) ∙ is_wanted (b - 0x80) (omega arith) ∙ rw (le-ltb (b - 0x80) 32 (omega arith), q)
