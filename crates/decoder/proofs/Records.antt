-- The record made of a spot and at most three bytes reads back. Assumes nothing.
use mathlib.Core.Path.{◌≡◌, refl}
use mathlib.Core.Bool.{Bool, true, false}
use mathlib.Core.List.{List, [], ◌∷◌}
use Prim.Native.Nat.{ℕ, ◌≤◌}
use native.Mathlib.Omega.{arith}
use lib.Dec.{eqb}
use lib.ListN.{length}
use Rattle.standard.specs.Choice.{Spot, spot}
use Rattle.reading.specs.declared.Left.{Left}
use Rattle.decoder.specs.Record.{bit, spot_of, held_of, holding}
use Rattle.decoder.specs.declared.Decoder.{Decoder}

pub bit_back : (b : Bool) → eqb (bit b) 1 ≡ b
bit_back true = refl
bit_back false = refl

pub spot_holding : (e m n l : ℕ) (p : Spot) (xs : List ℕ) → spot_of (holding e m n l p xs) ≡ p
spot_holding e m n l p xs = λ i. spot p.stage (record { state = p.shift.state; flag = bit_back p.shift.flag i })

pub held_holding : (e m n l : ℕ) (p : Spot) (xs : List ℕ) → length xs ≤ 3 → held_of (holding e m n l p xs) ≡ xs
held_holding e m n l p [] h = refl
held_holding e m n l p (a ∷ []) h = refl
held_holding e m n l p (a ∷ b ∷ []) h = refl
held_holding e m n l p (a ∷ b ∷ c ∷ []) h = refl
held_holding e m n l p (a ∷ b ∷ c ∷ d ∷ xs) h = absurd (omega arith)

-- what the code makes of what reading leaves
abbrev pub record_of : ℕ → ℕ → ℕ → ℕ → Left → Decoder
record_of e m n k l = record {
  taken = n;
  lines = k;
  encoding = e;
  mode = m;
  stage = l.stage;
  state = l.state;
  flag = l.flag;
  held = l.held.count;
  first = l.held.first;
  second = l.held.second;
  third = l.held.third;
  ended = 0;
}
