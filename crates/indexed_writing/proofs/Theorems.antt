-- Scalar by scalar: writers of single scalars whose answers have one shape write alike. Assumes nothing.
use mathlib.Core.Path.{◌≡◌, refl, ap}
use mathlib.Core.Bool.{Bool, true, false}
use mathlib.Core.List.{List, [], ◌∷◌, ◌++◌}
use mathlib.Core.Option.{Option, some, none}
use Prim.Native.Nat.{ℕ}
use native.Mathlib.Omega.{arith}
use lib.Dec.{eqb}
use lib.ListN.{length, length-append}
use Rattle.standard.specs.Base.{◌then◌else◌}
use Rattle.standard.specs.Machine.{reference}
use Rattle.standard.specs.Search.{Lookup}
use Rattle.standard.specs.Writers.{coding}
use Rattle.standard.specs.Ones.{One, encode_one}
use Rattle.encoder_spec.specs.Writing.{Writing, later, onward, ahead, writing}
use Rattle.indexed_writing.specs.Statements.{looked_up, SameOne, SameShape, WriteAlike}
use Rattle.indexed_writing.proofs.Shapes.{same_one}

same_onward : (bs ds : List ℕ) {w v : Writing} → length bs ≡ length ds → SameShape w v → SameShape (onward 1 bs w) (onward 1 ds v)
same_onward bs ds e h = record {
  lengths = simp length-append (omega (arith, h.lengths));
  states = h.states;
  reports = ap (later 1) h.reports;
}

-- One scalar in front of a writing.
same_ahead : {look look' : Lookup} {d : ℕ} (m : ℕ) {o o' : One} {w v : Writing} → SameOne look look' d o o' → SameShape w v → SameShape (ahead m o w) (ahead m o' v)
same_ahead m {o} {o'} {w} {v} O h = go o.named o'.named O.names
  where
    named : Option ℕ → One → One
    named a p = record { bytes = p.bytes; state = p.state; named = a }

    by_mode : (b : Bool) (n : ℕ) → SameShape
        (b then record { bytes = o.bytes; state = o.state; unwritable = some (record { index = 0; code_point = n }) }
        else onward 1 (o.bytes ++ reference n) w)
        (b then record { bytes = o'.bytes; state = o'.state; unwritable = some (record { index = 0; code_point = n }) }
        else onward 1 (o'.bytes ++ reference n) v)
    by_mode true n = record { lengths = O.sizes; states = O.states; reports = refl }
    by_mode false n = same_onward (o.bytes ++ reference n) (o'.bytes ++ reference n) (simp length-append (omega (arith, O.sizes))) h

    go : (a a' : Option ℕ) → a ≡ a' → SameShape (ahead m (named a o) w) (ahead m (named a' o') v)
    go none none e = same_onward o.bytes o'.bytes O.sizes h
    go (some n) (some k) e = let q : n ≡ k = cc in rw q (by_mode (eqb m 1) k)
    go none (some k) e = let z : ◌≡◌ {A = ℕ} 0 1 = cc in absurd (omega arith)
    go (some n) none e = let z : ◌≡◌ {A = ℕ} 0 1 = cc in absurd (omega arith)

module _ (look look' : Lookup) (d : ℕ → ℕ) (one one' : ℕ → ℕ → One) (O : (s c : ℕ) → SameOne look look' (d c) (one s c) (one' s c)) (m : ℕ) where
  same_writing : (s : ℕ) (cs : List ℕ) → SameShape (writing one m s cs) (writing one' m s cs)
  unfolding writing
  same_writing s [] = record { lengths = refl; states = refl; reports = refl }
  same_writing s (c ∷ cs) = same_ahead m (O s c) (moved (O s c).states (same_writing (one' s c).state cs))
    where
      moved : {x y : ℕ} → x ≡ y → SameShape (writing one m y cs) (writing one' m y cs) → SameShape (writing one m x cs) (writing one' m y cs)
      moved e h = rw e h

pub alike : WriteAlike
alike w look look' second A = record {
  one_scalar = same_one w look look' second A;
  shapes = λ m s cs.
      same_writing look look' (looked_up w second) (encode_one (coding w look second)) (encode_one (coding w look' second)) (same_one w look look' second A) m s cs;
}
