-- Cutting: over any cutting of the scalars, pieces in turn write what one piece writes; for any writer of single scalars. Assumes nothing.
use mathlib.Core.Path.{◌≡◌, refl, sym, ap, ◌∙◌}
use mathlib.Core.Bool.{Bool, true, false}
use mathlib.Core.List.{List, [], ◌∷◌, ◌++◌, append_assoc}
use mathlib.Core.Option.{Option, some, none}
use Prim.Native.Nat.{ℕ, suc, ◌+◌}
use native.Mathlib.Omega.{arith}
use lib.Dec.{eqb}
use lib.ListN.{length}
use Rattle.standard.specs.Base.{◌then◌else◌}
use Rattle.standard.specs.Machine.{reference}
use Rattle.standard.specs.Ones.{One}
use Rattle.encoder_spec.specs.Writing.{Fault, Writing, later, onward, ahead, writing}
use Rattle.encoder_spec.specs.Pieces.{follow, in_pieces, joined, Cutting}

later_zero : (o : Option Fault) → later 0 o ≡ o
later_zero none = refl
later_zero (some f) = λ i. some (record { index = zero_left i; code_point = f.code_point })
  where
    zero_left : 0 + f.index ≡ f.index
    zero_left = omega arith

later_later : (n k : ℕ) (o : Option Fault) → later n (later k o) ≡ later (n + k) o
later_later n k none = refl
later_later n k (some f) = λ i. some (record { index = sums i; code_point = f.code_point })
  where
    sums : n + (k + f.index) ≡ n + k + f.index
    sums = omega arith

onward_onward : (n k : ℕ) (bs ds : List ℕ) (w : Writing) → onward n bs (onward k ds w) ≡ onward (n + k) (bs ++ ds) w
onward_onward n k bs ds w = λ i. record {
  bytes = sym (append_assoc bs ds w.bytes) i;
  state = w.state;
  unwritable = later_later n k w.unwritable i;
}

onward_none : (w : Writing) → onward 0 [] w ≡ w
onward_none w = λ i. record { bytes = w.bytes; state = w.state; unwritable = later_zero w.unwritable i }

-- bytes in front, and then another writing behind
onward_follow : (n k : ℕ) (bs : List ℕ) (w : Writing) (v : ℕ → Writing) → onward n bs (follow k w v) ≡ follow (n + k) (onward n bs w) v
onward_follow n k bs w v = go w.unwritable
  where
    go : (o : Option Fault) →
        onward n bs (follow k (record { bytes = w.bytes; state = w.state; unwritable = o }) v) ≡
        follow (n + k) (onward n bs (record { bytes = w.bytes; state = w.state; unwritable = o })) v
    go none = onward_onward n k bs w.bytes (v w.state)
    go (some f) = refl

-- A scalar in front: it does not see what follows.
abbrev stopped : List ℕ → ℕ → ℕ → Writing
stopped bs s n = record { bytes = bs; state = s; unwritable = some (record { index = 0; code_point = n }) }

ahead_follow : (m k : ℕ) (o : One) (w : Writing) (v : ℕ → Writing) → ahead m o (follow k w v) ≡ follow (suc k) (ahead m o w) v
ahead_follow m k o w v = go o.named
  where
    one_more : 1 + k ≡ suc k
    one_more = omega arith

    front : (bs : List ℕ) → onward 1 bs (follow k w v) ≡ follow (suc k) (onward 1 bs w) v
    front bs = onward_follow 1 k bs w v ∙ ap (λ (n : ℕ). follow n (onward 1 bs w) v) one_more

    by_mode : (b : Bool) (bs ds : List ℕ) (s n : ℕ) →
        (b then stopped bs s n else onward 1 ds (follow k w v)) ≡ follow (suc k) (b then stopped bs s n else onward 1 ds w) v
    by_mode true bs ds s n = refl
    by_mode false bs ds s n = front ds

    named : Option ℕ → One
    named a = record { bytes = o.bytes; state = o.state; named = a }

    go : (a : Option ℕ) → ahead m (named a) (follow k w v) ≡ follow (suc k) (ahead m (named a) w) v
    go none = front o.bytes
    go (some n) = by_mode (eqb m 1) o.bytes (o.bytes ++ reference n) o.state n

module _ (one : ℕ → ℕ → One) (m : ℕ) where
  -- two pieces
  pub cut : (s : ℕ) (cs ds : List ℕ) → writing one m s (cs ++ ds) ≡ follow (length cs) (writing one m s cs) (λ s'. writing one m s' ds)
  unfolding writing
  cut s [] ds = sym (onward_none (writing one m s ds))
  cut s (c ∷ cs) ds =
      ap (ahead m (one s c)) (cut (one s c).state cs ds) ∙
      ahead_follow m (length cs) (one s c) (writing one m (one s c).state cs) (λ s'. writing one m s' ds)

-- the writing behind, put for another
follow_same : (n : ℕ) (w : Writing) {v v' : ℕ → Writing} → ((s : ℕ) → v s ≡ v' s) → follow n w v ≡ follow n w v'
follow_same n w {v} {v'} h = go w.unwritable
  where
    go : (o : Option Fault) → follow n (record { bytes = w.bytes; state = w.state; unwritable = o }) v ≡
        follow n (record { bytes = w.bytes; state = w.state; unwritable = o }) v'
    go none = ap (onward n w.bytes) (h w.state)
    go (some f) = refl

pub cutting : Cutting
unfolding writing in_pieces joined
cutting one m s [] = refl
cutting one m s (cs ∷ css) = follow_same (length cs) (writing one m s cs) (λ s'. cutting one m s' css) ∙ sym (cut one m s cs (joined css))
