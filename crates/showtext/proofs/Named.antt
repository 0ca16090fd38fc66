-- The name of an encoding, as the name call writes it. Assumes nothing.
use mathlib.Core.Path.{◌≡◌, refl, ap}
use mathlib.Core.Bool.{Bool, true}
use mathlib.Core.List.{List, ◌++◌}
use Prim.Native.Nat.{ℕ, ◌≤◌}
use native.Mathlib.Omega.{arith}
use lib.Dec.{leb, ltb}
use lib.ListN.{length, take, drop}
use lib.Seq.{take-append_seam}
use borrow.Author.Tests.{leb-true, ltb-true, ltb-false, le-ltb}
use Rattle.standard.specs.Text.{bytes}
use Rattle.standard.proofs.Tests.{split}
use Rattle.labels_spec.specs.Labels.{table, name, naming}
use Rattle.labels_spec.specs.declared.Named.{Named}
use Rattle.labels_spec.proofs.Known.{the_table}
use Rattle.labels.proofs.LookUp.{below, below_at}

short : ℕ → Bool
short e = leb (length (name e)) 20

all_short : below short 40 ≡ true
unfolding below short name table bytes
all_short = refl

-- No name has more than 20 bytes, and none above 39 has any.
pub name_few : (e : ℕ) → length (name e) ≤ 20
unfolding short
name_few e = split (ltb e 40)
    (λ h. leb-true (length (name e)) 20 (below_at short 40 e all_short (ltb-true e 40 h)))
    (λ h. omega (arith, ap length (the_table.above e (ltb-false e 40 h)).0))

module _ (e : ℕ) (room : List ℕ) (h : 20 ≤ length room) where
  -- what the name call leaves, for any number
  named : ((naming e room).answer.length ≡ length (name e)) × ((naming e room).room ≡ name e ++ drop (length (name e)) room)
  unfolding naming
  named = split (ltb 39 e)
      (λ g. let z = (the_table.above e (omega (arith, ltb-true 39 e g))).0 in rw (g, z) (refl, refl))
      (λ g. rw (g, le-ltb (length room) (length (name e)) (omega (arith, name_few e))) (refl, refl))

  module _ (r : Named) (after : List ℕ) (p : r ≡ (naming e room).answer) (q : after ≡ (naming e room).room) where
    pub part_few : r.length ≤ 20
    part_few = omega (arith, ap (λ (n : Named). n.length) p, named.0, name_few e)

    -- the part that the call wrote is the name
    pub part_is : take r.length after ≡ name e
    part_is =
        let z : r.length ≡ length (name e) = omega (arith, ap (λ (n : Named). n.length) p, named.0) in
        rw (z, q, named.1) (take-append_seam (name e) (drop (length (name e)) room))
