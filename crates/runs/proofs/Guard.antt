-- What the guard of a run tells. Assumes nothing.
use mathlib.Core.Path.{◌≡◌, refl, sym, ◌∙◌}
use mathlib.Core.Bool.{Bool, true, false, not, ◌&&◌}
use mathlib.Core.List.{List}
use Prim.Native.Nat.{ℕ, ◌-◌}
use native.Mathlib.Omega.{arith}
use lib.Dec.{leb, eqb}
use lib.ListN.{length}
use borrow.Author.Tests.{leb-true, eqb-true, le-leb, not-false, not-true}
use Rattle.runs.specs.Run.{ready, ready_plain, Ready}
use Rattle.runs.specs.declared.Place.{Place}

both : (a b : Bool) → a && b ≡ true → (a ≡ true) × (b ≡ true)
both true b h = (refl, h)
both false b h = let z : ◌≡◌ {A = ℕ} 0 1 = cc in absurd (omega arith)

-- what the loops need
ready_facts : (chunk room : List ℕ) (from place : ℕ) → ready (length chunk) from (length room) place ≡ true → Ready chunk from room place
unfolding ready
ready_facts chunk room from place h =
    let n = length chunk in
    let l = length room in
    let x = both (leb from n && leb n 65536 && leb place l) (leb (n - from) (l - place)) h in
    let y = both (leb from n && leb n 65536) (leb place l) x.0 in
    let z = both (leb from n) (leb n 65536) y.0 in
    let begun = leb-true from n z.0 in
    let short = leb-true n 65536 z.1 in
    let space = leb-true place l y.1 in
    let left = leb-true (n - from) (l - place) x.1 in
    record { begun = begun; short = short; fits = omega arith }

-- and where there is no shift
ready_plain-facts : (chunk room : List ℕ) (p : Place) → ready_plain (length chunk) (length room) p ≡ true →
    (p.state ≡ 0) × (p.flag ≡ 0) × Ready chunk p.at room p.written
unfolding ready_plain
ready_plain-facts chunk room p h =
    let x = both (eqb p.state 0 && eqb p.flag 0) (ready (length chunk) p.at (length room) p.written) h in
    let y = both (eqb p.state 0) (eqb p.flag 0) x.0 in
    (eqb-true p.state 0 y.0, eqb-true p.flag 0 y.1, ready_facts chunk room p.at p.written x.1)

ready_is : (chunk room : List ℕ) (from place : ℕ) → Ready chunk from room place → ready (length chunk) from (length room) place ≡ true
unfolding ready
ready_is chunk room from place h =
    let n = length chunk in
    let l = length room in
    rw (le-leb from n h.begun, le-leb n 65536 h.short, le-leb place l (omega (arith, h.fits)), le-leb (n - from) (l - place) (omega (arith, h.fits)))

-- past the guard, as the code asks it
module _ (chunk room : List ℕ) {b : Bool} where
  pub guarded : {from place : ℕ} → b ≡ ready (length chunk) from (length room) place → not b ≡ false → Ready chunk from room place
  guarded {from} {place} e h = ready_facts chunk room from place (sym e ∙ not-false b h)

  pub unguarded : {from place : ℕ} → b ≡ ready (length chunk) from (length room) place → not b ≡ true → Ready chunk from room place → ⊥
  unguarded {from} {place} e h r = let n = sym (not-true b h) ∙ e ∙ ready_is chunk room from place r in let z : ◌≡◌ {A = ℕ} 0 1 = cc in omega arith

  pub guarded_plain : {p : Place} → b ≡ ready_plain (length chunk) (length room) p → not b ≡ false → (p.state ≡ 0) × (p.flag ≡ 0) × Ready chunk p.at room p.written
  guarded_plain {p} e h = ready_plain-facts chunk room p (sym e ∙ not-false b h)
