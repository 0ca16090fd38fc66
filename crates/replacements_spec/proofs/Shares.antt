-- Items share the bytes out: each byte has one item, and the replaced sequences are those of the errors. Assumes nothing.
use mathlib.Core.Path.{◌≡◌, refl, ◌∙◌}
use mathlib.Core.Bool.{Bool, true, false, ◌&&◌, and-false}
use mathlib.Core.List.{List, [], ◌∷◌}
use Prim.Native.Nat.{ℕ, ◌+◌, ◌≤◌, ◌<◌}
use native.Mathlib.Omega.{arith}
use lib.Dec.{ltb, leb}
use borrow.Author.Tests.{lt-ltb, le-ltb, le-leb, lt-leb, ltb-true, ltb-false}
use Rattle.standard.specs.Sequence.{Out, text, error}
use Rattle.standard.specs.Items.{Item, span, widths}
use Rattle.replacements_spec.specs.Replaced.{Replaced, replaced}
use Rattle.replacements_spec.specs.Statements.{owners, covering, one_if_error, Owned, Rising}
use Rattle.replacements_spec.proofs.Spans.{Wide}

-- the test whether byte i is among w bytes from n on
under : (i n w : ℕ) → i < n → (leb n i && ltb i (n + w)) ≡ false
under i n w h = rw (lt-leb n i h)

among : (i n w : ℕ) → n ≤ i → i < n + w → (leb n i && ltb i (n + w)) ≡ true
among i n w h k = rw (le-leb n i h, lt-ltb i (n + w) k)

over : (i n w : ℕ) → n + w ≤ i → (leb n i && ltb i (n + w)) ≡ false
over i n w h = rw (le-ltb i (n + w) h) (and-false (leb n i))

-- a byte before the items has none of them
unowned : (i n : ℕ) (is : List Item) → i < n → owners i n is ≡ []
unfolding owners
unowned i n [] h = refl
unowned i n (span w o ∷ is) h = rw (under i n w h) (unowned i (n + w) is (omega arith))

uncovered : (i n : ℕ) (is : List Item) → i < n → covering i (replaced n is) ≡ 0
unfolding covering replaced
uncovered i n [] h = refl
uncovered i n (span w (text cs) ∷ is) h = uncovered i (n + w) is (omega arith)
uncovered i n (span w error ∷ is) h = rw (under i n w h) (uncovered i (n + w) is (omega arith))

-- where the item at the front has the byte, and where it has not
covered_here : (i n w : ℕ) (o : Out) (is : List Item) → n ≤ i → i < n + w → covering i (replaced n (span w o ∷ is)) ≡ one_if_error o
unfolding covering replaced
covered_here i n w (text cs) is h k = uncovered i (n + w) is k
covered_here i n w error is h k = rw (among i n w h k, uncovered i (n + w) is k)

covered_later : (i n w : ℕ) (o : Out) (is : List Item) → n + w ≤ i → covering i (replaced n (span w o ∷ is)) ≡ covering i (replaced (n + w) is)
unfolding covering replaced
covered_later i n w (text cs) is h = refl
covered_later i n w error is h = rw (over i n w h)

owned_from : (i n : ℕ) (is : List Item) → n ≤ i → i < n + widths is →
    (o : Out) × (owners i n is ≡ o ∷ []) × (covering i (replaced n is) ≡ one_if_error o)
unfolding widths owners
owned_from i n [] h k = absurd (omega arith)
owned_from i n (span w o ∷ is) h k = go (ltb i (n + w)) refl (λ l m. owned_from i (n + w) is l m)
  where
    go : (b : Bool) → ltb i (n + w) ≡ b →
        (n + w ≤ i → i < n + w + widths is →
        (p : Out) × (owners i (n + w) is ≡ p ∷ []) × (covering i (replaced (n + w) is) ≡ one_if_error p)) →
        (p : Out) × (owners i n (span w o ∷ is) ≡ p ∷ []) × (covering i (replaced n (span w o ∷ is)) ≡ one_if_error p)
    go true e ih =
        let l = ltb-true i (n + w) e in
        (o, rw (among i n w h l, unowned i (n + w) is l), covered_here i n w o is h l)
    go false e ih =
        let l = ltb-false i (n + w) e in
        let r = ih l (omega arith) in
        (r.0, rw (over i n w l) r.1, covered_later i n w o is l ∙ r.2)

pub owned : (i : ℕ) (is : List Item) → i < widths is → Owned i is (replaced 0 is)
owned i is h = let r = owned_from i 0 is (omega arith) (omega arith) in record { owner = r.0; one = r.1; covered = r.2 }

-- a bound from further on holds from here on
Rising-from : (k n m : ℕ) (rs : List Replaced) → k ≤ n → Rising n rs m → Rising k rs m
unfolding Rising
Rising-from k n m [] h r = omega arith
Rising-from k n m (q ∷ rs) h r = (omega (arith, r.0), r.1, r.2)

pub rising : (n m : ℕ) (is : List Item) → Wide is → n + widths is ≤ m → Rising n (replaced n is) m
unfolding Rising replaced widths Wide
rising n m [] w h = omega arith
rising n m (span k (text cs) ∷ is) w h = Rising-from n (n + k) m (replaced (n + k) is) (omega arith) (rising (n + k) m is w.1 (omega arith))
rising n m (span k error ∷ is) w h = (omega arith, w.0, rising (n + k) m is w.1 (omega arith))
