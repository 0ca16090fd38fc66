-- What sequences give, joined: shown, before the first error, whether there is one, and their bytes. Assumes nothing.
use mathlib.Core.Path.{◌≡◌, refl, sym, ap, ◌∙◌, subst}
use mathlib.Core.Bool.{true, false, ◌||◌}
use mathlib.Core.List.{List, [], ◌∷◌, ◌++◌, append_assoc}
use Prim.Native.Nat.{ℕ, ◌+◌, ◌≤◌}
use native.Mathlib.Omega.{arith}
use lib.Dec.{T, lit≤}
use lib.ListN.{length, length-append}
use Rattle.standard.specs.Sequence.{Out, text, error}
use Rattle.standard.specs.Decode.{Item, span, given, shown, broken, before, widths, reach}

pub shown_cons : (w : ℕ) (o : Out) (is : List Item) → shown (span w o ∷ is) ≡ given o ++ shown is
unfolding shown
shown_cons w (text cs) is = refl
shown_cons w error is = refl

pub shown_append : (is js : List Item) → shown (is ++ js) ≡ shown is ++ shown js
unfolding shown
shown_append [] js = refl
shown_append (span w (text cs) ∷ is) js = ap (λ (l : List ℕ). cs ++ l) (shown_append is js) ∙ sym (append_assoc cs (shown is) (shown js))
shown_append (span w error ∷ is) js = ap (◌∷◌ 0xFFFD) (shown_append is js)

pub broken_append : (is js : List Item) → broken (is ++ js) ≡ broken is || broken js
unfolding broken
broken_append [] js = refl
broken_append (span w (text cs) ∷ is) js = broken_append is js
broken_append (span w error ∷ is) js = refl

pub before_append : (is js : List Item) → broken is ≡ false → before (is ++ js) ≡ shown is ++ before js
unfolding before broken shown
before_append [] js h = refl
before_append (span w (text cs) ∷ is) js h = ap (λ (l : List ℕ). cs ++ l) (before_append is js h) ∙ sym (append_assoc cs (shown is) (before js))
before_append (span w error ∷ is) js h = absurd (subst T h tt)

pub before_broken : (is js : List Item) → broken is ≡ true → before (is ++ js) ≡ before is
unfolding broken before
before_broken [] js h = absurd (subst T (sym h) tt)
before_broken (span w (text cs) ∷ is) js h = ap (λ (l : List ℕ). cs ++ l) (before_broken is js h)
before_broken (span w error ∷ is) js h = refl

pub before_length : (is : List Item) → length (before is) ≤ length (shown is)
unfolding before shown
before_length [] = lit≤ tt
before_length (span w (text cs) ∷ is) = simp length-append (omega (arith, before_length is))
before_length (span w error ∷ is) = omega arith

-- the bytes of items joined, and those before the first error
pub widths_append : (is js : List Item) → widths (is ++ js) ≡ widths is + widths js
unfolding widths
widths_append [] js = omega arith
widths_append (span w o ∷ is) js = rw (widths_append is js) (omega arith)

pub reach_append : (is js : List Item) → broken is ≡ false → reach (is ++ js) ≡ widths is + reach js
unfolding widths reach broken
reach_append [] js h = omega arith
reach_append (span w (text cs) ∷ is) js h = rw (reach_append is js h) (omega arith)
reach_append (span w error ∷ is) js h = absurd (subst T h tt)

pub reach_broken : (is js : List Item) → broken is ≡ true → reach (is ++ js) ≡ reach is
unfolding broken reach
reach_broken [] js h = absurd (subst T (sym h) tt)
reach_broken (span w (text cs) ∷ is) js h = ap (λ (n : ℕ). w + n) (reach_broken is js h)
reach_broken (span w error ∷ is) js h = refl

pub reach_sound : (is : List Item) → broken is ≡ false → reach is ≡ widths is
unfolding broken reach widths
reach_sound [] h = refl
reach_sound (span w (text cs) ∷ is) h = ap (λ (n : ℕ). w + n) (reach_sound is h)
reach_sound (span w error ∷ is) h = absurd (subst T h tt)

pub reach_widths : (is : List Item) → reach is ≤ widths is
unfolding reach widths
reach_widths [] = lit≤ tt
reach_widths (span w (text cs) ∷ is) = omega (arith, reach_widths is)
reach_widths (span w error ∷ is) = omega arith
