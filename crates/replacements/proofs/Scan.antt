-- Looking for U+FFFD: scalars joined, and that an error shows one. Assumes nothing.
use mathlib.Core.Path.{◌≡◌, refl, sym, ap, ◌∙◌, subst}
use mathlib.Core.Bool.{Bool, true, false, ◌||◌}
use mathlib.Core.List.{List, [], ◌∷◌, ◌++◌}
use Prim.Native.Nat.{ℕ}
use lib.Dec.{T, eqb}
use Rattle.std.specs.List.{list_any}
use Rattle.standard.specs.Sequence.{text, error}
use Rattle.standard.specs.Items.{Item, span, shown, broken}
use Rattle.replacements.specs.Walks.{replacing}

or_assoc : (a b c : Bool) → (a || b) || c ≡ a || (b || c)
or_assoc true b c = refl
or_assoc false b c = refl

pub replacing_append : (xs ys : List ℕ) → replacing (xs ++ ys) ≡ replacing xs || replacing ys
unfolding replacing
replacing_append [] ys = refl
replacing_append (x ∷ xs) ys = ap (λ (b : Bool). eqb x 0xFFFD || b) (replacing_append xs ys) ∙ sym
    (or_assoc (eqb x 0xFFFD) (replacing xs) (replacing ys))

-- as `contains` says it
pub any_is : (xs : List ℕ) → list_any (λ c. eqb c 0xFFFD) xs ≡ replacing xs
unfolding replacing
any_is [] = refl
any_is (x ∷ xs) = ap (λ (b : Bool). eqb x 0xFFFD || b) (any_is xs)

-- an error shows U+FFFD
or-true : (a : Bool) → a || true ≡ true
or-true true = refl
or-true false = refl

pub broken_shows : (is : List Item) → broken is ≡ true → replacing (shown is) ≡ true
unfolding broken shown replacing
broken_shows [] h = absurd (subst T (sym h) tt)
broken_shows (span w (text cs) ∷ is) h = replacing_append cs (shown is) ∙ rw (broken_shows is h) (or-true (replacing cs))
broken_shows (span w error ∷ is) h = refl

pub unshown_sound : (is : List Item) → replacing (shown is) ≡ false → broken is ≡ false
unshown_sound is h = go (broken is) refl
  where
    go : (b : Bool) → broken is ≡ b → b ≡ false
    go true e = absurd (subst T (sym (broken_shows is e) ∙ h) tt)
    go false e = refl
