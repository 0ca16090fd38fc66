-- The replaced sequences of items joined, their cells, and that every item has a byte or more. Assumes nothing.
use mathlib.Core.Path.{◌≡◌, refl, sym, ap, ◌∙◌, subst}
use mathlib.Core.Bool.{Bool, true, false}
use mathlib.Core.List.{List, [], ◌∷◌, ◌++◌}
use Prim.Native.Nat.{ℕ, ◌+◌, ◌*◌, ◌≤◌}
use native.Mathlib.Omega.{arith}
use lib.Dec.{T, eqb, lit≤}
use lib.ListN.{length, take}
use lib.Seq.{take_at}
use Rattle.standard.specs.Base.{◌then◌else◌}
use Rattle.standard.specs.Encodings.{Tables, Family, UTF-8, single-byte, windows-1252, GB18030, Big5, EUC-JP, ISO-2022-JP, Shift-JIS, EUC-KR, Replacement, UTF-16BE, UTF-16LE, x-user-defined, family, no_tables}
use Rattle.standard.specs.Sequence.{Shift, text, error, plain}
use Rattle.standard.specs.Next.{next}
use Rattle.standard.specs.Decode.{Item, span, decode, one_error, iso_end, ending, everything, broken, widths, reach}
use Rattle.standard.specs.Choice.{Choice, waiting, label, marked, choose, reader, mark_width, Spot, chosen, read_from, end_from, everything_from}
use Rattle.standard.proofs.FamilyLaws.{keeps, next_laws}
use Rattle.standard.proofs.Walk.{at_item, walk}
use Rattle.standard.proofs.Stages.{at_mark, read_on_lem, read_choice}
use Rattle.replacements_spec.specs.Replaced.{Replaced, replaced, cells}

pub replaced_append : (n : ℕ) (is js : List Item) → replaced n (is ++ js) ≡ replaced n is ++ replaced (n + widths is) js
unfolding replaced widths
replaced_append n [] js = ap (λ (k : ℕ). replaced k js) (omega arith)
replaced_append n (span w (text cs) ∷ is) js = replaced_append (n + w) is js ∙
    ap (λ (k : ℕ). replaced (n + w) is ++ replaced k js) (omega arith)
replaced_append n (span w error ∷ is) js =
    ap (◌∷◌ (record { place = n; width = w })) (replaced_append (n + w) is js ∙
    ap (λ (k : ℕ). replaced (n + w) is ++ replaced k js) (omega arith))

pub cells_append : (rs qs : List Replaced) → cells (rs ++ qs) ≡ cells rs ++ cells qs
unfolding cells
cells_append [] qs = refl
cells_append (r ∷ rs) qs = ap (λ (l : List ℕ). r.place ∷ r.width ∷ l) (cells_append rs qs)

pub cells_length : (rs : List Replaced) → length (cells rs) ≡ 2 * length rs
unfolding cells
cells_length [] = refl
cells_length (r ∷ rs) = omega (arith, cells_length rs)

-- what stands at the front of the spans
pub cells_front : (rs : List Replaced) (rest : List ℕ) → take (2 * length rs) (cells rs ++ rest) ≡ cells rs
cells_front rs rest = take_at (cells rs) rest (2 * length rs) (cells_length rs)

-- no error, nothing replaced
pub sound_none : (n : ℕ) (is : List Item) → broken is ≡ false → replaced n is ≡ []
unfolding replaced broken
sound_none n [] h = refl
sound_none n (span w (text cs) ∷ is) h = sound_none (n + w) is h
sound_none n (span w error ∷ is) h = absurd (subst T h tt)

-- the first error
pub broken_first : (n : ℕ) (is : List Item) → broken is ≡ true →
    (r : Replaced) × (rs : List Replaced) × (replaced n is ≡ r ∷ rs) × (r.place ≡ n + reach is)
unfolding replaced broken reach
broken_first n [] h = absurd (subst T (sym h) tt)
broken_first n (span w (text cs) ∷ is) h =
    let f = broken_first (n + w) is h in
    (f.0, f.1, f.2, omega (arith, f.3))
broken_first n (span w error ∷ is) h = (record { place = n; width = w }, replaced (n + w) is, refl, omega arith)

-- Each item has a byte or more.
unfoldable pub Wide : List Item → Type 0
Wide [] = Unit
Wide (span w o ∷ is) = (1 ≤ w) × Wide is

pub wide_append : (is js : List Item) → Wide is → Wide js → Wide (is ++ js)
unfolding Wide
wide_append [] js a b = b
wide_append (span w o ∷ is) js a b = (a.0, wide_append is js a.1 b)

pub decode_wide : (t : Tables) (f : Family) (s : Shift) (xs : List ℕ) → Wide (decode (next t f) s xs).items
unfolding Wide
decode_wide t f s xs = walk (keeps f) (next t f) (next_laws t f) (λ s xs r. Wide r.items) (λ s xs e. tt)
    (λ s xs w s' o r e ih. ((at_item (keeps f) (next t f) (next_laws t f) s xs e []).1, ih)) s xs

one_wide : (xs : List ℕ) → Wide (one_error xs)
unfolding Wide one_error
one_wide [] = tt
one_wide (b ∷ xs) = (omega arith, tt)

iso_wide : (t : Tables) (s : Shift) (xs : List ℕ) → Wide (iso_end t s xs)
unfolding Wide iso_end
iso_wide t s [] = tt
iso_wide t s (b ∷ []) = (lit≤ tt, tt)
iso_wide t s (b ∷ c ∷ xs) = (lit≤ tt, (omega arith, tt))

ending_wide : (t : Tables) (f : Family) (s : Shift) (xs : List ℕ) → Wide (ending t f s xs)
unfolding ending
ending_wide t UTF-8 s xs = one_wide xs
ending_wide t single-byte s xs = one_wide xs
ending_wide t windows-1252 s xs = one_wide xs
ending_wide t GB18030 s xs = one_wide xs
ending_wide t Big5 s xs = one_wide xs
ending_wide t EUC-JP s xs = one_wide xs
ending_wide t ISO-2022-JP s xs = iso_wide t s xs
ending_wide t Shift-JIS s xs = one_wide xs
ending_wide t EUC-KR s xs = one_wide xs
ending_wide t Replacement s xs = one_wide xs
ending_wide t UTF-16BE s xs = one_wide xs
ending_wide t UTF-16LE s xs = one_wide xs
ending_wide t x-user-defined s xs = one_wide xs

mark_wide : (g : ℕ) → 1 ≤ mark_width g
mark_wide g = go (eqb g 2)
  where
    go : (b : Bool) → 1 ≤ (b then 3 else 2)
    go true = lit≤ tt
    go false = lit≤ tt

pub read_wide : (t : Tables) (e : ℕ) (p : Spot) (xs : List ℕ) → Wide (read_from t e p xs).items
unfolding Wide chosen reader
read_wide t e p xs = go (eqb p.stage 1) refl
  where
    choice : (c : Choice) → choose xs ≡ c → Wide (chosen t e xs c).items
    choice waiting q = tt
    choice label q = decode_wide t (family e) plain xs
    choice (marked w g) q = (rw (at_mark xs q).width (mark_wide g), decode_wide t (family (reader e g)) plain _)

    go : (b : Bool) → eqb p.stage 1 ≡ b → Wide (read_from t e p xs).items
    go true g = rw (read_choice t e p xs g) (choice (choose xs) refl)
    go false g = rw (read_on_lem t e p xs g) (decode_wide t (family (reader e p.stage)) p.shift xs)

pub end_wide : (t : Tables) (e : ℕ) (p : Spot) (xs : List ℕ) → Wide (end_from t e p xs)
unfolding end_from everything
end_wide t e p xs = go (eqb p.stage 1)
  where
    go : (b : Bool) → Wide (b then everything t (family e) plain xs else ending no_tables (family (reader e p.stage)) p.shift xs)
    go true =
        let r = decode (next t (family e)) plain xs in
        wide_append r.items (ending t (family e) r.shift r.rest) (decode_wide t (family e) plain xs)
        (ending_wide t (family e) r.shift r.rest)
    go false = ending_wide no_tables (family (reader e p.stage)) p.shift xs

pub all_wide : (t : Tables) (e : ℕ) (p : Spot) (xs : List ℕ) → Wide (everything_from t e p xs)
unfolding everything_from
all_wide t e p xs =
    let r = read_from t e p xs in
    wide_append r.items (end_from t e r.spot r.rest) (read_wide t e p xs) (end_wide t e r.spot r.rest)

-- no more replaced sequences than bytes
pub replaced_few : (n : ℕ) (is : List Item) → Wide is → length (replaced n is) ≤ widths is
unfolding replaced widths Wide
replaced_few n [] w = lit≤ tt
replaced_few n (span k (text cs) ∷ is) w = omega (arith, replaced_few (n + k) is w.1)
replaced_few n (span k error ∷ is) w = omega (arith, w.0, replaced_few (n + k) is w.1)
