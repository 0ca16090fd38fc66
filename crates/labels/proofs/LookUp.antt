-- Looking a label up in the code's table is looking it up in the table of 004. Assumes nothing.
use Rattle.std.proofs.Common.{◌≡◌, refl, sym, ap, ◌∙◌, ℕ, zero, suc, ◌+◌, ◌<◌, Bool, true, false, ◌&&◌, List, [], ◌∷◌, map, length, get_or, arith, Option, Some, None, Bor}
use Rattle.std.proofs.Math.ListN.{get_or-map}
use Rattle.std.proofs.Math.Option as math
use Rattle.std.proofs.Math.Option.{some, none}
use Rattle.std.proofs.lemmas.Bool.Decides.{nat_tests}
use Rattle.std.proofs.lemmas.List.{length-map}
use Rattle.std.proofs.lemmas.Option.{slice_get_past, slice_get-get_or}
use Rattle.std.specs.Option.{option_copied}
use Rattle.std.specs.Slice.{IsItemAt}
use Rattle.std.proofs.lemmas.Slice.Eq.{bytes_eq-Decides}
use Rattle.std.specs.Char.{to_ascii_lowercase}
use Rattle.std.specs.List.{list_all, slice_get}
use Rattle.std.specs.Str.{bytes_eq}
use Prim.Native.String.{String}
use lib.Dec.{T, eqb}
use native.Mathlib.Nat.{zero-add}
use borrow.Author.Tests.{eqb-true, eqb-false, ltb-true, ltb-false}
use mathlib.Core.Path.{subst}
use Rattle.standard.specs.Text.{bytes}
use Rattle.standard.proofs.Tests.{split, and_both}
use Rattle.labels_spec.specs.Labels.{table, fold, start, trimmed, find, answer, label}
use Rattle.labels_spec.specs.Statements as statements
use Rattle.labels_spec.specs.declared.Found.{Found}
use Rattle.labels_spec.proofs.Known.{is_some, is_some_lem, each, each_rule, good_stands}
use Rattle.labels.specs.LookUp.{Group, seek, seek_in, look_up, number}

-- A test at each number below n.
unfoldable pub below : (ℕ → Bool) → ℕ → Bool
below p zero = true
below p (suc n) = p n && below p n

pub below_at : (p : ℕ → Bool) (n i : ℕ) → below p n ≡ true → i < n → p i ≡ true
unfolding below
below_at p zero i h g = absurd (omega arith)
below_at p (suc n) i h g = split (eqb i n)
    (λ e. rw (eqb-true i n e) (and_both (p n) (below p n) h).0)
    (λ e. below_at p n i (and_both (p n) (below p n) h).1 (omega (arith, eqb-false i n e)))

lowered : (l : List ℕ) → map to_ascii_lowercase l ≡ map fold l
lowered [] = refl
lowered (b ∷ l) = let e : to_ascii_lowercase b ≡ fold b = grind (arith, nat_tests) in rw (e, lowered l)

-- Labels that differ at a place, whatever the case of the letters there, are not the same.
pub not_alike : (l k : List ℕ) (i : ℕ) → (to_ascii_lowercase (get_or l i 0) ≡ to_ascii_lowercase (get_or k i 0) → ⊥) →
    false ≡ bytes_eq (map to_ascii_lowercase l) (map to_ascii_lowercase k)
not_alike l k i d = split (bytes_eq (map to_ascii_lowercase l) (map to_ascii_lowercase k))
    (λ t. absurd (d (sym (get_or-map to_ascii_lowercase l i 0) ∙ ap (λ xs. get_or xs i (to_ascii_lowercase 0)) ((bytes_eq-Decides _ _).0 t) ∙
    get_or-map to_ascii_lowercase k i 0)))
    (λ t. sym t)

-- Is it this number?
abbrev gives : ℕ → Option ℕ → Bool
gives e None = false
gives e (Some k) = eqb k e

gives_is : (e : ℕ) (o : Option ℕ) → gives e o ≡ true → o ≡ Some e
gives_is e None h = absurd (subst T (sym h) tt)
gives_is e (Some k) h = ap Some (eqb-true k e h)

-- The test of a label of the code: the table has it, its letters folded, with this number.
abbrev known : Bor (List ℕ) × ℕ → Bool
known r = is_some r.1 (find (map to_ascii_lowercase r.0.now) 0 table)

-- What is found in a group whose labels are known is in the table.
sought : (l : List ℕ) (e : ℕ) (group : Group) → list_all known group ≡ true → seek l group ≡ Some e → find l 0 table ≡ some e
sought l e [] h s = cc
sought l e (r ∷ group) h s = split (bytes_eq l (map to_ascii_lowercase r.0.now))
    (λ t.
    let same : l ≡ map to_ascii_lowercase r.0.now = (bytes_eq-Decides l (map to_ascii_lowercase r.0.now)).0 t in
    let k : find (map to_ascii_lowercase r.0.now) 0 table ≡ some r.1 = is_some_lem r.1 _ (and_both (known r) (list_all known group) h).0 in
    let j : Some r.1 ≡ Some e = rw t at s in
    let i : r.1 ≡ e = cc in
    rw (same, k, i))
    (λ t. sought l e group (and_both (known r) (list_all known group) h).1 (rw t at s))

-- What holds of all holds of the one at a place.
all_get : (groups : List (Bor Group)) (n : ℕ) (g : Bor Group) → list_all (λ (g : Bor Group). list_all known g.now) groups ≡ true →
    slice_get groups n ≡ Some g → list_all known g.now ≡ true
all_get [] n g h s = cc
all_get (f ∷ fs) zero g h s = let e : f ≡ g = cc in rw e at (and_both (list_all known f.now) _ h).0
all_get (f ∷ fs) (suc n) g h s = all_get fs n g (and_both (list_all known f.now) _ h).1 s

-- `get` of a slice gives the element at the place, if there is one.
got : {X : Type 0} (xs : List X) (n : ℕ) (r : Option (Bor X)) → IsItemAt xs n r → option_copied r ≡ slice_get xs n
got xs n None h = sym (slice_get_past xs n (ltb-false n (length xs) (sym h.0)))
got xs n (Some x) h = let l : n < length xs = ltb-true n (length xs) (sym h.0) in sym (slice_get-get_or xs n x.now l ∙ ap Some (sym h.1))

-- A group by the label's length.
module _ (label : List ℕ) (groups : List (Bor Group)) (r : Option (Bor (Bor Group))) (h : IsItemAt groups (length label) r) where
  group_is : option_copied r ≡ slice_get groups (length (map to_ascii_lowercase label))
  group_is = got groups (length label) r h ∙ ap (slice_get groups) (sym (length-map label to_ascii_lowercase))

  pub group_none : r ≡ None → None ≡ look_up (map to_ascii_lowercase label) groups
  unfolding look_up
  group_none e = ap (seek_in (map to_ascii_lowercase label)) (ap option_copied (sym e) ∙ group_is)

  pub group_some : (g : Bor (Bor Group)) → r ≡ Some g → seek (map to_ascii_lowercase label) g.now.now ≡ look_up (map to_ascii_lowercase label) groups
  unfolding look_up
  group_some g e = ap (seek_in (map to_ascii_lowercase label)) (ap option_copied (sym e) ∙ group_is)

-- Groups of labels by length.
module _ (groups : List (Bor Group)) where
  -- The test of a label of the table: it is looked up as its encoding.
  unfoldable pub looked : ℕ → String → Bool
  looked e m = gives e (seek_in (bytes m) (slice_get groups (length (bytes m))))

  -- Groups that pass both tests hold the table.
  unfoldable pub holds : Bool
  holds = each looked 0 table && list_all (λ (g : Bor Group). list_all known g.now) groups

  module _ (t : holds ≡ true) where
    tests : (each looked 0 table ≡ true) × (list_all (λ (g : Bor Group). list_all known g.now) groups ≡ true)
    unfolding holds
    tests = and_both (each looked 0 table) _ t

    -- What is looked up is in the table, with its number.
    look_find : (l : List ℕ) (e : ℕ) → look_up l groups ≡ Some e → find l 0 table ≡ some e
    unfolding look_up
    look_find l e h = go (slice_get groups (length l)) refl h
      where
        go : (o : Option (Bor Group)) → slice_get groups (length l) ≡ o → seek_in l o ≡ Some e → find l 0 table ≡ some e
        go None p k = cc
        go (Some g) p k = sought l e g.now (all_get groups (length l) g tests.1 p) k

    -- What is in the table is looked up as its number.
    find_look : (l : List ℕ) (e : ℕ) → find l 0 table ≡ some e → look_up l groups ≡ Some e
    unfolding looked look_up statements.labels
    find_look l e h =
        let i = each_rule looked l 0 table e tests.0 (good_stands e l h) in
        let p : look_up (bytes i.text) groups ≡ Some (0 + e) = gives_is (0 + e) _ i.passes in
        ap (λ k. look_up k groups) i.is ∙ p ∙ ap Some (zero-add e)

    -- So the two agree.
    agree : (l : List ℕ) → look_up l groups ≡ number (find l 0 table)
    agree l = go (look_up l groups) (find l 0 table) refl refl
      where
        go : (o : Option ℕ) (p : math.Option ℕ) → look_up l groups ≡ o → find l 0 table ≡ p → o ≡ number p
        go None none h g = refl
        go (Some e) p h g = ap number (sym (look_find l e h) ∙ g)
        go None (some e) h g = sym h ∙ find_look l e g

    -- The code's answer.
    pub found : (label : List ℕ) {o : Option ℕ} → o ≡ look_up (map to_ascii_lowercase label) groups → o ≡ number (find (map fold label) 0 table)
    found label h = h ∙ ap (λ l. look_up l groups) (lowered label) ∙ agree (map fold label)

-- The label call by the look-up's answer.
module _ (xs part : List ℕ) (p : part ≡ trimmed xs) where
  called : (o : math.Option ℕ) → find (map fold part) 0 table ≡ o → label xs ≡ answer xs o
  unfolding label
  called o g = ap (λ l. answer xs (find (map fold l) 0 table)) (sym p) ∙ ap (answer xs) g

  pub call_unknown : None ≡ number (find (map fold part) 0 table) →
      ◌≡◌ {A = Found} (record { start = 0; length = 0; refusal = 1; encoding = 0 }) (label xs)
  call_unknown h = go (find (map fold part) 0 table) refl h
    where
      go : (o : math.Option ℕ) → find (map fold part) 0 table ≡ o → None ≡ number o →
          ◌≡◌ {A = Found} (record { start = 0; length = 0; refusal = 1; encoding = 0 }) (label xs)
      go none g k = sym (called none g)
      go (some e) g k = cc

  pub call_known : (e a : ℕ) → a ≡ start xs → Some e ≡ number (find (map fold part) 0 table) →
      ◌≡◌ {A = Found} (record { start = a; length = length part; refusal = 0; encoding = e }) (label xs)
  call_known e a q h = go (find (map fold part) 0 table) refl h
    where
      go : (o : math.Option ℕ) → find (map fold part) 0 table ≡ o → Some e ≡ number o →
          ◌≡◌ {A = Found} (record { start = a; length = length part; refusal = 0; encoding = e }) (label xs)
      go none g k = cc
      go (some i) g k = let j : e ≡ i = cc in rw (j, q, p) (sym (called (some i) g))
