-- The known names one by one, and the names of the lines before a place. Assumes nothing.
use Rattle.std.proofs.Common.{◌≡◌, refl, sym, ap, ◌∙◌, ℕ, suc, ◌+◌, ◌-◌, ◌<◌, ◌≤◌, Bool, true, false, ◌||◌, List, [], ◌∷◌, length, take, drop, arith}
use Rattle.std.proofs.lemmas.List.{take_rest}
use Rattle.std.specs.List.{list_any}
use Rattle.std.specs.Cmp.Lexicographic.{pointwise}
use lib.Dec.{eqb}
use lib.Seq.{drop-drop}
use borrow.Author.Tests.{lt-ltb, le-ltb}
use Rattle.standard.specs.Base.{◌then◌else◌}
use Rattle.list_spec.specs.Lines.{TAB, LF, before, same, name_of, on_first, names_of, among}
use Rattle.list_spec.specs.ListCall.{used_before}
use Rattle.list_spec.proofs.Turns.{lines_at, lines_end}
use Rattle.list_spec.proofs.Lies.{low, by_lines, next}
use Rattle.list.specs.Walking.{line_with, LineAt}
use Rattle.list.proofs.Characters.{same_is}

-- the known names, the first of them cut off; none, where no line feed closes one
names_cut : (l : List ℕ) → before LF l < length l → names_of l ≡ take (before LF l) l ∷ names_of (drop (suc (before LF l)) l)
unfolding names_of before
names_cut [] h = absurd (omega arith)
names_cut (c ∷ cs) h = go (eqb c LF) (names_cut cs) h
  where
    go : (b : Bool) → (before LF cs < length cs → names_of cs ≡ take (before LF cs) cs ∷ names_of (drop (suc (before LF cs)) cs)) →
        (b then 0 else suc (before LF cs)) < suc (length cs) →
        let k = b then 0 else suc (before LF cs) in
        (b then [] ∷ names_of cs else on_first c (names_of cs)) ≡ take k (c ∷ cs) ∷ names_of (drop (suc k) (c ∷ cs))
    go true r h = refl
    go false r h = ap (on_first c) (r (omega arith))

pub names_none : (l : List ℕ) → before LF l ≡ length l → names_of l ≡ []
unfolding names_of before
names_none [] h = refl
names_none (c ∷ cs) h = go (eqb c LF) (names_none cs) h
  where
    go : (b : Bool) → (before LF cs ≡ length cs → names_of cs ≡ []) → (b then 0 else suc (before LF cs)) ≡ suc (length cs) →
        (b then [] ∷ names_of cs else on_first c (names_of cs)) ≡ []
    go true r h = absurd (omega arith)
    go false r h = ap (on_first c) (r (omega arith))

-- the first name, as the walk cuts it off
pub names_turn : (l : List ℕ) (k : ℕ) → k ≡ before LF l → k < length l → (front back : List ℕ) → front ≡ take k l → back ≡ drop k l →
    names_of l ≡ front ∷ names_of (take (length back - 1) (drop 1 back))
names_turn l k e h front back f b =
    let z : k + 1 ≡ suc k = omega arith in
    let d : take (length back - 1) (drop 1 back) ≡ drop (suc k) l =
    take_rest back 1 ∙ ap (drop 1) b ∙ drop-drop 1 k l ∙ ap (λ (i : ℕ). drop i l) z in
    rw (d, f, e) (names_cut l (omega arith))

-- among the known names, as the walk asks it
pub among_any : (x : List ℕ) (ys : List (List ℕ)) → among x ys ≡ list_any (λ y. pointwise eqb y x) ys
unfolding among
among_any x [] = refl
among_any x (y ∷ ys) = go (pointwise eqb y x) (same y x) (same_is y x) (among_any x ys)
  where
    go : (b c : Bool) → b ≡ c → among x ys ≡ list_any (λ y. pointwise eqb y x) ys →
        (c then true else among x ys) ≡ (b || list_any (λ y. pointwise eqb y x) ys)
    go true c e r = rw (sym e)
    go false c e r = rw (sym e, r)

-- no line that begins at a place, or behind it, begins before it
pub used_end : (text : List ℕ) (to : ℕ) (x : List ℕ) (n a : ℕ) → to ≤ a → used_before text to x (lines_at text n a) ≡ false
unfolding used_before
used_end text to x n a =
    by_lines text (λ n a. to ≤ a → used_before text to x (lines_at text n a) ≡ false)
    (λ n a h o. ap (used_before text to x) (lines_end text n a h))
    (λ n a h r o. ap (used_before text to x) (next text n a h) ∙ simp (le-ltb a to o) (r (omega (arith, low text a h))))
    (length text) n a (omega arith)

pub used_none : (text : List ℕ) (to : ℕ) (x : List ℕ) (n a : ℕ) → length text ≤ a → used_before text to x (lines_at text n a) ≡ false
unfolding used_before
used_none text to x n a h = ap (used_before text to x) (lines_end text n a h)

-- the line of a walk, with its characters
module _ (text : List ℕ) (n a m b : ℕ) (chars : List ℕ) (n' a' : ℕ) (s : LineAt text n a m b chars n' a') where
  pub line_name : take (before TAB chars) chars ≡ name_of text (line_with m b chars)
  unfolding name_of
  line_name = rw (sym s.lies.are)

  -- used before, one turn
  module _ (to : ℕ) (x name : List ℕ) (d : name ≡ take (before TAB chars) chars) (h : b < to) where
    named : pointwise eqb name x ≡ same (name_of text (line_with m b chars)) x
    named = same_is name x ∙ ap (λ (y : List ℕ). same y x) (d ∙ line_name)

    pub used_hit : true ≡ pointwise eqb name x → true ≡ used_before text to x (lines_at text n a)
    unfolding used_before
    used_hit g = rw s.turn (simp (lt-ltb b to h, sym (g ∙ named)))

    pub used_on : false ≡ pointwise eqb name x → used_before text to x (lines_at text n a) ≡ used_before text to x (lines_at text n' a')
    unfolding used_before
    used_on g = rw s.turn (simp (lt-ltb b to h, sym (g ∙ named)))
