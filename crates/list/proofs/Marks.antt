-- The marks of the slots over the lines. Assumes nothing.
use Rattle.std.proofs.Common.{◌≡◌, refl, sym, ap, ◌∙◌, ℕ, suc, zero, ◌-◌, ◌<◌, ◌≤◌, Bool, true, false, ◌||◌, true≢false, List, ◌∷◌, length, take, get_or, set, replicate, Option, Some, None, arith, length-take, length-drop, length-set}
use lib.Dec.{ltb}
use lib.Seq.{slice, get_or-set_same, get_or-set_other}
use borrow.Author.Tests.{lt-ltb, le-ltb, ltb-true, ltb-false}
use Rattle.standard.specs.Base.{◌then◌else◌}
use Rattle.list_spec.specs.Lines.{TAB, before, same, Line, lines_of, chars_of, name_of}
use Rattle.list_spec.specs.ListCall.{used_before}
use Rattle.list_spec.proofs.Parts.{same_true, same_refl}
use Rattle.list_spec.proofs.Turns.{lines_at}
use Rattle.list.specs.Walking.{name_fault}
use Rattle.list.specs.Slots.{look_of, Marked, mark, mark_of}
use Rattle.list.proofs.Known.{used_end}
use Rattle.list.proofs.Slotted.{found_known, one_slot}

-- Used before a later place: before this one, or in the lines from here on.
unfoldable pub Split : List ℕ → ℕ → ℕ → Type 0
Split text n a =
    (x : List ℕ) (to : ℕ) → a ≤ to →
    used_before text to x (lines_of text) ≡ (used_before text a x (lines_of text) || used_before text to x (lines_at text n a))

pub split_start : (text : List ℕ) → Split text 1 0
unfolding Split
split_start text x to h = rw (used_end text 0 x 1 0 (omega arith))

or_assoc : (a b c : Bool) → (a || (b || c)) ≡ ((a || b) || c)
or_assoc true b c = refl
or_assoc false b c = refl

or-true : (a : Bool) → (a || true) ≡ true
or-true true = refl
or-true false = refl

or-false : (a : Bool) → (a || false) ≡ a
or-false true = refl
or-false false = refl

-- nothing stands between a place and one that is not behind it
gone : (s e : ℕ) (text : List ℕ) → e ≤ s → length (slice s e text) ≡ 0
gone s e text h = length-drop s (take e text) ∙ let z : length (take e text) - s ≡ 0 = omega (arith, length-take e text) in z

-- over the line l from a on, behind which the lines go on at b
module _ (text : List ℕ) (n a n' b : ℕ) (l : Line) (e : lines_at text n a ≡ l ∷ lines_at text n' b) (o : l.start ≡ a) (g : a < b)
    (S : Split text n a) where
  abbrev used : ℕ → List ℕ → Bool
  used to x = used_before text to x (lines_of text)

  abbrev later : ℕ → List ℕ → Bool
  later to x = used_before text to x (lines_at text n' b)

  over : (x : List ℕ) (to : ℕ) → b ≤ to → used to x ≡ ((used a x || same (name_of text l) x) || later to x)
  unfolding Split used_before
  over x to h =
      S x to (omega arith) ∙ ap (λ (ms : List Line). used a x || used_before text to x ms) e ∙
      simp (lt-ltb l.start to (omega arith)) (go (same (name_of text l) x))
    where
      go : (t : Bool) → (used a x || (t then true else later to x)) ≡ ((used a x || t) || later to x)
      go true = or_assoc (used a x) true (later to x)
      go false = or_assoc (used a x) false (later to x)

  used_next : (x : List ℕ) → used b x ≡ (used a x || same (name_of text l) x)
  used_next x =
      over x b (omega arith) ∙ ap (λ (t : Bool). (used a x || same (name_of text l) x) || t) (used_end text b x n' b (omega arith)) ∙
      or-false _

  pub split_on : Split text n' b
  unfolding Split
  split_on x to h = over x to h ∙ ap (λ (t : Bool). t || later to x) (sym (used_next x))

  -- the marks after this line
  module _ (names slots : List ℕ) (marks : List Bool) (M : Marked text names slots marks a) where
    -- an empty line has no name
    not_empty : (x : List ℕ) → 0 < length x → name_of text l ≡ x → l.start < l.stop
    unfolding name_of
    not_empty x h r = go (ltb l.start l.stop) refl
      where
        go : (t : Bool) → ltb l.start l.stop ≡ t → l.start < l.stop
        go true i = ltb-true l.start l.stop i
        go false i = absurd (omega (
          arith,
          ap length r,
          length-take (before TAB (chars_of text l)) (chars_of text l),
          gone l.start l.stop text (ltb-false l.start l.stop i),
        ))

    abbrev after : List Bool
    after = mark_of text names slots marks l

    mark_same : (x : List ℕ) (j : ℕ) → 0 < length x → look_of slots names x ≡ Some j → j < length marks → name_of text l ≡ x →
        true ≡ get_or after j false
    unfolding mark_of mark
    mark_same x j h i b r = simp (lt-ltb l.start l.stop (not_empty x h r), r, i) (sym (get_or-set_same marks j true false b))

    mark_other : (x : List ℕ) (j : ℕ) → look_of slots names x ≡ Some j → (name_of text l ≡ x → ⊥) → get_or after j false ≡ get_or marks j false
    unfolding mark_of mark
    mark_other x j i r = go (ltb l.start l.stop) (look_of slots names (name_of text l)) refl
      where
        go : (t : Bool) (o : Option ℕ) → look_of slots names (name_of text l) ≡ o →
            get_or (t then mark o marks else marks) j false ≡ get_or marks j false
        go true (Some k) e =
            get_or-set_other marks k j true false (λ z. r (one_slot slots names j (name_of text l) x (e ∙ ap Some (sym z)) i))
        go true None e = refl
        go false o e = refl

    same_length : length after ≡ length marks
    unfolding mark_of mark
    same_length = go (ltb l.start l.stop) (look_of slots names (name_of text l))
      where
        go : (t : Bool) (o : Option ℕ) → length (t then mark o marks else marks) ≡ length marks
        go true (Some k) = length-set marks k true
        go true None = refl
        go false o = refl

    mark_on : Marked text names slots after b
    unfolding Marked
    mark_on x j h i k = used_next x ∙ go (same (name_of text l) x) refl
      where
        below : j < length marks
        below = omega (arith, same_length)

        go : (t : Bool) → same (name_of text l) x ≡ t → (used a x || t) ≡ get_or after j false
        go true z = or-true (used a x) ∙ mark_same x j h i below (same_true (name_of text l) x z)
        go false z =
            let other : name_of text l ≡ x → ⊥ =
            λ r. true≢false (sym (same_refl x) ∙ ap (λ (y : List ℕ). same y x) (sym r) ∙ z) in
            or-false (used a x) ∙ M x j h i below ∙ sym (mark_other x j i other)

    pub mark_next : (marks' : List Bool) → marks' ≡ after → Marked text names slots marks' b
    mark_next marks' d = rw d mark_on

-- no marks at the start
zeros : (n j : ℕ) → ◌≡◌ {A = Bool} (get_or (replicate n false) j false) false
zeros zero j = refl
zeros (suc n) zero = refl
zeros (suc n) (suc j) = zeros n j

pub mark_none : (text names slots : List ℕ) (n : ℕ) → Marked text names slots (replicate n false) 0
unfolding Marked
mark_none text names slots n x j h i k = used_end text 0 x 1 0 (omega arith) ∙ sym (zeros n j)

-- an empty line
pub mark_empty : (text names slots : List ℕ) (marks : List Bool) (l : Line) → l.stop ≤ l.start → marks ≡ mark_of text names slots marks l
unfolding mark_of
mark_empty text names slots marks l h = simp (le-ltb l.start l.stop h)

-- a line with the name x
module _ (text names slots : List ℕ) (marks : List Bool) (l : Line) (h : l.start < l.stop) (x : List ℕ) (name : x ≡ name_of text l) where
  pub miss_mark : None ≡ look_of slots names x → marks ≡ mark_of text names slots marks l
  unfolding mark_of mark
  miss_mark d = simp (lt-ltb l.start l.stop h, sym name, sym d)

  -- whose slot is j
  module _ (j : ℕ) (d : Some j ≡ look_of slots names x) where
    pub hit_mark : set marks j true ≡ mark_of text names slots marks l
    unfolding mark_of mark
    hit_mark = simp (lt-ltb l.start l.stop h, sym name, sym d)

    module _ (b : j < length marks) (M : Marked text names slots marks l.start) (long : 0 < length x) where
      told : used_before text l.start x (lines_of text) ≡ get_or marks j false
      unfolding Marked
      told = M x j long (sym d) b

      pub hit_used : get_or marks j false ≡ true → 18 ≡ name_fault text names l.start x
      unfolding name_fault
      hit_used c = sym (simp (found_known slots names j x (sym d), told, c))

      pub hit_free : get_or marks j false ≡ false → 0 ≡ name_fault text names l.start x
      unfolding name_fault
      hit_free c = sym (simp (found_known slots names j x (sym d), told, c))
