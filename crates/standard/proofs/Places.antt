-- The place of the first error is the length of the longest front that 000's machine reads without one. Assumes nothing.
use mathlib.Core.Path.{◌≡◌, refl, sym, ap, ◌∙◌, subst}
use mathlib.Core.Bool.{Bool, true, false, not}
use mathlib.Core.List.{List, [], ◌∷◌, ◌++◌}
use mathlib.Core.Option.{some}
use Prim.Native.Nat.{ℕ, zero, suc, ◌+◌, ◌-◌, ◌≤◌, ◌<◌}
use native.Mathlib.Omega.{arith}
use lib.Dec.{T, eqb}
use lib.ListN.{length, take, drop, take-append-drop, length-take, length-drop}
use borrow.Author.Tests.{eqb-true, eqb-false}
use lib.Seq.{length-take-le, take-add, drop_at}
use Rattle.standard.specs.Base.{◌then◌else◌, Bytes}
use Rattle.standard.specs.Encodings.{Tables, Family}
use Rattle.standard.specs.Machine.{fatal, finished}
use Rattle.standard.specs.Machine.{error as failed}
use Rattle.standard.specs.Standard.{standard, comes_through, longest, standard_place}
use Rattle.standard.specs.Sequence.{Shift, Out, text, error, Next, more, item, plain}
use Rattle.standard.specs.Next.{next}
use Rattle.standard.specs.Decode.{Item, span, one_error, iso_end, ending, shown, broken, before, reach, everything}
use Rattle.standard.specs.Places.{Places}
use Rattle.standard.proofs.Every.{bytes_take}
use Rattle.standard.proofs.FamilyLaws.{keeps, next_laws}
use Rattle.standard.proofs.Walk.{at_item, decode_more, decode_item}
use Rattle.standard.proofs.Items.{shown_cons, reach_widths}
use Rattle.standard.proofs.Reading.{either_end, no_bytes, empty}
use Rattle.standard.proofs.Widths.{all_widths}
use Rattle.standard.proofs.Decided.{next_own}
use Rattle.standard.proofs.Whole.{standard_fatal}

-- Bytes held at the end of input are an error at their first byte.
pub record Stuck (is : List Item) : Type 0 where
  pub at_once : reach is ≡ 0
  pub silent : before is ≡ []
  pub fails : broken is ≡ true

stuck_iso : (t : Tables) (s : Shift) (b : ℕ) (xs : List ℕ) → Stuck (iso_end t s (b ∷ xs))
unfolding iso_end reach broken before
stuck_iso t s b [] = record { at_once = refl; silent = refl; fails = refl }
stuck_iso t s b (c ∷ xs) = record { at_once = refl; silent = refl; fails = refl }

pub stuck_end : (t : Tables) (f : Family) (s : Shift) (b : ℕ) (xs : List ℕ) → Stuck (ending t f s (b ∷ xs))
unfolding one_error reach broken before
stuck_end t f s b xs = either_end Stuck t f s (b ∷ xs) (record { at_once = refl; silent = refl; fails = refl }) (stuck_iso t s b xs)

module _ (t : Tables) (f : Family) where
  abbrev all : Shift → List ℕ → List Item
  all s xs = everything t f s xs

  -- the front of xs up to its first error
  abbrev sound : Shift → List ℕ → List ℕ
  sound s xs = take (reach (all s xs)) xs

  all_more : (s : Shift) (xs : List ℕ) → next t f s xs ≡ more → all s xs ≡ ending t f s xs
  unfolding everything
  all_more s xs e = rw (decode_more (keeps f) (next t f) (next_laws t f) s xs e)

  all_item : (s : Shift) (xs : List ℕ) {w : ℕ} {s' : Shift} {o : Out} → next t f s xs ≡ item w s' o → all s xs ≡ span w o ∷ all s' (drop w xs)
  unfolding everything
  all_item s xs e = rw (decode_item (keeps f) (next t f) (next_laws t f) s xs e)

  all_none : (s : Shift) → all s [] ≡ []
  all_none s = all_more s [] (empty t f s) ∙ no_bytes t f s

  stuck_all : (s : Shift) (xs : List ℕ) → next t f s xs ≡ more → 1 ≤ length xs → Stuck (all s xs)
  stuck_all s [] e h = absurd (omega arith)
  stuck_all s (b ∷ xs) e h = rw (all_more s (b ∷ xs) e) (stuck_end t f s b xs)

  -- What is read of a front: no error up to the first one, and always one behind it.
  record Placed (s : Shift) (xs : List ℕ) : Type 0 where
    clear : broken (all s (sound s xs)) ≡ false
    same : broken (all s xs) ≡ true → shown (all s (sound s xs)) ≡ before (all s xs)
    beyond : (n : ℕ) → reach (all s xs) < n → n ≤ length xs → broken (all s xs) ≡ true → broken (all s (take n xs)) ≡ true

  -- a sequence at the front of a front is the sequence at the front of the whole
  front_of : (s : Shift) (xs : List ℕ) (n : ℕ) {w : ℕ} {s' : Shift} {o : Out} → next t f s (take n xs) ≡ item w s' o → next t f s xs ≡ item w s' o
  front_of s xs n e = rw (← take-append-drop n xs) (at_item (keeps f) (next t f) (next_laws t f) s (take n xs) e (drop n xs)).0

  -- where no text is at the front of xs, a front of at least a byte has an error, or waits with bytes held
  stops : (s : Shift) (xs : List ℕ) (n : ℕ) → 1 ≤ n → n ≤ length xs →
      ((w : ℕ) (s' : Shift) (o : Out) → next t f s xs ≡ item w s' o → o ≡ error) → broken (all s (take n xs)) ≡ true
  unfolding broken
  stops s xs n l h bad = go (next t f s (take n xs)) refl
    where
      go : (a : Next) → next t f s (take n xs) ≡ a → broken (all s (take n xs)) ≡ true
      go more e = (stuck_all s (take n xs) e (simp length-take (omega arith))).fails
      go (item w s' o) e = let z = bad w s' o (front_of s xs n e) in rw (all_item s (take n xs) e, z)

  -- nothing at all
  placed_none : (s : Shift) → Placed s []
  unfolding broken reach
  placed_none s =
      record {
        clear = rw (all_none s, all_none s);
        same = λ b. absurd (subst T (sym b ∙ ap broken (all_none s)) tt);
        beyond = λ n l g b. absurd (omega arith);
      }

  -- an error at the very front, or bytes held
  placed_stuck : (s : Shift) (xs : List ℕ) → Stuck (all s xs) → ((w : ℕ) (s' : Shift) (o : Out) → next t f s xs ≡ item w s' o → o ≡ error) → Placed s xs
  unfolding broken shown
  placed_stuck s xs h bad =
      record {
        clear = rw (h.at_once, all_none s);
        same = λ b. rw (h.at_once, all_none s) (sym h.silent);
        beyond = λ n l g b. stops s xs n (omega arith) g bad;
      }

  -- a front that has all of a text: this wants the text decided by its own bytes
  part : (s : Shift) (xs : List ℕ) {w : ℕ} {s' : Shift} {cs : List ℕ} → next t f s xs ≡ item w s' (text cs) →
      (n : ℕ) → all s (take (w + n) xs) ≡ span w (text cs) ∷ all s' (take n (drop w xs))
  part s xs {w} {s'} {cs} e n =
      let L = at_item (keeps f) (next t f) (next_laws t f) s xs e [] in
      let whole : next t f s (take w xs ++ drop w xs) ≡ item w s' (text cs) = rw (take-append-drop w xs) e in
      let long : length (take w xs) ≡ w = length-take-le w xs L.2 in
      let own : next t f s (take w xs) ≡ item w s' (text cs) = (next_own t f s (take w xs) (drop w xs)).own w s' cs whole (omega arith) in
      let again = (at_item (keeps f) (next t f) (next_laws t f) s (take w xs) own (take n (drop w xs))).0 in
      rw (take-add w n xs, all_item s (take w xs ++ take n (drop w xs)) again, drop_at (take w xs) (take n (drop w xs)) w long)

  placed_text : (s : Shift) (xs : List ℕ) {w : ℕ} {s' : Shift} {cs : List ℕ} → next t f s xs ≡ item w s' (text cs) → Placed s' (drop w xs) → Placed s xs
  unfolding broken reach before
  placed_text s xs {w} {s'} {cs} e I =
      let r = reach (all s' (drop w xs)) in
      let far : reach (all s xs) ≡ w + r = rw (all_item s xs e) in
      let behind : broken (all s xs) ≡ broken (all s' (drop w xs)) = ap broken (all_item s xs e) in
      record {
        clear = rw far (ap broken (part s xs e r) ∙ I.clear);
        same = λ b. rw far (ap shown (part s xs e r) ∙ shown_cons w (text cs) (all s' (take r (drop w xs))) ∙
            ap (λ (l : List ℕ). cs ++ l) (I.same (sym behind ∙ b)) ∙ sym (ap before (all_item s xs e)));
        beyond = λ n l g b.
            let m : n ≡ w + (n - w) = omega (arith, far) in
            ap (λ (k : ℕ). broken (all s (take k xs))) m ∙ ap broken (part s xs e (n - w)) ∙
            I.beyond (n - w) (omega (arith, far)) (simp length-drop (omega arith)) (sym behind ∙ b);
      }

  placed_more : (s : Shift) (xs : List ℕ) → next t f s xs ≡ more → Placed s xs
  placed_more s [] e = placed_none s
  placed_more s (x ∷ xs) e = placed_stuck s (x ∷ xs) (stuck_all s (x ∷ xs) e (omega arith)) (λ w s' o e'. let z : ◌≡◌ {A = ℕ} 0 1 = cc in absurd (omega arith))

  placed : (n : ℕ) (s : Shift) (xs : List ℕ) → length xs ≤ n → Placed s xs
  unfolding broken reach before
  placed zero s [] h = placed_none s
  placed zero s (x ∷ xs) h = absurd (omega arith)
  placed (suc k) s xs h = go (next t f s xs) refl (λ s' ys. placed k s' ys)
    where
      go : (a : Next) → next t f s xs ≡ a → ((s' : Shift) (ys : List ℕ) → length ys ≤ k → Placed s' ys) → Placed s xs
      go more e ih = placed_more s xs e
      go (item w s' error) e ih = placed_stuck s xs (rw (all_item s xs e) (record { at_once = refl; silent = refl; fails = refl })) (λ w' s'' o e'. cc)
      go (item w s' (text cs)) e ih =
          let L = at_item (keeps f) (next t f) (next_laws t f) s xs e [] in
          placed_text s xs e (ih s' (drop w xs) (simp length-drop (omega (arith, L.1, L.2))))

-- the longest front, found
longest_is : (p : List ℕ → Bool) (xs : List ℕ) (r : ℕ) → p (take r xs) ≡ true →
    (n : ℕ) → r ≤ n → ((k : ℕ) → r < k → k ≤ n → p (take k xs) ≡ false) → longest p xs n ≡ r
unfolding longest
longest_is p xs r h zero l out = omega arith
longest_is p xs r h (suc n) l out = go (eqb r (suc n)) refl (λ a b. longest_is p xs r h n a b)
  where
    go : (b : Bool) → eqb r (suc n) ≡ b → (r ≤ n → ((k : ℕ) → r < k → k ≤ n → p (take k xs) ≡ false) → longest p xs n ≡ r) →
        (p (take (suc n) xs) then suc n else longest p xs n) ≡ r
    go true e ih = let z : r ≡ suc n = eqb-true r (suc n) e in rw (← z, h)
    go false e ih =
        let z : r ≡ suc n → ⊥ = eqb-false r (suc n) e in
        rw (out (suc n) (omega arith) (omega arith)) (ih (omega arith) (λ k a b. out k a (omega arith)))

-- 000's machine reads a front without an error, in mode "fatal", exactly where the sequences have none
comes_through_lem : (t : Tables) (f : Family) (xs : List ℕ) → Bytes xs → comes_through (standard t f fatal xs) ≡ not (broken (everything t f plain xs))
comes_through_lem t f xs p = ap comes_through (standard_fatal t f xs p) ∙ go (broken (everything t f plain xs))
  where
    go : (b : Bool) → comes_through (some (b then record { result = failed; output = before (everything t f plain xs) }
        else record { result = finished; output = shown (everything t f plain xs) })) ≡ not b
    go true = refl
    go false = refl

pub places : (t : Tables) (f : Family) (xs : List ℕ) → Bytes xs → broken (everything t f plain xs) ≡ true → Places t f xs
unfolding standard_place
places t f xs p b =
    let P = placed t f (length xs) plain xs (omega arith) in
    let r = reach (everything t f plain xs) in
    let is : standard_place t f xs ≡ r =
    longest_is (λ ys. comes_through (standard t f fatal ys)) xs r
    (comes_through_lem t f (take r xs) (bytes_take r xs p) ∙ ap not P.clear)
    (length xs) (omega (arith, reach_widths (everything t f plain xs), all_widths.whole t f plain xs))
    (λ k l g. comes_through_lem t f (take k xs) (bytes_take k xs p) ∙ ap not (P.beyond k l g b)) in
    record {
      place = is;
      front = ap (λ (n : ℕ). standard t f fatal (take n xs)) is ∙ standard_fatal t f (take r xs) (bytes_take r xs p) ∙ rw (P.clear, P.same b);
    }
