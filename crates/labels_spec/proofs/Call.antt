-- The label call: what is found, what is refused, and what makes no difference; the room of the name call. Assumes nothing.
use mathlib.Core.Path.{◌≡◌, refl, sym, ap, ◌∙◌}
use mathlib.Core.Bool.{true}
use mathlib.Core.List.{List, ◌++◌, map, Memᴰ}
use mathlib.Core.Option.{Option, some, none}
use Prim.Native.Nat.{ℕ, ◌+◌, ◌≤◌}
use native.Mathlib.Omega.{arith}
use lib.Dec.{ltb}
use lib.ListN.{length, take, drop, length-append, length-drop, length-map}
use lib.Seq.{take_at, drop_at}
use borrow.Author.Tests.{ltb-false}
use Rattle.standard.specs.Base.{every}
use Rattle.standard.proofs.Tests.{split}
use Rattle.standard.specs.Text.{bytes}
use Rattle.labels_spec.specs.Labels.{table, name, white, fold, start, trimmed, same, among, find, answer, label, naming}
use Rattle.labels_spec.specs.Statements.{labels, known, Finds, Answers, Insensitive, RoomKept, Samples}
use Rattle.labels_spec.specs.declared.Found.{Found}
use Rattle.labels_spec.proofs.Trimming.{trims, around, fold_all, fold_start, fold_trimmed}
use Rattle.labels_spec.proofs.Known.{stands_good, good_stands, named}

-- What is looked up.
abbrev looked : List ℕ → Option ℕ
looked xs = find (map fold (trimmed xs)) 0 table

-- A label that stands in the table is found.
accept : (xs : List ℕ) (e : ℕ) → Memᴰ (map fold (trimmed xs)) (labels e) → label xs ≡ known xs e
unfolding label
accept xs e s = ap (answer xs) (stands_good e (map fold (trimmed xs)) s).found

-- What the answer says of the look-up.
found_of : (xs : List ℕ) (o : Option ℕ) (e : ℕ) → answer xs o ≡ known xs e → o ≡ some e
found_of xs (some k) e h = ap (λ (f : Found). some f.encoding) h
found_of xs none e h = let z : ◌≡◌ {A = ℕ} 1 0 = ap (λ (f : Found). f.refusal) h in absurd (omega arith)

-- Refusal 1 comes where nothing is found.
none_of : (xs : List ℕ) (o : Option ℕ) → (answer xs o).refusal ≡ 1 → o ≡ none
none_of xs (some k) h = absurd (omega arith)
none_of xs none h = refl

-- Nothing found is not a number found.
none_not : {A : Type 0} (o : Option ℕ) (e : ℕ) → o ≡ none → o ≡ some e → A
none_not o e p q = let z : ◌≡◌ {A = ℕ} 0 1 = cc in absurd (omega arith)

-- What is found as no number is refused.
refuse : (xs : List ℕ) (o : Option ℕ) → ((e : ℕ) → o ≡ some e → ⊥) → (answer xs o).refusal ≡ 1
refuse xs (some k) h = absurd (h k refl)
refuse xs none h = refl

-- The place of the part: behind what is taken away in front, within the bytes.
module _ (xs : List ℕ) where
  part : take (length (trimmed xs)) (drop (start xs) xs) ≡ trimmed xs
  part =
      let t = trims xs in
      let p : drop (start xs) xs ≡ trimmed xs ++ t.behind = ap (drop (start xs)) t.whole ∙ drop_at t.before (trimmed xs ++ t.behind) (start xs) t.starts in
      rw p (take_at (trimmed xs) t.behind (length (trimmed xs)) refl)

  -- It lies within the bytes.
  fits : start xs + length (trimmed xs) ≤ length xs
  fits =
      let t = trims xs in
      let p : length xs ≡ length t.before + (length (trimmed xs) + length t.behind) =
      ap length t.whole ∙ length-append t.before (trimmed xs ++ t.behind) ∙ ap (λ n. length t.before + n) (length-append (trimmed xs) t.behind) in
      omega (arith, t.starts)

  -- So does the part of any answer.
  within_of : (o : Option ℕ) → (answer xs o).start + (answer xs o).length ≤ length xs
  within_of (some e) = fits
  within_of none = omega arith

  -- The part of an answer that is not refused is the trimmed label.
  part_of : (o : Option ℕ) → (answer xs o).refusal ≡ 0 → take (answer xs o).length (drop (answer xs o).start xs) ≡ trimmed xs
  part_of (some e) h = part
  part_of none h = absurd (omega arith)

-- The call, for any bytes.
pub answers : (xs : List ℕ) → Answers xs
unfolding label
answers xs = record {
  accepts = λ e. (λ h. good_stands e (map fold (trimmed xs)) (found_of xs (looked xs) e h), accept xs e);
  refuses = (
    λ h e s. none_not (looked xs) e (none_of xs (looked xs) h) (stands_good e (map fold (trimmed xs)) s).found,
    λ h. refuse xs (looked xs) (λ e p. h e (good_stands e (map fold (trimmed xs)) p)),
  );
  refused = λ h. ap (answer xs) (none_of xs (looked xs) h);
  within = within_of xs (looked xs);
  part = part_of xs (looked xs);
}

-- Labels and names of the table.
found_at : (xs : List ℕ) (e : ℕ) → start xs ≡ 0 → trimmed xs ≡ xs → Memᴰ (map fold xs) (labels e) →
    ◌≡◌ {A = Found} (label xs) (record { start = 0; length = length xs; refusal = 0; encoding = e })
found_at xs e b p s =
    accept xs e (rw p s) ∙ ap (λ n. record { start = n; length = length (trimmed xs); refusal = 0; encoding = e }) b ∙
    ap (λ (l : List ℕ). record { start = 0; length = length l; refusal = 0; encoding = e }) p

-- By label and by name.
pub finds : Finds
finds = record {
  by_label = λ e l s. let g = stands_good e l s in found_at l e g.begins g.plain (rw g.lower s);
  by_name = λ e h. let g = named e h in found_at (name e) e g.begins g.plain g.stands;
}

-- White space around, and the letters' case.
same_numbers : (xs ys : List ℕ) (o : Option ℕ) → ((answer xs o).refusal ≡ (answer ys o).refusal) × ((answer xs o).encoding ≡ (answer ys o).encoding)
same_numbers xs ys (some e) = (refl, refl)
same_numbers xs ys none = (refl, refl)

-- White space around the bytes.
around_label : (before xs behind : List ℕ) → every white before ≡ true → every white behind ≡ true →
    ((label (before ++ (xs ++ behind))).refusal ≡ (label xs).refusal) × ((label (before ++ (xs ++ behind))).encoding ≡ (label xs).encoding)
unfolding label
around_label before xs behind h g =
    let p : looked (before ++ (xs ++ behind)) ≡ looked xs = rw (around before xs behind h g) in
    rw p (same_numbers (before ++ (xs ++ behind)) xs (looked xs))

-- The answer for folded bytes is the same.
folded_answer : (xs : List ℕ) (o : Option ℕ) → answer (map fold xs) o ≡ answer xs o
folded_answer xs (some e) =
    let p : length (trimmed (map fold xs)) ≡ length (trimmed xs) = ap length (fold_trimmed xs) ∙ length-map (trimmed xs) fold in
    rw (fold_start xs, p)
folded_answer xs none = refl

-- So is the call's.
folded : (xs : List ℕ) → label (map fold xs) ≡ label xs
unfolding label
folded xs =
    let p : looked (map fold xs) ≡ looked xs = rw (fold_trimmed xs, fold_all (trimmed xs)) in
    rw p (folded_answer xs (looked xs))

-- White space and case.
pub insensitive : Insensitive
insensitive = record { space = around_label; case = λ xs ys h. sym (folded xs) ∙ ap label h ∙ folded ys }

-- The room of the name call.
pub room_kept : RoomKept
unfolding naming
room_kept e room = split (ltb 39 e) (λ h. rw h) (λ h. split (ltb (length room) (length (name e)))
    (λ g. rw (h, g))
    (λ g. rw (h, g) (omega (arith, length-append (name e) (drop (length (name e)) room), length-drop (length (name e)) room, ltb-false (length room) (length (name e)) g))))

-- Each sample is computed.
pub samples : Samples
unfolding label table bytes name start trimmed same among find
samples = record {
  latin1 = refl;
  spaces = refl;
  l2 = refl;
  koi8_r = refl;
  misprints = refl;
  before = refl;
  behind = refl;
  empty = refl;
  inside = refl;
  fold_ends = refl;
  no_digits = refl;
  names = refl;
}
