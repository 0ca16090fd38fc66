-- Where an encoding keeps separators: none is held, and those handed out are those read, also up to the first error. Assumes nothing.
use mathlib.Core.Path.{◌≡◌, refl, sym, ap, ◌∙◌}
use mathlib.Core.List.{List, [], ◌++◌, append-nil}
use Prim.Native.Nat.{ℕ}
use lib.Dec.{T}
use lib.ListN.{take, drop}
use lib.Seq.{take-add}
use Rattle.standard.specs.Base.{separators}
use Rattle.standard.specs.Encodings.{Tables, Family}
use Rattle.standard.specs.Sequence.{Shift, Out, text, error, more, item}
use Rattle.standard.specs.Next.{next}
use Rattle.standard.specs.Decode.{Read, put, decode, shown, before, reach}
use Rattle.standard.proofs.FamilyLaws.{keeps, next_laws}
use Rattle.standard.proofs.Walk.{at_item, at_more, walk}
use Rattle.standard.proofs.Reading.{separators_append, reading}

module _ (t : Tables) (f : Family) (k : T (keeps f)) where
  pub none_held_lem : (s : Shift) (xs : List ℕ) → next t f s xs ≡ more → separators xs ≡ []
  none_held_lem s xs w = (at_more (keeps f) (next t f) (next_laws t f) s xs w).1 k

  pub read_separators : (s : Shift) (xs : List ℕ) → separators (shown (decode (next t f) s xs).items) ≡ separators xs
  read_separators s xs =
      let R = reading (keeps f) (next t f) (next_laws t f) s xs in
      let r = decode (next t f) s xs in
      R.kept k ∙ sym (ap separators R.split ∙ separators_append R.used r.rest ∙
      ap (λ (l : List ℕ). separators R.used ++ l) (none_held_lem r.shift r.rest R.waits) ∙ append-nil (separators R.used))

  -- a chunk behind bytes that hold no separator
  pub chunk_separators : (s : Shift) (xs chunk : List ℕ) → separators xs ≡ [] →
      separators (shown (decode (next t f) s (xs ++ chunk)).items) ≡ separators chunk
  chunk_separators s xs chunk h = read_separators s (xs ++ chunk) ∙ separators_append xs chunk ∙ ap (λ (l : List ℕ). l ++ separators chunk) h

  abbrev Sound : List ℕ → Read → Type 0
  Sound xs r = separators (before r.items) ≡ separators (take (reach r.items) xs)

  sound_put : (s : Shift) (xs : List ℕ) (w : ℕ) (s' : Shift) (o : Out) (r : Read) → next t f s xs ≡ item w s' o → Sound (drop w xs) r → Sound xs (put w o r)
  unfolding before reach
  sound_put s xs w s' error r e h = refl
  sound_put s xs w s' (text cs) r e h =
      let L = at_item (keeps f) (next t f) (next_laws t f) s xs e [] in
      separators_append cs (before r.items) ∙ rw (← L.4 k, h) (sym (ap separators (take-add w (reach r.items) xs) ∙
      separators_append (take w xs) (take (reach r.items) (drop w xs))))

  pub before_separators : (s : Shift) (xs : List ℕ) → Sound xs (decode (next t f) s xs)
  unfolding before reach
  before_separators = walk (keeps f) (next t f) (next_laws t f) (λ s xs r. Sound xs r) (λ s xs e. refl) sound_put
