-- Every list of calls hands out scalars only, whatever the tables, where it takes bytes. Assumes nothing.
use mathlib.Core.Path.{◌≡◌, refl, subst}
use mathlib.Core.Bool.{Bool, true, false}
use mathlib.Core.List.{List, ◌++◌}
use Prim.Native.Nat.{ℕ}
use lib.Dec.{T, eqb}
use lib.ListN.{drop}
use Rattle.standard.specs.Base.{◌then◌else◌, every, Bytes, scalars}
use Rattle.standard.specs.Encodings.{Family, family, Tables, no_tables}
use Rattle.standard.specs.Sequence.{Shift, plain}
use Rattle.standard.specs.Next.{next}
use Rattle.standard.specs.Decode.{Item, Read, decode, ending, shown, broken, before, everything}
use Rattle.standard.specs.Choice.{Choice, waiting, label, marked, choose, reader, Spot, chosen, read_from, end_from}
use Rattle.standard.proofs.Every.{bytes_append, bytes_left, bytes_right, bytes_drop}
use Rattle.standard.proofs.Items.{shown_append, before_append, before_broken}
use Rattle.standard.proofs.OnlyScalars.{scalars_append, decode_scalars, decode_before_scalars}
use Rattle.standard.proofs.OnlyScalars.{rest_bytes, ending_scalars, ending_before_scalars}
use Rattle.standard.proofs.Stages.{Rests, rests_few, read_on_lem, read_choice}
use Rattle.decoder.specs.Record.{held_of, holding}
use Rattle.decoder.specs.declared.Decoder.{Decoder}
use Rattle.decoder.proofs.Records.{held_holding}
use Rattle.demands.specs.Histories.{Call, History}
use Rattle.demands.proofs.Steps.{Step, refused, fed, reported, closes, closes_reported}
use Rattle.demands.proofs.Invariants.{Kept}

-- Items give scalars: all that they show, and what stands before the first error.
record Scalars (is : List Item) : Type 0 where
  all : T (scalars (shown is))
  first : T (scalars (before is))

joined_scalars : (is js : List Item) → Scalars is → Scalars js → Scalars (is ++ js)
joined_scalars is js x y = record {
  all = rw (shown_append is js) (scalars_append (shown is) (shown js) x.all y.all);
  first = go (broken is) refl;
}
  where
    go : (b : Bool) → broken is ≡ b → T (scalars (before (is ++ js)))
    go true q = rw (before_broken is js q) x.first
    go false q = rw (before_append is js q) (scalars_append (shown is) (before js) x.all y.first)

-- what one encoding reads, and the end of it
decoded : (t : Tables) (f : Family) (s : Shift) (xs : List ℕ) → Bytes xs → Scalars (decode (next t f) s xs).items
decoded t f s xs b = record { all = decode_scalars t f s xs b; first = decode_before_scalars t f s xs b }

ended : (t : Tables) (f : Family) (s : Shift) (xs : List ℕ) → Bytes xs → Scalars (ending t f s xs)
ended t f s xs b = record { all = ending_scalars t f s xs b; first = ending_before_scalars t f s xs b }

-- what is read from a spot, and the end there
module _ (t : Tables) (e : ℕ) (p : Spot) (xs : List ℕ) (b : Bytes xs) where
  read_scalars : Scalars (read_from t e p xs).items
  unfolding chosen shown before every
  read_scalars = go (eqb p.stage 1) refl
    where
      choice : (c : Choice) → Scalars (chosen t e xs c).items
      choice waiting = record { all = tt; first = tt }
      choice label = decoded t (family e) plain xs b
      choice (marked w g) =
          let x = decoded t (family (reader e g)) plain (drop w xs) (bytes_drop w xs b) in record { all = x.all; first = x.first }

      go : (y : Bool) → eqb p.stage 1 ≡ y → Scalars (read_from t e p xs).items
      go true g = rw (read_choice t e p xs g) (choice (choose xs))
      go false g = rw (read_on_lem t e p xs g) (decoded t (family (reader e p.stage)) p.shift xs b)

  end_scalars : Scalars (end_from t e p xs)
  unfolding end_from everything
  end_scalars = go (eqb p.stage 1)
    where
      f : Family
      f = family e

      r : Read
      r = decode (next t (family e)) plain xs

      go : (y : Bool) → Scalars (y then everything t (family e) plain xs else ending no_tables (family (reader e p.stage)) p.shift xs)
      go true = joined_scalars r.items (ending t f r.shift r.rest) (decoded t f plain xs b)
          (ended t f r.shift r.rest (rest_bytes t f plain xs b))
      go false = ended no_tables (family (reader e p.stage)) p.shift xs b

-- the bytes held are among those taken
module _ (e m n l : ℕ) (p₀ : Spot) (taken handed : List ℕ) (s : Spot) (xs : List ℕ) (w : Rests e s xs)
    (k : Kept e m p₀ taken handed (held_of (holding e m n l s xs))) where
  held_bytes : Bytes taken → Bytes xs
  held_bytes b =
      let k' = rw (held_holding e m n l s xs (rests_few e s xs w)) at k in bytes_right k'.used xs (subst Bytes k'.split b)

  read_bytes : (chunk : List ℕ) → Bytes (taken ++ chunk) → Bytes (xs ++ chunk)
  read_bytes chunk b = bytes_append xs chunk (held_bytes (bytes_left taken chunk b)) (bytes_right taken chunk b)

pub scalar_step : (e m : ℕ) (p₀ : Spot) {taken handed : List ℕ} {d : Decoder} {c : Call} {h : History} {n : ℕ} →
    Step e m taken handed d c h n → Kept e m p₀ taken handed (held_of d) → (Bytes taken → T (scalars handed)) →
    Bytes h.taken → T (scalars h.handed)
scalar_step e m p₀ (refused d c n p) k i b = i b
scalar_step e m p₀ {taken} {handed} (fed n l s xs chunk t room w z q) k i b =
    scalars_append handed _ (i (bytes_left taken chunk b))
    (read_scalars t e s (xs ++ chunk) (read_bytes e m n l p₀ taken handed s xs w k chunk b)).all
scalar_step e m p₀ {taken} {handed} (reported n l s xs chunk t room w z q) k i b =
    scalars_append handed _ (i (bytes_left taken chunk b))
    (read_scalars t e s (xs ++ chunk) (read_bytes e m n l p₀ taken handed s xs w k chunk b)).first
scalar_step e m p₀ {taken} {handed} (closes n l s xs t room w z q) k i b =
    scalars_append handed _ (i b) (end_scalars t e s xs (held_bytes e m n l p₀ taken handed s xs w k b)).all
scalar_step e m p₀ {taken} {handed} (closes_reported n l s xs t room w z q) k i b =
    scalars_append handed _ (i b) (end_scalars t e s xs (held_bytes e m n l p₀ taken handed s xs w k b)).first
