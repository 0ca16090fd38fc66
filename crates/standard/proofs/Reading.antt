-- What decoding some bytes reads: the bytes used up and left over, how what is shown follows from them, and the same of the end of input. Assumes nothing.
use mathlib.Core.Path.{◌≡◌, refl, sym, ap, ◌∙◌}
use mathlib.Core.Bool.{Bool, true, false}
use mathlib.Core.List.{List, [], ◌∷◌, ◌++◌, append_assoc, append-nil}
use Prim.Native.Nat.{ℕ, suc, ◌≤◌}
use native.Mathlib.Omega.{arith}
use lib.Dec.{T, ltb, lit≤}
use lib.ListN.{length, take, drop, length-append, take-append-drop}
use lib.Seq.{length-take-le}
use Rattle.standard.specs.Base.{◌then◌else◌, separators}
use Rattle.standard.specs.Encodings.{Tables, Family, UTF-8, single-byte, windows-1252, GB18030, Big5, EUC-JP, ISO-2022-JP, Shift-JIS, EUC-KR, Replacement, UTF-16BE, UTF-16LE, x-user-defined, traits}
use Rattle.standard.specs.Sequence.{Shift, Out, Next, more, item}
use Rattle.standard.specs.Sequences.Iso2022Jp.{iso2022_jp}
use Rattle.standard.specs.Next.{next}
use Rattle.standard.specs.Decode.{Item, Read, put, decode, widths, one_error, last_out, iso_end, ending, given, shown}
use Rattle.standard.proofs.Laws.{Laws, none0, none1}
use Rattle.standard.proofs.FamilyLaws.{keeps, next_laws}
use Rattle.standard.proofs.Walk.{stop, at_item, nothing, walk}
use Rattle.standard.proofs.Items.{shown_cons}

pub separators_append : (xs ys : List ℕ) → separators (xs ++ ys) ≡ separators xs ++ separators ys
unfolding separators
separators_append [] ys = refl
separators_append (x ∷ xs) ys = go (ltb x 0x30) (separators_append xs ys)
  where
    go : (t : Bool) → separators (xs ++ ys) ≡ separators xs ++ separators ys → (t then x ∷ separators (xs ++ ys) else separators (xs ++ ys)) ≡ (t then x ∷ separators xs else separators xs) ++ separators ys
    go true h = ap (◌∷◌ x) h
    go false h = h

pub record Reading (k : Bool) (f : Shift → List ℕ → Next) (xs : List ℕ) (r : Read) : Type 0 where
  pub used : List ℕ
  pub split : xs ≡ used ++ r.rest
  -- the items' widths are the bytes used up
  pub wide : widths r.items ≡ length used
  pub count : length (shown r.items) ≤ length used
  pub kept : T k → separators (shown r.items) ≡ separators used
  pub waits : f r.shift r.rest ≡ more

module _ (k : Bool) (f : Shift → List ℕ → Next) (L : Laws k f) where
  reading_stop : (s : Shift) (xs : List ℕ) → f s xs ≡ more → Reading k f xs (stop s xs)
  unfolding shown widths
  reading_stop s xs e = record { used = []; split = refl; wide = refl; count = lit≤ tt; kept = λ t. refl; waits = e }

  reading_put : (s : Shift) (xs : List ℕ) (w : ℕ) (s' : Shift) (o : Out) (r : Read) → f s xs ≡ item w s' o → Reading k f (drop w xs) r → Reading k f xs (put w o r)
  unfolding widths
  reading_put s xs w s' o r e h =
      let l = at_item k f L s xs e [] in
      record {
        used = take w xs ++ h.used;
        split = sym (take-append-drop w xs) ∙ ap (λ (ys : List ℕ). take w xs ++ ys) h.split ∙ sym (append_assoc (take w xs) h.used r.rest);
        wide = rw (length-append (take w xs) h.used, length-take-le w xs l.2, h.wide);
        count = rw (shown_cons w o r.items) (simp length-append (omega (arith, length-take-le w xs l.2, l.3, h.count)));
        kept = λ t. ap separators (shown_cons w o r.items) ∙ separators_append (given o) (shown r.items) ∙ rw (← l.4 t, h.kept t) (sym (separators_append (take w xs) h.used));
        waits = h.waits;
      }

  pub reading : (s : Shift) (xs : List ℕ) → Reading k f xs (decode f s xs)
  reading = walk k f L (λ s xs r. Reading k f xs r) reading_stop reading_put

-- The end of input: the items' widths are the bytes held, no more scalars than bytes held, and no separator where separators are kept.
pub record Ending (k : Bool) (xs : List ℕ) (is : List Item) : Type 0 where
  pub wide : widths is ≡ length xs
  pub count : length (shown is) ≤ length xs
  pub kept : T k → separators (shown is) ≡ []

one_error_lem : (k : Bool) (xs : List ℕ) → Ending k xs (one_error xs)
unfolding one_error shown widths
one_error_lem k [] = record { wide = refl; count = lit≤ tt; kept = λ t. none0 }
one_error_lem k (b ∷ xs) = record { wide = omega arith; count = omega arith; kept = λ t. none1 (lit≤ tt) }

iso_end_lem : (t : Tables) (s : Shift) (xs : List ℕ) → Ending false xs (iso_end t s xs)
unfolding iso_end shown widths
iso_end_lem t s [] = record { wide = refl; count = lit≤ tt; kept = λ k. absurd k }
iso_end_lem t s (b ∷ []) = record { wide = refl; count = lit≤ tt; kept = λ k. absurd k }
iso_end_lem t s (b ∷ c ∷ xs) = record { wide = omega arith; count = rw (shown_cons (suc (length xs)) (last_out (next t ISO-2022-JP s (c ∷ []))) []) (simp append-nil (omega (arith, last (next t ISO-2022-JP s (c ∷ [])) refl))); kept = λ k. absurd k }
  where
    last : (a : Next) → next t ISO-2022-JP s (c ∷ []) ≡ a → length (given (last_out a)) ≤ 1
    last more h = lit≤ tt
    last (item w s' o) h = let l = at_item (keeps ISO-2022-JP) (next t ISO-2022-JP) (next_laws t ISO-2022-JP) s (c ∷ []) h [] in omega (arith, l.2, l.3)

pub ending_is : (t : Tables) (f : Family) (s : Shift) (xs : List ℕ) → Ending (keeps f) xs (ending t f s xs)
unfolding ending traits
ending_is t UTF-8 s xs = one_error_lem true xs
ending_is t single-byte s xs = one_error_lem true xs
ending_is t windows-1252 s xs = one_error_lem true xs
ending_is t GB18030 s xs = one_error_lem true xs
ending_is t Big5 s xs = one_error_lem true xs
ending_is t EUC-JP s xs = one_error_lem true xs
ending_is t ISO-2022-JP s xs = iso_end_lem t s xs
ending_is t Shift-JIS s xs = one_error_lem true xs
ending_is t EUC-KR s xs = one_error_lem true xs
ending_is t Replacement s xs = one_error_lem false xs
ending_is t UTF-16BE s xs = one_error_lem false xs
ending_is t UTF-16LE s xs = one_error_lem false xs
ending_is t x-user-defined s xs = one_error_lem true xs

-- What holds of both kinds of end holds of the end of input in every family.
pub either_end : (P : List Item → Type 0) (t : Tables) (f : Family) (s : Shift) (xs : List ℕ) → P (one_error xs) → P (iso_end t s xs) → P (ending t f s xs)
unfolding ending
either_end P t UTF-8 s xs one iso = one
either_end P t single-byte s xs one iso = one
either_end P t windows-1252 s xs one iso = one
either_end P t GB18030 s xs one iso = one
either_end P t Big5 s xs one iso = one
either_end P t EUC-JP s xs one iso = one
either_end P t ISO-2022-JP s xs one iso = iso
either_end P t Shift-JIS s xs one iso = one
either_end P t EUC-KR s xs one iso = one
either_end P t Replacement s xs one iso = one
either_end P t UTF-16BE s xs one iso = one
either_end P t UTF-16LE s xs one iso = one
either_end P t x-user-defined s xs one iso = one

pub no_bytes : (t : Tables) (f : Family) (s : Shift) → ending t f s [] ≡ []
unfolding one_error iso_end
no_bytes t f s = either_end (λ is. is ≡ []) t f s [] refl refl

-- The end of input looks into no table.
pub ending_any : (t t' : Tables) (f : Family) (s : Shift) (xs : List ℕ) → ending t f s xs ≡ ending t' f s xs
unfolding ending iso_end next iso2022_jp
ending_any t t' UTF-8 s xs = refl
ending_any t t' single-byte s xs = refl
ending_any t t' windows-1252 s xs = refl
ending_any t t' GB18030 s xs = refl
ending_any t t' Big5 s xs = refl
ending_any t t' EUC-JP s xs = refl
ending_any t t' ISO-2022-JP s xs = iso_any xs
  where
    iso_any : (xs : List ℕ) → iso_end t s xs ≡ iso_end t' s xs
    iso_any [] = refl
    iso_any (b ∷ []) = refl
    iso_any (b ∷ c ∷ xs) = refl
ending_any t t' Shift-JIS s xs = refl
ending_any t t' EUC-KR s xs = refl
ending_any t t' Replacement s xs = refl
ending_any t t' UTF-16BE s xs = refl
ending_any t t' UTF-16LE s xs = refl
ending_any t t' x-user-defined s xs = refl

-- nothing held
pub empty : (t : Tables) (f : Family) (s : Shift) → next t f s [] ≡ more
empty t f s = nothing (keeps f) (next t f) (next_laws t f) s [] (lit≤ tt)
