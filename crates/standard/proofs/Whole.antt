-- 000's decoder on a whole input gives what the sequences say; a dropped mark. Assumes nothing.
use mathlib.Core.Path.{◌≡◌, refl, sym, ap, ◌∙◌}
use mathlib.Core.Bool.{Bool, true, false}
use mathlib.Core.List.{List, [], ◌∷◌, ◌++◌, append-nil}
use mathlib.Core.Option.{some}
use Prim.Native.Nat.{ℕ, zero, suc, ◌+◌, ◌*◌, ◌≤◌}
use native.Mathlib.Omega.{arith}
use lib.Dec.{eqb}
use lib.ListN.{length, drop}
use Rattle.standard.specs.Base.{◌then◌else◌, Bytes}
use Rattle.standard.specs.Encodings.{Tables, Family, UTF-8, single-byte, windows-1252, GB18030, Big5, EUC-JP, ISO-2022-JP, Shift-JIS, EUC-KR, Replacement, UTF-16BE, UTF-16LE, x-user-defined, traits}
use Rattle.standard.specs.Machine.{Token, token, end_of-stream, finished, Mode, replacement, fatal, run, stream}
use Rattle.standard.specs.Machine.{error as failed}
use Rattle.standard.specs.Handlers.{replacement_handler, decoder}
use Rattle.standard.specs.Standard.{standard, drop_mark}
use Rattle.standard.specs.Sequence.{Shift, Out, text, error, Next, more, item, shift, plain}
use Rattle.standard.specs.Sequences.Utf8.{utf8}
use Rattle.standard.specs.Sequences.Utf16.{utf16}
use Rattle.standard.specs.Sequences.Replacement.{replacement as replacement_next}
use Rattle.standard.specs.Next.{unmark, unmarked, next}
use Rattle.standard.specs.Decode.{Item, span, Read, put, decode, one_error, ending, shown, broken, before, reach, everything}
use Rattle.standard.proofs.Tests.{true_t}
use Rattle.standard.proofs.FamilyLaws.{keeps, next_laws}
use Rattle.standard.proofs.Walk.{stop, walk, decode_more, decode_item}
use Rattle.standard.proofs.Fronts.{Front, front_test, front_await, front_item}
use Rattle.standard.proofs.Reading.{empty as next-empty}
use Rattle.standard.proofs.Simulation.{push, replay, ends, total, run_out, run_finished, machine, replacing, refusing}
use Rattle.standard.proofs.Agreements.{Agrees, steps, early, agrees}

-- The sequences of replacement leave nothing over, and after the first byte nothing comes.
module _ (t : Tables) where
  pub no_rest : (s : Shift) (xs : List ℕ) → (decode (next t Replacement) s xs).rest ≡ []
  unfolding next replacement_next
  no_rest = walk (keeps Replacement) (next t Replacement) (next_laws t Replacement) (λ s xs r. r.rest ≡ []) base (λ s xs w s' o r e ih. ih)
    where
      base : (s : Shift) (xs : List ℕ) → next t Replacement s xs ≡ more → xs ≡ []
      base s [] e = refl
      base s (x ∷ xs) e = cc

  first_item : (told : Bool) (x : ℕ) (xs : List ℕ) → decode (next t Replacement) (shift 0 told) (x ∷ xs) ≡ put 1 (told then text [] else error) (decode (next t Replacement) (shift 0 true) xs)
  unfolding next replacement_next
  first_item told x xs = decode_item (keeps Replacement) (next t Replacement) (next_laws t Replacement) (shift 0 told) (x ∷ xs) {w = 1} refl

  -- A machine R that gives the error at the first byte, and then finishes.
  module _ {A : Type 0} (fails : List ℕ → A) (m : Mode) (finishes : List ℕ → A) (R : ℕ → Bool → List Token → List ℕ → A) where
    given_by : Shift → List ℕ → List ℕ → A
    given_by s xs out = replay fails m (decode (next t Replacement) s xs).items out finishes

    quiet : (xs out : List ℕ) → given_by (shift 0 true) xs out ≡ finishes out
    unfolding given_by replay push
    quiet [] out = rw (decode_more (keeps Replacement) (next t Replacement) (next_laws t Replacement) (shift 0 true) [] (next-empty t Replacement (shift 0 true)))
    quiet (x ∷ xs) out = ap (λ (r : Read). replay fails m r.items out finishes) (first_item true x xs) ∙ ap (given_by (shift 0 true) xs) (append-nil out) ∙ quiet xs out

    pub early_is : ((n : ℕ) (b : ℕ) (input : List Token) (out : List ℕ) → R (suc n) false (token b ∷ input) out ≡ push fails m error out (λ out'. R n true input out')) →
        ((n : ℕ) (out : List ℕ) → R (suc n) false [] out ≡ finishes out) → ((n : ℕ) (input : List Token) (out : List ℕ) → R (suc n) true input out ≡ finishes out) →
        (xs : List ℕ) (n : ℕ) → suc (length xs) ≤ n → R n false (stream xs) [] ≡ replay fails m (decode (next t Replacement) plain xs).items [] finishes
    unfolding given_by replay stream
    early_is turn empty done xs zero h = absurd (omega arith)
    early_is turn empty done [] (suc n) h = empty n [] ∙ rw (decode_more (keeps Replacement) (next t Replacement) (next_laws t Replacement) plain [] (next-empty t Replacement plain))
    early_is turn empty done (x ∷ xs) (suc zero) h = absurd (omega arith)
    early_is turn empty done (x ∷ xs) (suc (suc n)) h =
        turn (suc n) x (stream xs) [] ∙ (λ i. push fails m error [] (λ out. (done n (stream xs) out ∙ sym (quiet xs out)) i)) ∙ rw (first_item false x xs)

  all_early : (s : Shift) (xs : List ℕ) → everything t Replacement s xs ≡ (decode (next t Replacement) s xs).items
  unfolding everything ending one_error
  all_early s xs = rw (no_rest s xs, append-nil (decode (next t Replacement) s xs).items)

standard_is : (t : Tables) (f : Family) (m : Mode) (xs : List ℕ) → Bytes xs → standard t f m xs ≡ replay (ends failed) m (everything t f plain xs) [] (ends finished)
unfolding standard everything total replacement_handler
standard_is t f m xs p = go f (agrees t f)
  where
    done : (n : ℕ) (input : List Token) (out : List ℕ) → run replacement_handler m (suc n) true input out ≡ ends finished out
    done n [] out = run_finished replacement_handler m n true [] out refl
    done n (end_of-stream ∷ input) out = run_finished replacement_handler m n true (end_of-stream ∷ input) out refl
    done n (token x ∷ input) out = run_finished replacement_handler m n true (token x ∷ input) out refl

    go : (f : Family) → Agrees t f → standard t f m xs ≡ replay (ends failed) m (everything t f plain xs) [] (ends finished)
    go f (steps a) = machine (keeps f) (next t f) (next_laws t f) (decoder t f) (ending t f) a m xs p (5 * length xs + 1) (omega arith)
    go f early = early_is t (ends failed) m (ends finished) (run replacement_handler m)
        (λ n b input out. run_out replacement_handler m n false (token b ∷ input) out error refl) (λ n out. run_finished replacement_handler m n false [] out refl) done xs (5 * length xs + 1) (omega arith) ∙
        ap (λ (is : List Item). replay (ends failed) m is [] (ends finished)) (sym (all_early t plain xs))

-- In mode "replacement" it finishes with everything shown.
pub standard_replacing : (t : Tables) (f : Family) (xs : List ℕ) → Bytes xs → standard t f replacement xs ≡ some (record { result = finished; output = shown (everything t f plain xs) })
standard_replacing t f xs p = standard_is t f replacement xs p ∙ replacing (ends failed) (everything t f plain xs) [] (ends finished)

-- In mode "fatal" it returns error, with what stands before the first one, exactly where there is one.
pub standard_fatal : (t : Tables) (f : Family) (xs : List ℕ) → Bytes xs →
    standard t f fatal xs ≡ some (broken (everything t f plain xs) then record { result = failed; output = before (everything t f plain xs) } else record { result = finished; output = shown (everything t f plain xs) })
standard_fatal t f xs p = standard_is t f fatal xs p ∙ refusing (ends failed) (everything t f plain xs) [] (ends finished) ∙ go (broken (everything t f plain xs))
  where
    go : (b : Bool) → (b then ends failed (before (everything t f plain xs)) else ends finished (shown (everything t f plain xs))) ≡
        some (b then record { result = failed; output = before (everything t f plain xs) } else record { result = finished; output = shown (everything t f plain xs) })
    go true = refl
    go false = refl

-- A dropped mark: UTF-8 and UTF-16 give no empty text.
abbrev Solid : Out → Type 0
Solid error = Unit
Solid (text []) = ⊥
Solid (text (c ∷ cs)) = Unit

abbrev Filled : Next → Type 0
Filled a = Front (λ w s o. Solid o) a

utf8_filled : (xs : List ℕ) → Filled (utf8 xs)
unfolding utf8
utf8_filled xs = search (front_await, front_test, front_item) depth 20

utf16_filled : (be : Bool) (xs : List ℕ) → Filled (utf16 be xs)
unfolding utf16
utf16_filled be xs = search (front_await, front_test, front_item) depth 20

shown_unmark : (w : ℕ) (o : Out) (is : List Item) → Solid o → shown (span w (unmark o) ∷ is) ≡ drop_mark (shown (span w o ∷ is))
unfolding shown
shown_unmark w error is h = refl
shown_unmark w (text []) is h = absurd h
shown_unmark w (text (c ∷ cs)) is h = go (eqb c 0xFEFF)
  where
    go : (t : Bool) → shown (span w (t then text cs else text (c ∷ cs)) ∷ is) ≡ (t then cs ++ shown is else c ∷ cs ++ shown is)
    go true = refl
    go false = refl

before_unmark : (w : ℕ) (o : Out) (is : List Item) → Solid o → before (span w (unmark o) ∷ is) ≡ drop_mark (before (span w o ∷ is))
unfolding before
before_unmark w error is h = refl
before_unmark w (text []) is h = absurd h
before_unmark w (text (c ∷ cs)) is h = go (eqb c 0xFEFF)
  where
    go : (t : Bool) → before (span w (t then text cs else text (c ∷ cs)) ∷ is) ≡ (t then cs ++ before is else c ∷ cs ++ before is)
    go true = refl
    go false = refl

broken_unmark : (w : ℕ) (o : Out) (is : List Item) → broken (span w (unmark o) ∷ is) ≡ broken (span w o ∷ is)
unfolding broken
broken_unmark w error is = refl
broken_unmark w (text []) is = refl
broken_unmark w (text (c ∷ cs)) is = go (eqb c 0xFEFF)
  where
    go : (t : Bool) → broken (span w (t then text cs else text (c ∷ cs)) ∷ is) ≡ broken is
    go true = refl
    go false = refl

reach_unmark : (w : ℕ) (o : Out) (is : List Item) → reach (span w (unmark o) ∷ is) ≡ reach (span w o ∷ is)
unfolding reach
reach_unmark w error is = refl
reach_unmark w (text []) is = refl
reach_unmark w (text (c ∷ cs)) is = go (eqb c 0xFEFF)
  where
    go : (t : Bool) → reach (span w (t then text cs else text (c ∷ cs)) ∷ is) ≡ w + reach is
    go true = refl
    go false = refl

-- the end alone
shown_end : (xs : List ℕ) → shown (one_error xs) ≡ drop_mark (shown (one_error xs))
unfolding one_error shown
shown_end [] = refl
shown_end (b ∷ xs) = refl

before_end : (xs : List ℕ) → before (one_error xs) ≡ drop_mark (before (one_error xs))
unfolding one_error before
before_end [] = refl
before_end (b ∷ xs) = refl

-- Rule "drop": what is shown, and what stands before the first error, lose their first scalar if it is U+FEFF; nothing else changes.
pub record Unmarked (t : Tables) (f : Family) (xs : List ℕ) : Type 0 where
  pub all : shown (everything t f (shift 0 true) xs) ≡ drop_mark (shown (everything t f plain xs))
  pub before_error : before (everything t f (shift 0 true) xs) ≡ drop_mark (before (everything t f plain xs))
  pub error_too : broken (everything t f (shift 0 true) xs) ≡ broken (everything t f plain xs)
  pub place_too : reach (everything t f (shift 0 true) xs) ≡ reach (everything t f plain xs)
  pub so_far_lem : shown (decode (next t f) (shift 0 true) xs).items ≡ drop_mark (shown (decode (next t f) plain xs).items)
  pub left : (decode (next t f) (shift 0 true) xs).rest ≡ (decode (next t f) plain xs).rest

unmarked_by : (t : Tables) (f : Family) (g : List ℕ → Next) → ((s : Shift) (xs : List ℕ) → next t f s xs ≡ unmarked s.flag (g xs)) →
    ((s : Shift) (xs : List ℕ) → ending t f s xs ≡ one_error xs) → ((xs : List ℕ) → Filled (g xs)) → (xs : List ℕ) → Unmarked t f xs
unfolding everything shown before
unmarked_by t f g same fin filled xs = go (g xs) refl (filled xs)
  where
    go : (a : Next) → g xs ≡ a → Filled a → Unmarked t f xs
    go more e h =
        let p : decode (next t f) (shift 0 true) xs ≡ stop (shift 0 true) xs = decode_more (keeps f) (next t f) (next_laws t f) (shift 0 true) xs (same (shift 0 true) xs ∙ ap (unmarked true) e) in
        let q : decode (next t f) plain xs ≡ stop plain xs = decode_more (keeps f) (next t f) (next_laws t f) plain xs (same plain xs ∙ ap (unmarked false) e) in
        record {
          all = rw (p, q, fin (shift 0 true) xs, fin plain xs) (shown_end xs);
          before_error = rw (p, q, fin (shift 0 true) xs, fin plain xs) (before_end xs);
          error_too = rw (p, q, fin (shift 0 true) xs, fin plain xs);
          place_too = rw (p, q, fin (shift 0 true) xs, fin plain xs);
          so_far_lem = rw (p, q);
          left = rw (p, q);
        }
    go (item w s o) e h =
        let r : Read = decode (next t f) s (drop w xs) in
        let p : decode (next t f) (shift 0 true) xs ≡ put w (unmark o) r = decode_item (keeps f) (next t f) (next_laws t f) (shift 0 true) xs (same (shift 0 true) xs ∙ ap (unmarked true) e) in
        let q : decode (next t f) plain xs ≡ put w o r = decode_item (keeps f) (next t f) (next_laws t f) plain xs (same plain xs ∙ ap (unmarked false) e) in
        record {
          all = rw (p, q) (shown_unmark w o (r.items ++ ending t f r.shift r.rest) h.holds);
          before_error = rw (p, q) (before_unmark w o (r.items ++ ending t f r.shift r.rest) h.holds);
          error_too = rw (p, q) (broken_unmark w o (r.items ++ ending t f r.shift r.rest));
          place_too = rw (p, q) (reach_unmark w o (r.items ++ ending t f r.shift r.rest));
          so_far_lem = rw (p, q) (shown_unmark w o r.items h.holds);
          left = rw (p, q);
        }

pub unmarked_is : (t : Tables) (f : Family) (xs : List ℕ) → (traits f).mark ≡ true → Unmarked t f xs
unfolding next traits ending
unmarked_is t UTF-8 xs h = unmarked_by t UTF-8 utf8 (λ s xs. refl) (λ s xs. refl) utf8_filled xs
unmarked_is t UTF-16BE xs h = unmarked_by t UTF-16BE (utf16 true) (λ s xs. refl) (λ s xs. refl) (utf16_filled true) xs
unmarked_is t UTF-16LE xs h = unmarked_by t UTF-16LE (utf16 false) (λ s xs. refl) (λ s xs. refl) (utf16_filled false) xs
unmarked_is t single-byte xs h = absurd (true_t h)
unmarked_is t windows-1252 xs h = absurd (true_t h)
unmarked_is t GB18030 xs h = absurd (true_t h)
unmarked_is t Big5 xs h = absurd (true_t h)
unmarked_is t EUC-JP xs h = absurd (true_t h)
unmarked_is t ISO-2022-JP xs h = absurd (true_t h)
unmarked_is t Shift-JIS xs h = absurd (true_t h)
unmarked_is t EUC-KR xs h = absurd (true_t h)
unmarked_is t Replacement xs h = absurd (true_t h)
unmarked_is t x-user-defined xs h = absurd (true_t h)
