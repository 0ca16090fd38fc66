-- The sequences of UTF-16 at a place, and its units in a row. Assumes nothing.
use mathlib.Core.Path.{◌≡◌, refl, ap, subst, ◌∙◌}
use mathlib.Core.Bool.{Bool, true, false}
use mathlib.Core.List.{List, [], ◌∷◌}
use mathlib.Core.Logic.{inl, inr}
use Prim.Native.Nat.{ℕ, ◌+◌, ◌*◌, ◌≤◌, ◌<◌}
use native.Mathlib.Omega.{arith}
use native.Mathlib.Nat.{add-zero}
use lib.ListN.{length, drop, get_or, set}
use Rattle.standard.specs.Base.{line_feeds}
use Rattle.standard.specs.Encodings.{Tables, no_tables}
use Rattle.standard.specs.Sequence.{Shift, Next, more, item, plain, scalar, bad}
use Rattle.standard.specs.Next.{next, unmarked}
use Rattle.standard.specs.Sequences.Utf16.{utf16, utf16_unit, utf16_pair, unit}
use Rattle.standard.proofs.Tests.{under, above, in_range}
use Rattle.runs.specs.Run.{patch, Runs, Gives}
use Rattle.word_runs.specs.Units.{utf16_family, values, unit_at, NoSurrogate, oriented, UnitRun}
use Rattle.word_runs.specs.declared.utf_16.Reached.{Reached}
use Rattle.runs.proofs.Fronts.{two_at}
use Rattle.runs.proofs.Running.{Going, gives_scalar}
use Rattle.runs.proofs.Counting.{Counting, counting_on, counting_one, counting_runs}
use Rattle.runs.proofs.Scalars.{gives_same}
use Rattle.word_runs.proofs.Rows.{going_row}
use Rattle.word_runs.proofs.Values.{values_length, values_same, values_at}

-- no mark is to be dropped
unmarked_none : (a : Next) → unmarked false a ≡ a
unmarked_none more = refl
unmarked_none (item w s o) = refl

pub is_utf16 : (be : Bool) (xs : List ℕ) → next no_tables (utf16_family be) plain xs ≡ utf16 be xs
unfolding next
is_utf16 true xs = unmarked_none (utf16 true xs)
is_utf16 false xs = unmarked_none (utf16 false xs)

-- the unit at a place, by its range
module _ (be : Bool) (xs : List ℕ) (i u : ℕ) (h : i + 1 < length xs) (e : u ≡ unit be (get_or xs i 0) (get_or xs (i + 1) 0)) where
  at_unit : utf16 be (drop i xs) ≡ utf16_unit be u (drop (i + 2) xs)
  unfolding utf16
  at_unit = rw (two_at xs i h, e)

  pub at_low : u < 0xD800 → utf16 be (drop i xs) ≡ scalar 2 u
  at_low g = at_unit ∙ rw (under 0xDC00 u 0xDFFF (omega arith), under 0xD800 u 0xDBFF g)

  pub at_high : 0xDFFF < u → utf16 be (drop i xs) ≡ scalar 2 u
  at_high g = at_unit ∙ rw (above 0xDC00 u 0xDFFF g, above 0xD800 u 0xDBFF (omega arith))

  pub at_trail : 0xDBFF < u → u ≤ 0xDFFF → utf16 be (drop i xs) ≡ bad 2
  at_trail g k = at_unit ∙ rw (in_range 0xDC00 u 0xDFFF g k)

  pub at_lead : 0xD800 ≤ u → u ≤ 0xDBFF → i + 3 < length xs → utf16 be (drop i xs) ≡ utf16_pair u (unit be (get_or xs (i + 2) 0) (get_or xs (i + 3) 0))
  at_lead g k l =
      let z : i + 2 + 1 ≡ i + 3 = omega arith in
      let p = two_at xs (i + 2) (omega arith) in
      at_unit ∙ rw (under 0xDC00 u 0xDFFF (omega arith), in_range 0xD800 u 0xDBFF g k, p, z)

-- a unit that is no surrogate gives itself
gives_clear : (m : ℕ) (be : Bool) (xs : List ℕ) (i : ℕ) → i + 1 < length xs → NoSurrogate (unit be (get_or xs i 0) (get_or xs (i + 1) 0)) →
    Gives m (next no_tables (utf16_family be) plain (drop i xs)) 2 plain (unit be (get_or xs i 0) (get_or xs (i + 1) 0))
gives_clear m be xs i h (inl g) = gives_scalar m (is_utf16 be (drop i xs) ∙ at_low be xs i (unit be (get_or xs i 0) (get_or xs (i + 1) 0)) h refl g)
gives_clear m be xs i h (inr g) = gives_scalar m (is_utf16 be (drop i xs) ∙ at_high be xs i (unit be (get_or xs i 0) (get_or xs (i + 1) 0)) h refl g)

-- the unit of a word
oriented_unit : (be : Bool) (b c : ℕ) → b < 256 → c < 256 → oriented be (unit false b c) ≡ unit be b c
unfolding unit
oriented_unit true b c p q = omega arith
oriented_unit false b c p q = refl

-- units without surrogates in a row, by words that were read
module _ (be : Bool) (m : ℕ) (chunk : List ℕ) (from i w o : ℕ) (room₀ room room₁ before words : List ℕ) where
  pub going_put : Going no_tables (utf16_family be) m chunk from i plain plain w o room₀ room → (n : ℕ) → length before ≡ n →
      ((j : ℕ) → j < length before → (get_or chunk (i + j * 2) 0 < 256) × (get_or chunk (i + j * 2 + 1) 0 < 256)) → words ≡ values (unit_at false chunk i) (length before) →
      ((j : ℕ) → j < length words → NoSurrogate (oriented be (get_or words j 0))) → i + n * 2 ≤ length chunk →
      room₁ ≡ patch o (values (λ (j : ℕ). oriented be (get_or words j 0)) (length words)) room → Going no_tables (utf16_family be) m chunk from (i + n * 2) plain plain w (o + n) room₀ room₁
  going_put G n z p e q h r =
      let G₀ : Going no_tables (utf16_family be) m chunk from (i + 0) plain plain w o room₀ room = rw (add-zero i) G in
      let l : o + n ≤ length room = omega (arith, G.here.fits) in
      rw (r, count, values_same (λ (j : ℕ). oriented be (get_or words j 0)) (unit_at be chunk i) n same)
      (going_row no_tables (utf16_family be) m chunk from (λ (j : ℕ). i + j * 2) 2 (λ j. omega arith) (unit_at be chunk i) w o room₀ room G₀ n clear l)
    where
      count : length words ≡ n
      count = ap length e ∙ values_length (unit_at false chunk i) (length before) ∙ z

      same : (j : ℕ) → j < n → oriented be (get_or words j 0) ≡ unit_at be chunk i j
      same j g =
          let b = p j (omega arith) in
          ap (λ (l : List ℕ). oriented be (get_or l j 0)) e ∙ ap (oriented be) (values_at (unit_at false chunk i) (length before) j (omega arith)) ∙ oriented_unit be (get_or chunk (i + j * 2) 0) (get_or chunk (i + j * 2 + 1) 0) b.0 b.1

      clear : (j : ℕ) → j < n → Gives m (next no_tables (utf16_family be) plain (drop (i + j * 2) chunk)) 2 plain (unit_at be chunk i j)
      clear j g = gives_clear m be chunk (i + j * 2) (omega arith) (subst NoSurrogate (same j g) (q j (omega (arith, count))))

  -- with their line feeds
  pub counting_put : {l k : ℕ} → Counting no_tables (utf16_family be) m chunk from i plain plain w o l room₀ room → (n : ℕ) → length before ≡ n →
      ((j : ℕ) → j < length before → (get_or chunk (i + j * 2) 0 < 256) × (get_or chunk (i + j * 2 + 1) 0 < 256)) → words ≡ values (unit_at false chunk i) (length before) →
      ((j : ℕ) → j < length words → NoSurrogate (oriented be (get_or words j 0))) → i + n * 2 ≤ length chunk →
      room₁ ≡ patch o (values (λ (j : ℕ). oriented be (get_or words j 0)) (length words)) room →
      k ≡ line_feeds (values (λ (j : ℕ). oriented be (get_or words j 0)) (length words)) →
      Counting no_tables (utf16_family be) m chunk from (i + n * 2) plain plain w (o + n) (l + k) room₀ room₁
  counting_put C n z p e q h r c =
      let all : length words ≡ n = ap length e ∙ values_length (unit_at false chunk i) (length before) ∙ z in
      let size = values_length (λ (j : ℕ). oriented be (get_or words j 0)) (length words) in
      counting_on C (values (λ (j : ℕ). oriented be (get_or words j 0)) (length words)) (going_put C.going n z p e q h r)
      (omega (arith, all, size)) (omega (arith, all, size, C.going.here.fits)) r c

-- one sequence more
pub counting_step : (be : Bool) (m : ℕ) (chunk : List ℕ) (from i w o : ℕ) (room₀ room : List ℕ) {l n : ℕ} →
    Counting no_tables (utf16_family be) m chunk from i plain plain w o l room₀ room → {k c : ℕ} → Gives m (utf16 be (drop i chunk)) k plain c →
    o + 1 ≤ length room → n ≡ line_feeds (c ∷ []) → Counting no_tables (utf16_family be) m chunk from (i + k) plain plain w (o + 1) (l + n) room₀ (set room o c)
counting_step be m chunk from i w o room₀ room C g h e = counting_one C (gives_same (is_utf16 be (drop i chunk)) g) h e

-- a part of a run from there on
pub counting_units : {be : Bool} {m : ℕ} {chunk : List ℕ} {from i w o l : ℕ} {room₀ room room' : List ℕ} →
    Counting no_tables (utf16_family be) m chunk from i plain plain w o l room₀ room → (r : Reached) → UnitRun be m chunk i o r room room' →
    Counting no_tables (utf16_family be) m chunk from r.at plain plain w r.written (l + r.lines) room₀ room'
counting_units C r u = counting_runs C u.runs u.lines

-- UTF-16 does not look at the tables
pub any_tables : (t : Tables) (be : Bool) → next t (utf16_family be) ≡ next no_tables (utf16_family be)
unfolding next
any_tables t true = λ i s xs. unmarked s.flag (utf16 true xs)
any_tables t false = λ i s xs. unmarked s.flag (utf16 false xs)

pub with_tables : (t : Tables) (be : Bool) {m : ℕ} {chunk : List ℕ} {from to : ℕ} {s s' : Shift} {w w' : ℕ} {room room' : List ℕ} → Runs (next no_tables (utf16_family be)) m chunk from to s s' w w' room room' →
    Runs (next t (utf16_family be)) m chunk from to s s' w w' room room'
with_tables t be R = rw (any_tables t be) R
