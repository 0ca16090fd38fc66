-- The refusal of a call, and what the call leaves. Assumes nothing.
use mathlib.Core.Path.{◌≡◌, refl, sym, ap, ◌∙◌}
use mathlib.Core.Bool.{Bool, true, false, not, ◌||◌}
use mathlib.Core.List.{List, []}
use mathlib.Core.Option.{none}
use Prim.Native.Nat.{ℕ, ◌+◌, ◌≤◌, ◌<◌}
use native.Mathlib.Omega.{arith}
use lib.Dec.{ltb, leb, eqb}
use lib.ListN.{length}
use lib.Seq.{sets, sets-eq}
use borrow.Author.Tests.{ltb-false, leb-true, leb-false, eqb-true, eqb-false, lt-ltb, le-ltb, le-leb, eq-eqb, ne_eqb}
use Rattle.standard.specs.Base.{◌then◌else◌, scalars}
use Rattle.standard.specs.Encodings.{Family, family, traits, second_fits, Tables, lent, fits}
use Rattle.standard.specs.Search.{Lookup}
use Rattle.standard.specs.Writers.{writer_of}
use Rattle.standard.proofs.Families.{family_single_byte}
use Rattle.standard.specs.Ones.{finish_bytes}
use Rattle.standard.proofs.Tests.{split, choose, or_case, or_none_lem, and_left, out_above}
use Rattle.pair_writers.specs.Pairs.{pair_encode, cells_of}
use Rattle.encoder_spec.specs.Writing.{Writing}
use Rattle.encoder_spec.specs.Writer.{Outcome, refuse, write, write_accepted, write_by, call_by, writer_finish}
use Rattle.encoder_spec.specs.declared.Written.{Written}
use Rattle.encoder.specs.WriterCode.{pairs, writes, encoder_of, lent_of, Tabled, tables_fit, lent_writing, Space, Wrote}
use Rattle.encoder.specs.WriterCode.{text_refusal, refusal_of, number_of}
use Rattle.encoder.specs.declared.refusals.Refusal.{Refusal}
use Rattle.encoder.specs.declared.refusals.Refusal.TheVariants.{NoEncoding, NoMode, NoState, NoWriter, WrongTables, WrongIndex, TooLong, NoScalars, NoRoom}
use Rattle.encoder.proofs.Scalars.{by_pairs, no_pairs}
use Rattle.encoder.proofs.Most.{pair_plain}

-- the encodings with a writer
module _ {A : Type 0} (e : ℕ) (w : writes e ≡ true) where
  by_writer : (e ≡ 0 → A) → (e ≡ 21 → A) → ((e ≡ 0 → ⊥) → (e ≡ 21 → ⊥) → e ≤ 28 → A) → (pairs e ≡ true → A) → (e ≡ 39 → A) → A
  by_writer f g h i k = or_case (leb e 28) (pairs e || eqb e 39) w
      (λ l. split (eqb e 0) (λ z. f (eqb-true e 0 z)) (λ z.
      split (eqb e 21) (λ y. g (eqb-true e 21 y)) (λ y. h (eqb-false e 0 z) (eqb-false e 21 y) (leb-true e 28 l))))
      (λ l. or_case (pairs e) (eqb e 39) l i (λ z. k (eqb-true e 39 z)))

-- those without
no_writer : (e : ℕ) → writes e ≡ false → writer_of e ≡ none
unfolding writer_of
no_writer e w =
    let far : 35 < e = out_above 29 e 35 b.0 (leb-false e 28 a.0) in
    rw (
      ne_eqb e 0 (λ z. omega arith),
      ne_eqb e 21 (λ z. omega arith),
      a.0,
      ne_eqb e 29 (λ z. omega arith),
      ne_eqb e 30 (λ z. omega arith),
      ne_eqb e 31 (λ z. omega arith),
      ne_eqb e 32 (λ z. omega arith),
      ne_eqb e 33 (λ z. omega arith),
      ne_eqb e 34 (λ z. omega arith),
      ne_eqb e 35 (λ z. omega arith),
      b.1,
    )
  where
    a : (leb e 28 ≡ false) × (pairs e || eqb e 39 ≡ false)
    a = or_none_lem (leb e 28) (pairs e || eqb e 39) w

    b : (pairs e ≡ false) × (eqb e 39 ≡ false)
    b = or_none_lem (pairs e) (eqb e 39) a.1

-- what an encoding number writes, by the tests of the code
written_by : (look : Lookup) (right : Bool) (e m s : ℕ) (t : Tables) (cs room : List ℕ) →
    write_by look right (writer_of e) m s t cs room ≡
    (writes e then (tables_fit e t then (right then write_accepted (lent_of look e t) m s cs room else refuse 15 s room) else refuse 4 s room) else
    refuse 9 s room)
unfolding writer_of family lent_of encoder_of pair_encode
written_by look right e m s t cs room = split (writes e)
    (λ w. by_writer e w
    (λ h. rw h) (λ h. rw h)
    (λ f g h. rw (no_pairs e h, ne_eqb e 0 f, ne_eqb e 21 g, le-leb e 28 h, ne_eqb e 33 (λ z. omega arith)))
    (λ p. by_pairs e p
    (λ h. rw (h, pair_plain 29 look t.second refl)) (λ h. rw (h, pair_plain 30 look t.second refl))
    (λ h. rw (h, pair_plain 31 look t.second refl)) (λ h. rw (h, pair_plain 32 look t.second refl))
    (λ h. rw h)
    (λ h. rw (h, pair_plain 34 look t.second refl)) (λ h. rw (h, pair_plain 35 look t.second refl)))
    (λ h. rw h))
    (λ w. rw (no_writer e w, w))

-- its first table
first_fits : (f : Family) (t : Tables) → fits f t ≡ true → length t.first ≡ (traits f).first
unfolding fits
first_fits f t h =
    eqb-true (length t.first) (traits f).first
    (and_left (eqb (length t.first) (traits f).first) (second_fits (traits f).second (length t.second)) h)

fits_first : (e : ℕ) (t : Tables) → tables_fit e t ≡ true → length t.first ≡ (traits (family e)).first
fits_first e t = choose (λ b. b ≡ true → length t.first ≡ (traits (family e)).first) (eqb e 33)
    (λ _ f. first_fits (family e) (lent t.first []) (and_left (fits (family e) (lent t.first [])) (eqb (length t.second) 63) f))
    (λ _ f. first_fits (family e) t f)

pub table_fits : (e : ℕ) (t : Tables) → writes e ≡ true → tables_fit e t ≡ true → Tabled e t.first
unfolding family traits
table_fits e t w f = record {
  of_pairs = λ p. fits_first e t f ∙ cells p;
  of_bytes = λ p. omega (arith, fits_first e t f, few p);
}
  where
    cells : pairs e ≡ true → (traits (family e)).first ≡ cells_of e
    cells p = by_pairs e p (λ z. rw z) (λ z. rw z) (λ z. rw z) (λ z. rw z) (λ z. rw z) (λ z. rw z) (λ z. rw z)

    few : pairs e ≡ false → (traits (family e)).first ≤ 128
    few p = by_writer e w
        (λ h. rw h (omega arith))
        (λ h. rw h (omega arith))
        (λ f g h. rw (family_single_byte e f g h) (omega arith))
        (λ h. let z : ◌≡◌ {A = ℕ} 0 1 = cc in absurd (omega arith))
        (λ h. rw h (omega arith))

-- the tables of the code's test
module _ (t1 t2 : List ℕ) (e : ℕ) where
  pub fit_others : (e ≡ 33 → ⊥) → fits (family e) (lent t1 t2) ≡ tables_fit e (lent t1 t2)
  fit_others h = rw (ne_eqb e 33 h)

-- The call, by its refusal.
module _ (look : Lookup) (right : Bool) (e m s : ℕ) (t : Tables) (cs room : List ℕ) where
  -- the bytes, and the refusal
  abbrev w : Writing
  w = lent_writing look e m s t cs

  abbrev refused : ℕ
  refused = refusal_of look right e m s t cs (length room)

  -- what the call leaves where its refusal is n
  by_refusal : ℕ → Outcome
  by_refusal n = eqb n 0 then write w room else refuse n s room

  call : call_by look right e m s t cs room ≡ by_refusal refused
  unfolding call_by refusal_of text_refusal by_refusal
  call = rw (written_by look right e m s t cs room)
      (tests (ltb 39 e) (ltb 1 m) (ltb 2 s) (writes e) (tables_fit e t) right (ltb 16384 (length cs)) (scalars cs)
      (ltb (length room) (length w.bytes)))
    where
      tests : (a b d k f g l c r : Bool) →
          (a then refuse 2 s room else b then refuse 3 s room else d then refuse 5 s room else
          k then (f then (g then (l then refuse 8 s room else not c then refuse 10 s room else r then refuse 7 s room else write w room) else
          refuse 15 s room) else refuse 4 s room) else refuse 9 s room) ≡
          by_refusal (a then 2 else b then 3 else d then 5 else not k then 9 else not f then 4 else not g then 15 else
          l then 8 else not c then 10 else r then 7 else 0)
      tests true b d k f g l c r = refl
      tests false true d k f g l c r = refl
      tests false false true k f g l c r = refl
      tests false false false false f g l c r = refl
      tests false false false true false g l c r = refl
      tests false false false true true false l c r = refl
      tests false false false true true true true c r = refl
      tests false false false true true true false false r = refl
      tests false false false true true true false true true = refl
      tests false false false true true true false true false = refl

  -- what is known of an accepted call
  pub record Accepted : Type 0 where
    pub tabled : Tabled e t.first
    pub are_scalars : scalars cs ≡ true
    pub few : length cs ≤ 16384
    pub space : Space w room

  pub accepted : refused ≡ 0 → Accepted
  unfolding refusal_of text_refusal
  accepted h =
      let a = go (ltb 39 e) (ltb 1 m) (ltb 2 s) (writes e) (tables_fit e t) right (ltb 16384 (length cs)) (scalars cs)
      (ltb (length room) (length w.bytes)) h in
      record {
        tabled = table_fits e t a.0 a.1;
        are_scalars = a.2;
        few = ltb-false 16384 (length cs) a.3;
        space = ltb-false (length room) (length w.bytes) a.4;
      }
    where
      go : (a b d w f g l c r : Bool) →
          ◌≡◌ {A = ℕ} (a then 2 else b then 3 else d then 5 else not w then 9 else not f then 4 else not g then 15 else
          l then 8 else not c then 10 else r then 7 else 0) 0 →
          (w ≡ true) × (f ≡ true) × (c ≡ true) × (l ≡ false) × (r ≡ false)
      go true b d w f g l c r h = absurd (omega arith)
      go false true d w f g l c r h = absurd (omega arith)
      go false false true w f g l c r h = absurd (omega arith)
      go false false false false f g l c r h = absurd (omega arith)
      go false false false true false g l c r h = absurd (omega arith)
      go false false false true true false l c r h = absurd (omega arith)
      go false false false true true true true c r h = absurd (omega arith)
      go false false false true true true false false r h = absurd (omega arith)
      go false false false true true true false true true h = absurd (omega arith)
      go false false false true true true false true false h = (refl, refl, refl, refl, refl)

  -- what the call leaves, part by part
  abbrev Leaves : Written → List ℕ → Type 0
  Leaves answer after = (answer ≡ (call_by look right e m s t cs room).answer) × (after ≡ (call_by look right e m s t cs room).room)

  leaves : {o : Outcome} → call_by look right e m s t cs room ≡ o → Leaves o.answer o.room
  leaves q = (ap (λ (o : Outcome). o.answer) (sym q), ap (λ (o : Outcome). o.room) (sym q))

  module _ (r : ℕ) (p : r ≡ refused) where
    pub tells_refusal : (r ≡ 0 → ⊥) → Leaves (record { written = 0; index = 0; refusal = r; state = s }) room
    unfolding by_refusal
    tells_refusal n = leaves (call ∙ ap by_refusal (sym p) ∙ rw (ne_eqb r 0 n))

    pub tells_written : r ≡ 0 → {a : Written} {after : List ℕ} → Wrote w room a after → Leaves a after
    unfolding by_refusal
    tells_written z wrote =
        let l = leaves {o = write w room} (call ∙ ap by_refusal (sym p) ∙ rw (eq-eqb r 0 z)) in
        (wrote.answers ∙ l.0, wrote.leaves ∙ l.1)

-- a refusal has a number
pub number_real : (r : Refusal) → number_of r ≡ 0 → ⊥
number_real NoEncoding e = omega (arith, e)
number_real NoMode e = omega (arith, e)
number_real NoState e = omega (arith, e)
number_real NoWriter e = omega (arith, e)
number_real WrongTables e = omega (arith, e)
number_real WrongIndex e = omega (arith, e)
number_real TooLong e = omega (arith, e)
number_real NoScalars e = omega (arith, e)
number_real NoRoom e = omega (arith, e)

-- The refusals, one after the other.
module _ (look : Lookup) (right : Bool) (e m s : ℕ) (t : Tables) (cs : List ℕ) (n : ℕ) where
  pub refused_2 : 39 < e → 2 ≡ refusal_of look right e m s t cs n
  unfolding refusal_of
  refused_2 h = rw (lt-ltb 39 e h)

  module _ (h2 : e ≤ 39) where
    pub refused_3 : 1 < m → 3 ≡ refusal_of look right e m s t cs n
    unfolding refusal_of
    refused_3 h = rw (le-ltb 39 e h2, lt-ltb 1 m h)

    module _ (h3 : m ≤ 1) where
      pub refused_5 : 2 < s → 5 ≡ refusal_of look right e m s t cs n
      unfolding refusal_of
      refused_5 h = rw (le-ltb 39 e h2, le-ltb 1 m h3, lt-ltb 2 s h)

      module _ (h5 : s ≤ 2) where
        pub refused_9 : writes e ≡ false → 9 ≡ refusal_of look right e m s t cs n
        unfolding refusal_of
        refused_9 h = rw (le-ltb 39 e h2, le-ltb 1 m h3, le-ltb 2 s h5, h)

        module _ (h9 : writes e ≡ true) where
          pub refused_4 : tables_fit e t ≡ false → 4 ≡ refusal_of look right e m s t cs n
          unfolding refusal_of
          refused_4 h = rw (le-ltb 39 e h2, le-ltb 1 m h3, le-ltb 2 s h5, h9, h)

          module _ (h4 : tables_fit e t ≡ true) where
            pub refused_15 : right ≡ false → 15 ≡ refusal_of look right e m s t cs n
            unfolding refusal_of
            refused_15 h = rw (le-ltb 39 e h2, le-ltb 1 m h3, le-ltb 2 s h5, h9, h4, h)

            pub refused_text : right ≡ true → text_refusal look e m s t cs n ≡ refusal_of look right e m s t cs n
            unfolding refusal_of
            refused_text h = rw (le-ltb 39 e h2, le-ltb 1 m h3, le-ltb 2 s h5, h9, h4, h)

-- Those that depend on the scalars.
module _ (look : Lookup) (e m s : ℕ) (t : Tables) (cs : List ℕ) (n : ℕ) where
  pub refused_8 : 16384 < length cs → 8 ≡ text_refusal look e m s t cs n
  unfolding text_refusal
  refused_8 h = rw (lt-ltb 16384 (length cs) h)

  module _ (h8 : length cs ≤ 16384) where
    pub refused_10 : scalars cs ≡ false → 10 ≡ text_refusal look e m s t cs n
    unfolding text_refusal
    refused_10 h = rw (le-ltb 16384 (length cs) h8, h)

    pub refused_7 : scalars cs ≡ true → (r : Bool) → r ≡ ltb n (length (lent_writing look e m s t cs).bytes) →
        (r then 7 else 0) ≡ text_refusal look e m s t cs n
    unfolding text_refusal
    refused_7 h r z = rw (le-ltb 16384 (length cs) h8, h, z)

-- The finish.
module _ (s : ℕ) (room : List ℕ) where
  abbrev Finishes : Written → List ℕ → Type 0
  Finishes answer after = (answer ≡ (writer_finish s room).answer) × (after ≡ (writer_finish s room).room)

  finishes : {o : Outcome} → writer_finish s room ≡ o → Finishes o.answer o.room
  finishes q = (ap (λ (o : Outcome). o.answer) (sym q), ap (λ (o : Outcome). o.room) (sym q))

  pub finish_5 : 2 < s → Finishes (record { written = 0; index = 0; refusal = 5; state = s }) room
  unfolding writer_finish
  finish_5 h = finishes (rw (lt-ltb 2 s h))

  module _ (h5 : s ≤ 2) where
    pub finish_7 : length room < length (finish_bytes s) → Finishes (record { written = 0; index = 0; refusal = 7; state = s }) room
    unfolding writer_finish
    finish_7 h = finishes (rw (le-ltb 2 s h5, lt-ltb (length room) (length (finish_bytes s)) h))

    pub finish_writes : length (finish_bytes s) ≤ length room → (n : ℕ) (after : List ℕ) → n ≡ 0 + length (finish_bytes s) →
        after ≡ sets room 0 (finish_bytes s) → Finishes (record { written = n; index = 0; refusal = 0; state = 0 }) after
    unfolding writer_finish
    finish_writes h n after p q =
        let z : 0 + length (finish_bytes s) ≡ length (finish_bytes s) = omega arith in
        let l = finishes {o = write (record { bytes = finish_bytes s; state = 0; unwritable = none }) room}
        (rw (le-ltb 2 s h5, le-ltb (length room) (length (finish_bytes s)) h)) in (
          ap (λ (k : ℕ). record { written = k; index = 0; refusal = 0; state = 0 }) (p ∙ z) ∙ l.0,
          q ∙ (rw z at (sets-eq (finish_bytes s) room 0 (omega (arith, h)))) ∙ l.1,
        )
