-- What the calls leave, by the code's tests. Assumes nothing.
use mathlib.Core.Path.{◌≡◌, refl, sym, ap, ◌∙◌, subst}
use mathlib.Core.Bool.{Bool, true, false, ◌&&◌, not}
use mathlib.Core.List.{List, []}
use Prim.Native.Nat.{ℕ, ◌+◌, ◌-◌, ◌*◌, ◌≤◌}
use native.Mathlib.Omega.{arith}
use native.Mathlib.Nat.{zero-add}
use lib.Dec.{T, ltb, eqb}
use lib.ListN.{length, take, drop, length-append}
use lib.Seq.{take-append_seam}
use borrow.Author.Tests.{eqb-true, eqb-false, ne_eqb, eq-eqb, ltb-true, lt-ltb}
use Rattle.standard.specs.Base.{◌then◌else◌}
use Rattle.standard.specs.Encodings.{Tables, family, fits}
use Rattle.standard.specs.Items.{Item, shown, broken}
use Rattle.decoder.specs.Record.{holding, closed}
use Rattle.decoder.specs.Valid.{valid}
use Rattle.decoder.specs.Calls.{Outcome, refuse, hand_out, feed_refusal, read_on, feeding, finish_refusal, read_end, finishing}
use Rattle.decoder.specs.declared.Decoder.{Decoder}
use Rattle.decoder.specs.declared.Answer.{Answer}
use Rattle.replacements_spec.specs.Replaced.{Replaced, cells}
use Rattle.replacements_spec.specs.Calls.{Handed, Leaves, telling, untold, spans_refusal}
use Rattle.replacements.specs.Walks.{Adds}

-- What a feed or finish hands out with its items `is`, in mode m: refused with a number, or not.
pub record Out (d : Decoder) (m refusal : ℕ) (is : List Item) (room : List ℕ) (o : Outcome) : Type 0 where
  pub refused : (refusal ≡ 0 → ⊥) → o ≡ refuse refusal d room
  pub not_refused : refusal ≡ 0 → (o.answer.refusal ≡ 0 → ⊥) → m ≡ 1
  pub fits : refusal ≡ 0 → o.answer.refusal ≡ 0 → o.answer.written ≤ length o.room
  pub wrote : refusal ≡ 0 → (m ≡ 1 → ⊥) → take o.answer.written o.room ≡ shown is

mode_one : (m : ℕ) (b : Bool) → eqb m 1 && b ≡ true → m ≡ 1
mode_one m b h = go (eqb m 1) refl h
  where
    go : (x : Bool) → eqb m 1 ≡ x → x && b ≡ true → m ≡ 1
    go true p q = eqb-true m 1 p
    go false p q = absurd (subst T (sym q) tt)

-- What is handed out.
record Given (m : ℕ) (is : List Item) (o : Outcome) : Type 0 where
  reported : (o.answer.refusal ≡ 0 → ⊥) → m ≡ 1
  fits : o.answer.refusal ≡ 0 → o.answer.written ≤ length o.room
  wrote : (m ≡ 1 → ⊥) → take o.answer.written o.room ≡ shown is

given : (e m from n l : ℕ) (is : List Item) (d : ℕ → Decoder) (room : List ℕ) → Given m is (hand_out e m from n l is d room)
given e m from n l is d room = go (eqb m 1 && broken is) refl
  where
    go : (b : Bool) → eqb m 1 && broken is ≡ b → Given m is (hand_out e m from n l is d room)
    go true q = rw q (record {
      reported = λ z. mode_one m (broken is) q;
      fits = λ z. absurd (omega arith);
      wrote = λ z. absurd (z (mode_one m (broken is) q));
    })
    go false q = rw q (record {
      reported = λ z. absurd (z refl);
      fits = λ z. omega (arith, length-append (shown is) (drop (length (shown is)) room));
      wrote = λ z. take-append_seam (shown is) (drop (length (shown is)) room);
    })

out : (d : Decoder) (m refusal : ℕ) (is : List Item) (room : List ℕ) (o : Outcome) → Given m is o →
    Out d m refusal is room (eqb refusal 0 then o else refuse refusal d room)
out d m refusal is room o g = go (eqb refusal 0) refl
  where
    go : (b : Bool) → eqb refusal 0 ≡ b → Out d m refusal is room (b then o else refuse refusal d room)
    go true q = record {
      refused = λ z. absurd (z (eqb-true refusal 0 q));
      not_refused = λ z. g.reported;
      fits = λ z. g.fits;
      wrote = λ z. g.wrote;
    }
    go false q = record {
      refused = λ z. refl;
      not_refused = λ z. absurd (eqb-false refusal 0 q z);
      fits = λ z. absurd (eqb-false refusal 0 q z);
      wrote = λ z. absurd (eqb-false refusal 0 q z);
    }

pub fed_out_lem : (d : Decoder) (t : Tables) (chunk room : List ℕ) →
    Out d d.mode (feed_refusal d t chunk room) (read_on d t chunk).items room (feeding d t chunk room)
unfolding feeding
fed_out_lem d t chunk room = out d d.mode (feed_refusal d t chunk room) (read_on d t chunk).items room _
    (given d.encoding d.mode (d.taken - d.held) (d.taken + length chunk) d.lines (read_on d t chunk).items
    (λ l. holding d.encoding d.mode (d.taken + length chunk) l (read_on d t chunk).spot (read_on d t chunk).rest) room)

pub finished_out_lem : (d : Decoder) (t : Tables) (room : List ℕ) →
    Out d d.mode (finish_refusal d t room) (read_end d t) room (finishing d t room)
unfolding finishing
finished_out_lem d t room = out d d.mode (finish_refusal d t room) (read_end d t) room _
    (given d.encoding d.mode (d.taken - d.held) d.taken d.lines (read_end d t)
    (closed d.encoding d.mode d.taken) room)

-- What such a call is to leave, where the spans have room for n bytes.
module _ (d : Decoder) (m refusal n : ℕ) (is : List Item) (room spans : List ℕ) (o : Outcome) (O : Out d m refusal is room o)
    (rs : List Replaced) where
  abbrev pub asked : Handed
  asked = eqb (spans_refusal refusal n spans) 0 then telling o (eqb m 1 then [] else rs) spans else untold (spans_refusal refusal n spans) d room spans

  module _ (k : ltb (length spans) (2 * n) ≡ false) where
    passes : spans_refusal refusal n spans ≡ refusal
    passes = go (eqb refusal 0) refl
      where
        go : (b : Bool) → eqb refusal 0 ≡ b → (b then (ltb (length spans) (2 * n) then 7 else 0) else refusal) ≡ refusal
        go true q = rw k (sym (eqb-true refusal 0 q))
        go false q = refl

    -- an answer with a number tells nothing
    pub tells_none : {a : Answer} {room' : List ℕ} → a ≡ o.answer → room' ≡ o.room → (a.refusal ≡ 0 → ⊥) →
        Leaves asked (record { answer = a; count = 0 }) room' spans
    unfolding cells
    tells_none {a} {room'} p q z = go (eqb refusal 0) refl
      where
        go : (b : Bool) → eqb refusal 0 ≡ b → Leaves asked (record { answer = a; count = 0 }) room' spans
        go true e =
            let h : o.answer.refusal ≡ 0 → ⊥ = λ y. z (ap (λ (a : Answer). a.refusal) p ∙ y) in
            rw (passes, e, eq-eqb m 1 (O.not_refused (eqb-true refusal 0 e) h))
            (record { answer = λ i. record { answer = p i; count = 0 }; scalars = q; told = refl })
        go false e =
            let is-refused = O.refused (eqb-false refusal 0 e) in
            rw (passes, e) (record {
              answer = λ i. record { answer = (p ∙ ap (λ (o : Outcome). o.answer) is-refused) i; count = 0 };
              scalars = q ∙ ap (λ (o : Outcome). o.room) is-refused;
              told = refl;
            })

    -- an answer without tells what was replaced
    pub taken_0 : {a : Answer} → a ≡ o.answer → a.refusal ≡ 0 → refusal ≡ 0
    taken_0 {a} p z = go (eqb refusal 0) refl
      where
        go : (b : Bool) → eqb refusal 0 ≡ b → refusal ≡ 0
        go true e = eqb-true refusal 0 e
        go false e = sym (ap (λ (o : Outcome). o.answer.refusal) (O.refused (eqb-false refusal 0 e))) ∙
            sym (ap (λ (a : Answer). a.refusal) p) ∙ z

    pub tells_some : {a : Answer} {room' after : List ℕ} {count : ℕ} → a ≡ o.answer → room' ≡ o.room → a.refusal ≡ 0 →
        Adds spans 0 (eqb m 1 then [] else rs) count after → Leaves asked (record { answer = a; count = count }) room' after
    tells_some {a} {room'} {after} {count} p q z A =
        rw (passes, taken_0 p z) (record {
          answer = λ i. record { answer = p i; count = (A.count ∙ zero-add _) i };
          scalars = q;
          told = A.told ∙ rw zero-add;
        })

-- Spans that are too short: the refusals before 7 go first, as with a room of no cells.
module _ (d : Decoder) (m refusal refusal' n : ℕ) (is : List Item) (room spans : List ℕ) (o : Outcome) (rs : List Replaced)
    (same : refusal' ≡ spans_refusal refusal n spans) (some : refusal' ≡ 0 → ⊥) where
  pub tells_short : {a : Answer} → a ≡ (refuse refusal' d []).answer →
      Leaves (eqb (spans_refusal refusal n spans) 0 then telling o (eqb m 1 then [] else rs) spans else untold
      (spans_refusal refusal n spans) d room spans)
      (record { answer = a; count = 0 }) room spans
  unfolding cells
  tells_short {a} p = rw (sym same, ne_eqb refusal' 0 some) (record {
    answer = λ i. record { answer = p i; count = 0 };
    scalars = refl;
    told = refl;
  })

-- the tests in their order, with 7 last
feed_seven : (v e f l m r k : Bool) → k ≡ true →
    ◌≡◌ {A = ℕ} (not v then 5 else e then 6 else not f then 4 else l then 8 else m then 14 else 7)
    (let c = not v then 5 else e then 6 else not f then 4 else l then 8 else m then 14 else r then 7 else 0 in
    eqb c 0 then (k then 7 else 0) else c)
feed_seven false e f l m r k h = refl
feed_seven true true f l m r k h = refl
feed_seven true false false l m r k h = refl
feed_seven true false true true m r k h = refl
feed_seven true false true false true r k h = refl
feed_seven true false true false false true k h = refl
feed_seven true false true false false false k h = rw h

feed_some : (v e f l m : Bool) → ◌≡◌ {A = ℕ} (not v then 5 else e then 6 else not f then 4 else l then 8 else m then 14 else 7) 0 → ⊥
feed_some false e f l m h = omega arith
feed_some true true f l m h = omega arith
feed_some true false false l m h = omega arith
feed_some true false true true m h = omega arith
feed_some true false true false true h = omega arith
feed_some true false true false false h = omega arith

finish_seven : (v e g r k : Bool) → k ≡ true →
    ◌≡◌ {A = ℕ} (not v then 5 else e then 6 else g then 4 else 7)
    (let c = not v then 5 else e then 6 else g then 4 else r then 7 else 0 in eqb c 0 then (k then 7 else 0) else c)
finish_seven false e g r k h = refl
finish_seven true true g r k h = refl
finish_seven true false true r k h = refl
finish_seven true false false true k h = refl
finish_seven true false false false k h = rw h

finish_some : (v e g : Bool) → ◌≡◌ {A = ℕ} (not v then 5 else e then 6 else g then 4 else 7) 0 → ⊥
finish_some false e g h = omega arith
finish_some true true g h = omega arith
finish_some true false true h = omega arith
finish_some true false false h = omega arith

module _ (d : Decoder) (t : Tables) (room spans : List ℕ) where
  pub feed_short : (chunk : List ℕ) → ltb (length spans) (2 * (length chunk + d.held)) ≡ true →
      (feed_refusal d t chunk [] ≡ spans_refusal (feed_refusal d t chunk room) (length chunk + d.held) spans) × (feed_refusal d t chunk [] ≡ 0 → ⊥)
  unfolding feed_refusal
  feed_short chunk h =
      let k = lt-ltb 0 (length chunk + d.held) (omega (arith, ltb-true (length spans) (2 * (length chunk + d.held)) h)) in
      rw k (
        feed_seven (valid d) (eqb d.ended 1) (fits (family d.encoding) t) (ltb 65536 (length chunk))
            (ltb 4294967295 (d.taken + length chunk)) (ltb (length room) (length chunk + d.held))
            (ltb (length spans) (2 * (length chunk + d.held))) h,
        feed_some (valid d) (eqb d.ended 1) (fits (family d.encoding) t) (ltb 65536 (length chunk)) (ltb 4294967295 (d.taken + length chunk)),
      )

  pub finish_short : ltb (length spans) (2 * d.held) ≡ true →
      (finish_refusal d t [] ≡ spans_refusal (finish_refusal d t room) d.held spans) × (finish_refusal d t [] ≡ 0 → ⊥)
  unfolding finish_refusal
  finish_short h =
      let k = lt-ltb 0 d.held (omega (arith, ltb-true (length spans) (2 * d.held) h)) in
      rw k (
        finish_seven (valid d) (eqb d.ended 1) (eqb d.stage 1 && not (fits (family d.encoding) t))
            (ltb (length room) d.held) (ltb (length spans) (2 * d.held)) h,
        finish_some (valid d) (eqb d.ended 1) (eqb d.stage 1 && not (fits (family d.encoding) t)),
      )
