-- Rooms that suffice: no refusal 7 with three cells more than the chunk, and calls that are accepted. Assumes nothing.
use mathlib.Core.Path.{◌≡◌, refl, sym, ap, ◌∙◌, subst}
use mathlib.Core.Bool.{Bool, true, false, ◌&&◌, not, and-false}
use mathlib.Core.List.{List, [], ◌∷◌, ◌++◌}
use Prim.Native.Nat.{ℕ, ◌+◌, ◌-◌, ◌≤◌}
use native.Mathlib.Omega.{arith}
use lib.Dec.{T, ltb, eqb}
use lib.ListN.{length, drop, length-append, length-drop, length-take}
use borrow.Author.Tests.{le-ltb, ltb-false}
use Rattle.standard.specs.Base.{◌then◌else◌}
use Rattle.standard.specs.Encodings.{family, Tables, fits}
use Rattle.standard.specs.Decode.{Item, shown, before}
use Rattle.standard.specs.Choice.{Parsed}
use Rattle.standard.proofs.Items.{before_length}
use Rattle.standard.proofs.Stages.{parsing, end_count}
use Rattle.decoder.specs.Record.{spot_of, held_of, holding, closed, new_spot}
use Rattle.decoder.specs.Valid.{valid}
use Rattle.decoder.specs.Calls.{open_refusal, Outcome, hand_out, read_on, feed_refusal, feeding, read_end, finish_refusal, finishing}
use Rattle.demands.specs.Histories.{feed, History, start}
use Rattle.demands.specs.Statements.{Piece, joined, Accepts, Roomy, RoomKept}
use Rattle.decoder.specs.declared.Decoder.{Decoder}
use Rattle.decoder.proofs.Parts.{parts}
use Rattle.demands.proofs.Steps.{Stands, reads, ended, handed_is, fed_out, feed_is, finish_is, Step, refused, fed, reported}
use Rattle.demands.proofs.Steps.{stepped, still, opened_is, stands_new}
use Rattle.demands.proofs.Validity.{valid_step, valid_opening, opening_bounds}

-- the refusals of a feed and of a finish after 5 and 6
abbrev fed_number : (c e g f : Bool) → ℕ
fed_number c e g f = c then 4 else e then 8 else g then 14 else f then 7 else 0

abbrev finished_number : (c f : Bool) → ℕ
finished_number c f = c then 4 else f then 7 else 0

-- five, six, and what comes after them
not_seven : (a b : Bool) (n : ℕ) → (n ≡ 7 → ⊥) → (a then 5 else b then 6 else n) ≡ 7 → ⊥
not_seven true b n h q = omega arith
not_seven false true n h q = omega arith
not_seven false false n h q = h q

pub feed_room : (d : Decoder) → d.held ≤ 3 → (t : Tables) (chunk room : List ℕ) → length chunk + 3 ≤ length room →
    feed_refusal d t chunk room ≡ 7 → ⊥
unfolding feed_refusal
feed_room d h t chunk room r = not_seven (not (valid d)) (eqb d.ended 1) _
    (go (not (fits (family d.encoding) t)) (ltb 65536 (length chunk)) (ltb 4294967295 (d.taken + length chunk))
    (ltb (length room) (length chunk + d.held)) (le-ltb (length room) (length chunk + d.held) (omega arith)))
  where
    go : (c e g f : Bool) → f ≡ false → fed_number c e g f ≡ 7 → ⊥
    go true e g f s q = omega arith
    go false true g f s q = omega arith
    go false false true f s q = omega arith
    go false false false true s q = subst T s tt
    go false false false false s q = omega arith

pub finish_room : (d : Decoder) → d.held ≤ 3 → (t : Tables) (room : List ℕ) → 3 ≤ length room → finish_refusal d t room ≡ 7 → ⊥
unfolding finish_refusal
finish_room d h t room r = not_seven (not (valid d)) (eqb d.ended 1) _
    (go (eqb d.stage 1 && not (fits (family d.encoding) t)) (ltb (length room) d.held)
    (le-ltb (length room) d.held (omega arith)))
  where
    go : (c f : Bool) → f ≡ false → finished_number c f ≡ 7 → ⊥
    go true f s q = omega arith
    go false true s q = subst T s tt
    go false false s q = omega arith

-- A decoder of encoding e that takes feeds.
record Ready (e m : ℕ) (d : Decoder) : Type 0 where
  stands : Stands e m d
  valid : valid d ≡ true
  on : eqb d.ended 1 ≡ false

encoding_is : {e m : ℕ} {d : Decoder} → Stands e m d → d.encoding ≡ e
encoding_is (reads n l s xs w) = refl
encoding_is (ended n l) = refl

feed_accepts : (d : Decoder) (t : Tables) (chunk room : List ℕ) → valid d ≡ true → eqb d.ended 1 ≡ false →
    fits (family d.encoding) t ≡ true → length chunk ≤ 65536 → d.taken + length chunk ≤ 4294967295 →
    length chunk + d.held ≤ length room → feed_refusal d t chunk room ≡ 0
unfolding feed_refusal
feed_accepts d t chunk room v n f c k r = rw (
  v,
  n,
  f,
  le-ltb 65536 (length chunk) c,
  le-ltb 4294967295 (d.taken + length chunk) k,
  le-ltb (length room) (length chunk + d.held) r,
)

finish_accepts : (d : Decoder) (t : Tables) (room : List ℕ) → valid d ≡ true → eqb d.ended 1 ≡ false →
    fits (family d.encoding) t ≡ true → d.held ≤ length room → finish_refusal d t room ≡ 0
unfolding finish_refusal
finish_accepts d t room v n f r = rw (v, n, f, and-false (eqb d.stage 1), le-ltb (length room) d.held r)

-- no report: the decoder takes more
goes_on : (e m : ℕ) {taken handed chunk room : List ℕ} {t : Tables} {d : Decoder} {h : History} {n : ℕ} →
    Step e m taken handed d (feed chunk t room) h n → eqb n 11 ≡ false → eqb d.ended 1 ≡ false → eqb h.decoder.ended 1 ≡ false
goes_on e m (refused d c n p) q o = o
goes_on e m (fed k l s xs chunk t room w z b) q o = refl
goes_on e m (reported k l s xs chunk t room w z b) q o = absurd (subst T q tt)

-- a feed takes no more than its chunk
takes : (e m : ℕ) {taken handed chunk room : List ℕ} {t : Tables} {d : Decoder} {h : History} {n : ℕ} →
    Step e m taken handed d (feed chunk t room) h n → h.decoder.taken ≤ d.taken + length chunk
takes e m (refused d c n p) = omega arith
takes e m (fed k l s xs chunk t room w z b) = omega arith
takes e m (reported k l s xs chunk t room w z b) = omega arith

module _ (t : Tables) (e m : ℕ) (a : e ≤ 39) (l : m ≤ 1) (f : fits (family e) t ≡ true) where
  fitting : (d : Decoder) → Stands e m d → fits (family d.encoding) t ≡ true
  fitting d st = ap (λ (e : ℕ). fits (family e) t) (encoding_is st) ∙ f

  roomy_from : (ps : List Piece) (last : List ℕ) (h : History) → Ready e m h.decoder →
      h.decoder.taken + length (joined ps) ≤ 4294967295 → Roomy ps last → Accepts t h ps last
  unfolding Accepts Roomy joined
  roomy_from [] last h i u r =
      let d = h.decoder in
      finish_accepts d t last i.valid i.on (fitting d i.stands) (omega (arith, (parts d i.valid).held, r))
  roomy_from (p ∷ ps) last h i u r =
      let d = h.decoder in
      let bound = simp length-append at u in
      let z = feed_accepts d t p.chunk p.room i.valid i.on (fitting d i.stands)
      r.0 (omega (arith, bound)) (omega (arith, r.1, (parts d i.valid).held)) in
      let x = stepped e m h i.stands (feed p.chunk t p.room) in (
        z,
        λ q. subst (λ (h' : History). Accepts t h' ps last) (sym x.leads) (roomy_from ps last x.next (record {
          stands = still e m x.step i.stands;
          valid = valid_step e m a l x.step i.valid;
          on = goes_on e m x.step (ap (λ (n : ℕ). eqb n 11) (sym x.refusal) ∙ q) i.on;
        }) (omega (arith, bound, takes e m x.step)) r.2),
      )

pub roomy : (t : Tables) (e m rule : ℕ) → open_refusal e m rule ≡ 0 → (ps : List Piece) (last : List ℕ) →
    fits (family e) t ≡ true → length (joined ps) ≤ 4294967295 → Roomy ps last → Accepts t (start e m rule) ps last
unfolding start
roomy t e m rule o ps last f u r =
    let b = opening_bounds e m rule o in
    let k = opened_is e m rule o in
    let v : valid (start e m rule).decoder ≡ true = valid_opening e m rule in
    subst (λ (h : History). Accepts t h ps last) (sym k)
    (roomy_from t e m b.0 b.1 f ps last (record { taken = []; handed = []; decoder = holding e m 0 0 (new_spot e rule) [] })
    (record { stands = stands_new e m rule; valid = ap (λ (h : History). valid h.decoder) (sym k) ∙ v; on = refl }) (omega arith) r)

-- what is written at the front of a room, and what stood behind it
written_length : (cs room : List ℕ) → length cs ≤ length room → length (cs ++ drop (length cs) room) ≡ length room
written_length cs room h = simp (length-append, length-drop) (omega arith)

handed_length : (e m from n l : ℕ) (is : List Item) (d : ℕ → Decoder) (room : List ℕ) → length (shown is) ≤ length room →
    length (hand_out e m from n l is d room).room ≡ length room
handed_length e m from n l is d room h = handed_is (λ (o : Outcome). length o.room ≡ length room) e m from n l is d room
    (written_length (before is) room (omega (arith, before_length is))) (written_length (shown is) room h)

-- no refusal says that the room suffices
room_left : (a b : Bool) (n : ℕ) → eqb (a then 5 else b then 6 else n) 0 ≡ true → eqb n 0 ≡ true
room_left true b n h = absurd (subst T (sym h) tt)
room_left false true n h = absurd (subst T (sym h) tt)
room_left false false n h = h

feed_enough : (d : Decoder) (t : Tables) (chunk room : List ℕ) → eqb (feed_refusal d t chunk room) 0 ≡ true →
    length chunk + d.held ≤ length room
unfolding feed_refusal
feed_enough d t chunk room h =
    go (not (fits (family d.encoding) t)) (ltb 65536 (length chunk)) (ltb 4294967295 (d.taken + length chunk))
    (ltb (length room) (length chunk + d.held)) refl (room_left (not (valid d)) (eqb d.ended 1) _ h)
  where
    go : (c e g f : Bool) → ltb (length room) (length chunk + d.held) ≡ f → eqb (fed_number c e g f) 0 ≡ true →
        length chunk + d.held ≤ length room
    go true e g f s q = absurd (subst T (sym q) tt)
    go false true g f s q = absurd (subst T (sym q) tt)
    go false false true f s q = absurd (subst T (sym q) tt)
    go false false false true s q = absurd (subst T (sym q) tt)
    go false false false false s q = ltb-false (length room) (length chunk + d.held) s

finish_enough : (d : Decoder) (t : Tables) (room : List ℕ) → eqb (finish_refusal d t room) 0 ≡ true → d.held ≤ length room
unfolding finish_refusal
finish_enough d t room h =
    go (eqb d.stage 1 && not (fits (family d.encoding) t)) (ltb (length room) d.held) refl
    (room_left (not (valid d)) (eqb d.ended 1) _ h)
  where
    go : (c f : Bool) → ltb (length room) d.held ≡ f → eqb (finished_number c f) 0 ≡ true → d.held ≤ length room
    go true f s q = absurd (subst T (sym q) tt)
    go false true s q = absurd (subst T (sym q) tt)
    go false false s q = ltb-false (length room) d.held s

held_length : (d : Decoder) → length (held_of d) ≤ d.held
held_length d = simp length-take (omega arith)

feed_keeps : (d : Decoder) (t : Tables) (chunk room : List ℕ) → length (feeding d t chunk room).room ≡ length room
feed_keeps d t chunk room = feed_is (λ (o : Outcome). length o.room ≡ length room) d t chunk room fed_keeps (λ q. refl)
  where
    r : Parsed
    r = read_on d t chunk

    fed_keeps : feed_refusal d t chunk room ≡ 0 → length (fed_out d t chunk room).room ≡ length room
    fed_keeps z =
        let R = parsing t d.encoding (spot_of d) (held_of d ++ chunk) in
        let n = d.taken + length chunk in
        handed_length d.encoding d.mode (d.taken - d.held) n d.lines r.items
        (λ l. holding d.encoding d.mode n l r.spot r.rest) room
        (omega (
          arith,
          feed_enough d t chunk room (ap (λ (n : ℕ). eqb n 0) z),
          R.count,
          ap length R.split ∙ length-append R.used r.rest,
          length-append (held_of d) chunk,
          held_length d,
        ))

finish_keeps : (d : Decoder) (t : Tables) (room : List ℕ) → length (finishing d t room).room ≡ length room
finish_keeps d t room = finish_is (λ (o : Outcome). length o.room ≡ length room) d t room
    (λ z. handed_length d.encoding d.mode (d.taken - d.held) d.taken d.lines (read_end d t)
    (closed d.encoding d.mode d.taken) room
    (omega (
      arith,
      finish_enough d t room (ap (λ (n : ℕ). eqb n 0) z),
      end_count t d.encoding (spot_of d) (held_of d),
      held_length d,
    ))) (λ q. refl)

pub room_kept : (d : Decoder) → RoomKept d
room_kept d = record { fed = feed_keeps d; finished = finish_keeps d }
