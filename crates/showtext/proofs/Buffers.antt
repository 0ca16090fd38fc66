-- What a buffer leaves, from what its calls leave. Assumes nothing.
use mathlib.Core.Path.{◌≡◌, refl, sym, ap, ◌∙◌}
use mathlib.Core.Bool.{Bool, true, false, not}
use mathlib.Core.List.{List, [], ◌∷◌, ◌++◌}
use Prim.Native.Nat.{ℕ, ◌+◌, ◌-◌, ◌*◌, ◌≤◌, ◌<◌}
use native.Mathlib.Nat.{zero-add}
use native.Mathlib.Omega.{arith}
use lib.Dec.{ltb, eqb}
use lib.ListN.{length, take, drop, length-append, length-take}
use lib.Seq.{sets-eq, take-append_seam}
use Rattle.std.proofs.Common.{Result}
use Rattle.program_text.proofs.Fronts.{front}
use borrow.Author.Tests.{lt-ltb, le-ltb, eq-eqb, ne_eqb, ltb-true, ltb-false, eqb-true, eqb-false}
use Rattle.standard.specs.Base.{◌then◌else◌}
use Rattle.standard.specs.Text.{bytes}
use Rattle.standard.specs.Encodings.{Tables, no_tables, family, fits}
use Rattle.standard.specs.Decode.{Item, shown, before}
use Rattle.standard.specs.Choice.{Parsed}
use Rattle.standard.proofs.Tests.{split}
use Rattle.labels_spec.specs.Labels.{label, name}
use Rattle.labels_spec.specs.declared.Found.{Found}
use Rattle.decoder.specs.Record.{holding, closed}
use Rattle.decoder.specs.Valid.{valid}
use Rattle.decoder.specs.Calls.{Outcome, hand_out, opening, feed_refusal, read_on, feeding, read_end, finishing}
use Rattle.decoder.specs.declared.Decoder.{Decoder}
use Rattle.decoder.specs.declared.Answer.{Answer}
use Rattle.demands.proofs.Steps.{handed_is, fed_out, feed_is, finish_is}
use Rattle.demands.proofs.Rooms.{room_kept}
use Rattle.showtext.specs.Output.{first_line, after_line, count, line, refused, scalar_lines}
use Rattle.program_text.specs.Places.{Put}
use Rattle.showtext.specs.Code.{label_refusal, heading, feeding_on}
use Rattle.showtext.specs.Refusals.{number}
use Rattle.showtext.specs.Program.{Shown, Leaves, Answers, Left, Refused, Gives, Ends, leave, lines_of, beginning, going_on, closing}
use Rattle.showtext.specs.declared.Progress.{Progress}
use Rattle.showtext.specs.declared.Refusal.{Refusal}
use Rattle.showtext.specs.declared.Refusal.TheVariants.{Label}
use Rattle.showtext.proofs.Named.{name_few}
use Rattle.showtext.proofs.Texts.{then_put, lines_few, number_few}

-- An answer with a text at the front of out is what is to be left.
pub left : {d : Decoder} {n : ℕ} {out us : List ℕ} {p : Progress} {after : List ℕ} {room room' : List ℕ} → Answers d n out 0 us p after → length us ≤ length out → room' ≡ room →
    Left (leave d n 0 us room out) p room' after
left {d} {n} {out} {us} {p} {after} a h e = record {
  answer = λ i. record { decoder = a.decoder i; count = a.count i; length = size i; refusal = 0 };
  scalars = e;
  bytes = a.put.stands ∙ sets-eq us out 0 (omega (arith, h)) ∙ rw (zero-add (length us));
}
  where
    size : p.length ≡ length us
    size = a.put.behind ∙ zero-add (length us)

-- The line of a refusal is what is to be left.
pub left_line : (d : Decoder) (r : Refusal) {k : ℕ} (room out : List ℕ) → k ≡ number r → 0 < k → Refused (leave d 0 k (refused k) room out) r
left_line d r {k} room out e h = record { refusal = e; some = rw e at h; line = take-append_seam (refused k) (drop (length (refused k)) out) ∙ ap refused e }

-- A text put in front of an answer's own.
pub ahead : {d : Decoder} {n : ℕ} {out mid us vs : List ℕ} {at : ℕ} {p : Progress} {after : List ℕ} → Put out 0 us at mid → Answers d n mid at vs p after → Answers d n out 0 (us ++ vs) p after
ahead p a = record { decoder = a.decoder; count = a.count; put = then_put p a.put }

-- No more scalars are written than the room has cells.
Few : List ℕ → Outcome → Type 0
Few room o = length o.room ≡ length room → o.answer.written ≤ length room

handed_few : (e m from n l : ℕ) (is : List Item) (d : ℕ → Decoder) (room : List ℕ) → Few room (hand_out e m from n l is d room)
unfolding Few
handed_few e m from n l is d room = handed_is (Few room) e m from n l is d room
    (λ h. omega (arith, h, length-append (before is) (drop (length (before is)) room)))
    (λ h. omega (arith, h, length-append (shown is) (drop (length (shown is)) room)))

pub feed_few : (d : Decoder) (t : Tables) (chunk room : List ℕ) → (feeding d t chunk room).answer.written ≤ length room
unfolding Few
feed_few d t chunk room = feed_is (Few room) d t chunk room (λ z. fed_few) (λ q h. omega arith) ((room_kept d).fed t chunk room)
  where
    r : Parsed
    r = read_on d t chunk

    n : ℕ
    n = d.taken + length chunk

    fed_few : Few room (fed_out d t chunk room)
    fed_few = handed_few d.encoding d.mode (d.taken - d.held) n d.lines r.items (λ l. holding d.encoding d.mode n l r.spot r.rest) room

pub finish_few : (d : Decoder) (room : List ℕ) → (finishing d no_tables room).answer.written ≤ length room
unfolding Few
finish_few d room = finish_is (Few room) d no_tables room
    (λ z. handed_few d.encoding d.mode (d.taken - d.held) d.taken d.lines (read_end d no_tables) (closed d.encoding d.mode d.taken) room)
    (λ q h. omega arith) ((room_kept d).finished no_tables room)

-- What a call wrote fits the room before it and after it.
fitting : (o : Outcome) (room : List ℕ) → o.answer.written ≤ length room → length o.room ≡ length room → {a : Answer} {room' : List ℕ} → a ≡ o.answer → room' ≡ o.room → (a.written ≤ length room) × (a.written ≤ length room')
fitting o room few kept p q = let w = ap (λ (a : Answer). a.written) p in (omega (arith, few, w), omega (arith, few, w, kept, ap length q))

pub fed_fits : (d : Decoder) (chunk room : List ℕ) {a : Answer} {room' : List ℕ} → a ≡ (feeding d no_tables chunk room).answer → room' ≡ (feeding d no_tables chunk room).room → (a.written ≤ length room) × (a.written ≤ length room')
fed_fits d chunk room p q = fitting (feeding d no_tables chunk room) room (feed_few d no_tables chunk room) ((room_kept d).fed no_tables chunk room) p q

pub finished_fits : (d : Decoder) (room : List ℕ) {a : Answer} {room' : List ℕ} → a ≡ (finishing d no_tables room).answer → room' ≡ (finishing d no_tables room).room → (a.written ≤ length room) × (a.written ≤ length room')
finished_fits d room p q = fitting (finishing d no_tables room) room (finish_few d room) ((room_kept d).finished no_tables room) p q

-- A feed that is not refused takes its chunk, and no more than a decoder takes.
Takes : Decoder → List ℕ → Outcome → Type 0
Takes d chunk o = o.answer.refusal ≡ 0 → (o.answer.decoder.taken ≡ d.taken + length chunk) × (d.taken + length chunk ≤ 4294967295)

within_limit : (d : Decoder) (chunk room : List ℕ) → feed_refusal d no_tables chunk room ≡ 0 → d.taken + length chunk ≤ 4294967295
unfolding feed_refusal
within_limit d chunk room z = ltb-false 4294967295 (d.taken + length chunk)
    (go (not (valid d)) (eqb d.ended 1) (not (fits (family d.encoding) no_tables)) (ltb 65536 (length chunk)) (ltb 4294967295 (d.taken + length chunk)) (ltb (length room) (length chunk + d.held)) z)
  where
    go : (a b c e g f : Bool) → ◌≡◌ {A = ℕ} (a then 5 else b then 6 else c then 4 else e then 8 else g then 14 else f then 7 else 0) 0 → g ≡ false
    go true b c e g f q = absurd (omega (arith, q))
    go false true c e g f q = absurd (omega (arith, q))
    go false false true e g f q = absurd (omega (arith, q))
    go false false false true g f q = absurd (omega (arith, q))
    go false false false false true f q = absurd (omega (arith, q))
    go false false false false false f q = refl

fed_takes : (d : Decoder) (chunk room : List ℕ) → Takes d chunk (feeding d no_tables chunk room)
unfolding Takes
fed_takes d chunk room = feed_is (Takes d chunk) d no_tables chunk room
    (λ z. handed_is (Takes d chunk) d.encoding d.mode (d.taken - d.held) n d.lines r.items (λ l. holding d.encoding d.mode n l r.spot r.rest) room
    (λ q. absurd (omega (arith, q))) (λ q. (refl, within_limit d chunk room z)))
    (λ z q. absurd (eqb-false (feed_refusal d no_tables chunk room) 0 z q))
  where
    r : Parsed
    r = read_on d no_tables chunk

    n : ℕ
    n = d.taken + length chunk

pub shown_few : (n w : ℕ) (room : List ℕ) → length (scalar_lines n (take w room)) ≤ 32 * w
shown_few n w room = omega (arith, lines_few n (take w room), length-take w room)

pub encoding_few : (e : ℕ) → length (line (bytes "encoding") (name e)) ≤ 32
unfolding bytes
encoding_few e = omega (arith, name_few e, length-append (name e) (0x0A ∷ []))

pub refused_few : (out : List ℕ) (k : ℕ) → 32 ≤ length out → length (refused k) ≤ length out
unfolding bytes
refused_few out k h = omega (arith, h, number_few (bytes "refused") k)

-- A feed and its text, behind a heading.
module _ (us : List ℕ) (d : Decoder) (n : ℕ) (chunk room out : List ℕ) where
  abbrev on : Outcome
  on = feeding d no_tables chunk room

  pub on_fed : on.answer.refusal ≡ 0 → feeding_on us d n chunk room out ≡ leave on.answer.decoder (n + on.answer.written) 0 (us ++ lines_of n on) on.room out
  unfolding feeding_on
  on_fed z = rw (eq-eqb on.answer.refusal 0 z)

  pub on_refused : (on.answer.refusal ≡ 0 → ⊥) →
      feeding_on us d n chunk room out ≡ leave d 0 on.answer.refusal (refused on.answer.refusal) on.room out
  unfolding feeding_on
  on_refused z = rw (ne_eqb on.answer.refusal 0 z)

  -- how much the decoder has taken
  on_taken : let s = (feeding_on us d n chunk room out).shown in s.refusal ≡ 0 → (s.decoder.taken ≡ d.taken + length chunk) × (d.taken + length chunk ≤ 4294967295)
  unfolding Takes
  on_taken = split (eqb on.answer.refusal 0)
      (λ z. let zero = eqb-true on.answer.refusal 0 z in rw (on_fed zero) (λ _. fed_takes d chunk room zero))
      (λ z. let some = eqb-false on.answer.refusal 0 z in rw (on_refused some) (λ q. absurd (some q)))

  module _ (k : length us ≤ 32) (h : 32 * length room + 32 ≤ length out) where
    text_few : length (us ++ lines_of n on) ≤ length out
    text_few = omega (arith, feed_few d no_tables chunk room, shown_few n on.answer.written on.room, length-append us (lines_of n on))

    -- how far the count and the text go
    on_few : let s = (feeding_on us d n chunk room out).shown in (s.count ≤ n + length room) × (s.length ≤ length out)
    on_few = split (eqb on.answer.refusal 0)
        (λ z. rw (on_fed (eqb-true on.answer.refusal 0 z)) (omega (arith, feed_few d no_tables chunk room), text_few))
        (λ z. rw (on_refused (eqb-false on.answer.refusal 0 z)) (omega arith, refused_few out on.answer.refusal (omega arith)))

    -- from the answers of the calls
    pub left_fed : {a : Answer} {room' : List ℕ} → a ≡ on.answer → room' ≡ on.room → a.refusal ≡ 0 → {at : ℕ} {mid : List ℕ} → Put out 0 us at mid → {p : Progress} {after : List ℕ} →
        Answers a.decoder (n + a.written) mid at (scalar_lines n (take a.written room')) p after → Left (feeding_on us d n chunk room out) p room' after
    left_fed {a} {room'} e q z {at} {mid} b {p} {after} s =
        let zero : on.answer.refusal ≡ 0 = rw e at z in
        let s' : Answers on.answer.decoder (n + on.answer.written) mid at (lines_of n on) p after = rw (e, q) at s in
        rw (on_fed zero) (left (ahead b s') text_few q)

  pub left_refused : (r : Refusal) → on.answer.refusal ≡ number r → 0 < number r → Refused (feeding_on us d n chunk room out) r
  left_refused r e h = rw (on_refused (λ z. omega (arith, e, h, z))) (left_line d r on.room out e (omega (arith, e, h)))

-- A further buffer.
pub going_is : (d : Decoder) (n : ℕ) (chunk room out : List ℕ) → going_on d n chunk room out ≡ feeding_on [] d n chunk room out
unfolding going_on feeding_on
going_is d n chunk room out = refl

-- The end of input.
pub closed_up : (d : Decoder) (n : ℕ) (room out : List ℕ) {a : Answer} {room' : List ℕ} {p : Progress} {after after' : List ℕ} {end : ℕ} → a ≡ (finishing d no_tables room).answer → room' ≡ (finishing d no_tables room).room →
    Answers a.decoder (n + a.written) out 0 (scalar_lines n (take a.written room')) p after → Put after p.length (line (bytes "end") (count p.count)) end after' →
    32 * length room + 32 ≤ length out → length after' ≡ length out → Ends (closing d n room out) end after'
unfolding closing bytes
closed_up d n room out {a} {room'} {p} {after} {after'} {end} e q s f h size =
    let o = finishing d no_tables room in
    let s' : Answers o.answer.decoder (n + o.answer.written) out 0 (lines_of n o) p after = rw (e, q) at s in
    let all = lines_of n o ++ line (bytes "end") (count (n + o.answer.written)) in
    let f' : Put after p.length (line (bytes "end") (count (n + o.answer.written))) end after' = rw s'.count at f in
    let put : Put out 0 all end after' = then_put s'.put f' in
    let few : length all ≤ length out = omega (arith, h, finish_few d room, shown_few n o.answer.written o.room, length-append (lines_of n o) (line (bytes "end") (count (n + o.answer.written))), number_few (bytes "end") (n + o.answer.written)) in
    record { printed = front put few ∙ sym (take-append_seam all (drop (length all) out)); few = omega (arith, put.behind, few, size) }

-- The first buffer.
module _ (input room out : List ℕ) where
  abbrev pub found : Found
  found = label (first_line input)

  abbrev pub opened : Decoder
  opened = (opening found.encoding 0 0).decoder

  abbrev pub fed : Outcome
  fed = feeding opened no_tables (after_line input) room

  pub at_long : 255 < length (first_line input) → beginning input room out ≡ leave opened 0 1 (refused 1) room out
  unfolding beginning
  at_long h = rw (lt-ltb 255 (length (first_line input)) h)

  module _ (h : length (first_line input) ≤ 255) where
    pub at_unknown : found.refusal ≡ 1 → beginning input room out ≡ leave opened 0 1 (refused 1) room out
    unfolding beginning
    at_unknown e = rw (le-ltb 255 (length (first_line input)) h, eq-eqb found.refusal 1 e)

    module _ (e : found.refusal ≡ 1 → ⊥) where
      pub at_refused : (fed.answer.refusal ≡ 0 → ⊥) → beginning input room out ≡ leave opened 0 fed.answer.refusal (refused fed.answer.refusal) fed.room out
      unfolding beginning
      at_refused z = rw (le-ltb 255 (length (first_line input)) h, ne_eqb found.refusal 1 e, ne_eqb fed.answer.refusal 0 z)

      pub at_fed : fed.answer.refusal ≡ 0 → beginning input room out ≡ leave fed.answer.decoder fed.answer.written 0 (line (bytes "encoding") (name found.encoding) ++ lines_of 0 fed) fed.room out
      unfolding beginning
      at_fed z = rw (le-ltb 255 (length (first_line input)) h, ne_eqb found.refusal 1 e, eq-eqb fed.answer.refusal 0 z)

  -- the label is refused, or the text begins
  begin_refused : label_refusal input ≡ 1 → beginning input room out ≡ leave opened 0 1 (refused 1) room out
  begin_refused e = split (ltb 255 (length (first_line input)))
      (λ l. at_long (ltb-true 255 (length (first_line input)) l))
      (λ l. at_unknown (ltb-false 255 (length (first_line input)) l) (rw l at e))

  begin_text : (label_refusal input ≡ 1 → ⊥) →
      beginning input room out ≡ feeding_on (heading found.encoding) opened 0 (after_line input) room out
  unfolding beginning feeding_on
  begin_text e = split (ltb 255 (length (first_line input)))
      (λ l. absurd (e (rw l refl)))
      (λ l. rw (l, ne_eqb found.refusal 1 (rw l at e), zero-add fed.answer.written))

  begin_few : 32 * length room + 32 ≤ length out →
      let s = (beginning input room out).shown in (s.count ≤ length room) × (s.length ≤ length out)
  begin_few h = split (eqb (label_refusal input) 1)
      (λ e. rw (begin_refused (eqb-true (label_refusal input) 1 e)) (omega arith, refused_few out 1 (omega arith)))
      (λ e. rw (begin_text (eqb-false (label_refusal input) 1 e))
      (let few = on_few (heading found.encoding) opened 0 (after_line input) room out (encoding_few found.encoding) h in (omega (arith, few.0), few.1)))

  begin_taken : let s = (beginning input room out).shown in s.refusal ≡ 0 → s.decoder.taken ≤ 4294967295
  begin_taken = split (eqb (label_refusal input) 1)
      (λ e. rw (begin_refused (eqb-true (label_refusal input) 1 e)) (λ z. absurd (omega (arith, z))))
      (λ e. rw (begin_text (eqb-false (label_refusal input) 1 e))
      (λ z. let k = on_taken (heading found.encoding) opened 0 (after_line input) room out z in omega (arith, k.0, k.1)))

  -- the same from the answers of the calls
  pub begun_refused : {r : ℕ} → r ≡ label_refusal input → r ≡ 1 → Refused (beginning input room out) Label
  begun_refused q z = rw (begin_refused (rw q at z)) (left_line opened Label room out refl (omega arith))

  module _ {e r : ℕ} {o : Answer} (p : e ≡ found.encoding) (q : r ≡ label_refusal input) (u : o ≡ opening e 0 0) where
    opened_is : o.decoder ≡ opened
    opened_is = ap (λ (a : Answer). a.decoder) u ∙ ap (λ (n : ℕ). (opening n 0 0).decoder) p

    pub begun_text : (r ≡ 1 → ⊥) → {rest : List ℕ} → rest ≡ after_line input → (g : Result Progress Refusal) (room' after : List ℕ) →
        Gives (feeding_on (heading e) o.decoder 0 rest room out) g room' after → Gives (beginning input room out) g room' after
    begun_text z t g room' after l = rw (begin_text (rw q at z)) (rw (opened_is, p, t) at l)

-- How far the counts and the texts go.
module _ {p : Progress} {room' out' : List ℕ} where
  left_few : {l : Leaves} {n m : ℕ} → Left l p room' out' → (l.shown.count ≤ n) × (l.shown.length ≤ m) → (p.count ≤ n) × (p.length ≤ m)
  left_few l h = (omega (arith, h.0, ap (λ (s : Shown). s.count) l.answer), omega (arith, h.1, ap (λ (s : Shown). s.length) l.answer))

  pub begun_few : (input room out : List ℕ) → 32 * length room + 32 ≤ length out → Left (beginning input room out) p room' out' →
      (p.count ≤ length room) × (p.length ≤ length out)
  begun_few input room out h l = left_few l (begin_few input room out h)

  pub went_few : (d : Decoder) (n : ℕ) (chunk room out : List ℕ) → 32 * length room + 32 ≤ length out →
      Left (going_on d n chunk room out) p room' out' → (p.count ≤ n + length room) × (p.length ≤ length out)
  went_few d n chunk room out h l = left_few l (rw (going_is d n chunk room out) (on_few [] d n chunk room out (omega arith) h))

  -- how much the decoder has taken
  left_taken : {l : Leaves} → Left l p room' out' → (l.shown.refusal ≡ 0) × (p.decoder.taken ≡ l.shown.decoder.taken)
  left_taken l = (ap (λ (s : Shown). s.refusal) (sym l.answer), ap (λ (s : Shown). s.decoder.taken) l.answer)

  pub begun_taken : (input room out : List ℕ) → Left (beginning input room out) p room' out' → p.decoder.taken ≤ 4294967295
  begun_taken input room out l = let k = left_taken l in omega (arith, k.1, begin_taken input room out k.0)

  pub went_taken : (d : Decoder) (n : ℕ) (chunk room out : List ℕ) → Left (going_on d n chunk room out) p room' out' →
      (p.decoder.taken ≡ d.taken + length chunk) × (d.taken + length chunk ≤ 4294967295)
  went_taken d n chunk room out l =
      let l' = rw (going_is d n chunk room out) at l in
      let k = left_taken l' in
      let v = on_taken [] d n chunk room out k.0 in
      (k.1 ∙ v.0, v.1)
