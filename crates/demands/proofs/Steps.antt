-- What a call does to a history, by cases, and the induction over every list of calls. Assumes nothing.
use mathlib.Core.Path.{◌≡◌, refl, sym, ap, ◌∙◌, subst}
use mathlib.Core.Bool.{Bool, true, false, not, ◌&&◌, and-false}
use mathlib.Core.List.{List, [], ◌∷◌, ◌++◌, append-nil}
use Prim.Native.Nat.{ℕ, ◌+◌, ◌-◌}
use native.Mathlib.Omega.{arith}
use lib.Dec.{T, ltb, eqb}
use lib.ListN.{length, take, drop}
use lib.Seq.{take-append_seam}
use borrow.Author.Tests.{eqb-true}
use Rattle.standard.specs.Base.{◌then◌else◌, line_feeds}
use Rattle.standard.specs.Encodings.{family, traits, Tables, fits}
use Rattle.standard.specs.Sequence.{shift, plain}
use Rattle.standard.specs.Decode.{Item, shown, broken, before, reach}
use Rattle.standard.specs.Choice.{Spot, spot, Parsed, read_from, end_from}
use Rattle.standard.proofs.Stages.{Rests, rests_few, none_rest, parsing}
use Rattle.decoder.specs.Valid.{valid}
use Rattle.decoder.specs.Record.{bit, holding, closed, new_spot}
use Rattle.decoder.specs.Calls.{open_refusal, opening, Outcome, refuse, write, report, hand_out, hand_out_read}
use Rattle.decoder.specs.Calls.{feed_refusal, read_on, feeding, finish_refusal, read_end, finishing}
use Rattle.demands.specs.Histories.{Call, feed, finish, History, accepted, noted, outcome, chunk_of, after, start}
use Rattle.decoder.specs.declared.Decoder.{Decoder}
use Rattle.decoder.proofs.Records.{bit_back, held_holding}

-- A decoder of encoding e and mode m that calls leave: it reads on from a spot, with the bytes of a started mark or sequence, or it has
-- ended.
pub data Stands (e m : ℕ) : Decoder → Type 0 where
  reads : (n l : ℕ) (s : Spot) (xs : List ℕ) → Rests e s xs → Stands e m (holding e m n l s xs)
  ended : (n l : ℕ) → Stands e m (closed e m n l)

-- What is read of the bytes held and a chunk.
abbrev pub read_of : ℕ → Tables → Spot → List ℕ → List ℕ → Parsed
read_of e t s xs chunk = read_from t e s (xs ++ chunk)

abbrev pub end_of : ℕ → Tables → Spot → List ℕ → List Item
end_of e t s xs = end_from t e s xs

-- The records that accepted calls leave: reading on after a chunk, ended by an error among the items, ended after all of them.
abbrev pub onward : ℕ → ℕ → ℕ → ℕ → List ℕ → Parsed → Decoder
onward e m n l chunk r = holding e m (n + length chunk) (l + line_feeds (shown r.items)) r.spot r.rest

abbrev pub stopped_by : ℕ → ℕ → ℕ → ℕ → List Item → Decoder
stopped_by e m n l is = closed e m n (l + line_feeds (before is))

abbrev pub closed_after : ℕ → ℕ → ℕ → ℕ → List Item → Decoder
closed_after e m n l is = closed e m n (l + line_feeds (shown is))

-- What is handed out, by the test for an error in refusing mode.
abbrev pub handed_if : ℕ → ℕ → ℕ → ℕ → ℕ → List Item → (ℕ → Decoder) → List ℕ → Bool → Outcome
handed_if e m from n l is d room b =
    b then report (from + reach is) (1 + (l + line_feeds (before is))) (before is) (stopped_by e m n l is) room else
    write (shown is) (d (l + line_feeds (shown is))) room

pub handed_is : (P : Outcome → Type 0) (e m from n l : ℕ) (is : List Item) (d : ℕ → Decoder) (room : List ℕ) →
    P (handed_if e m from n l is d room true) → P (handed_if e m from n l is d room false) → P (hand_out e m from n l is d room)
handed_is P e m from n l is d room p q = go (eqb m 1 && broken is)
  where
    go : (b : Bool) → P (handed_if e m from n l is d room b)
    go true = p
    go false = q

-- What an accepted feed and finish hand out. A call hands out, or it is refused.
abbrev pub fed_out : Decoder → Tables → List ℕ → List ℕ → Outcome
fed_out d t chunk room =
    hand_out_read d.encoding d.mode (d.taken - d.held) (d.taken + length chunk) d.lines (read_on d t chunk) room

abbrev pub finished_out : Decoder → Tables → List ℕ → Outcome
finished_out d t room =
    hand_out d.encoding d.mode (d.taken - d.held) d.taken d.lines (read_end d t)
    (closed d.encoding d.mode d.taken) room

by_number : (P : Outcome → Type 0) (n : ℕ) {o o' : Outcome} → (n ≡ 0 → P o) → (eqb n 0 ≡ false → P o') → P (eqb n 0 then o else o')
by_number P n {o} {o'} f g = go (eqb n 0) refl
  where
    go : (b : Bool) → eqb n 0 ≡ b → P (b then o else o')
    go true q = f (eqb-true n 0 q)
    go false q = g q

pub feed_is : (P : Outcome → Type 0) (d : Decoder) (t : Tables) (chunk room : List ℕ) → let n = feed_refusal d t chunk room in
    (n ≡ 0 → P (fed_out d t chunk room)) → (eqb n 0 ≡ false → P (refuse n d room)) → P (feeding d t chunk room)
unfolding feeding
feed_is P d t chunk room f g = by_number P (feed_refusal d t chunk room) f g

pub finish_is : (P : Outcome → Type 0) (d : Decoder) (t : Tables) (room : List ℕ) → let n = finish_refusal d t room in
    (n ≡ 0 → P (finished_out d t room)) → (eqb n 0 ≡ false → P (refuse n d room)) → P (finishing d t room)
unfolding finishing
finish_is P d t room f g = by_number P (finish_refusal d t room) f g

-- A call on a decoder, the history it leads to, and its refusal number.
pub data Step (e m : ℕ) (taken handed : List ℕ) : Decoder → Call → History → ℕ → Type 0 where
  refused : (d : Decoder) (c : Call) (n : ℕ) → accepted n ≡ false →
      Step e m taken handed d c (record { taken = taken; handed = handed; decoder = d }) n
  fed : (n l : ℕ) (s : Spot) (xs chunk : List ℕ) (t : Tables) (room : List ℕ) →
      Rests e s xs → feed_refusal (holding e m n l s xs) t chunk room ≡ 0 →
      eqb m 1 && broken (read_of e t s xs chunk).items ≡ false →
      Step e m taken handed (holding e m n l s xs) (feed chunk t room)
      (record {
        taken = taken ++ chunk;
        handed = handed ++ shown (read_of e t s xs chunk).items;
        decoder = onward e m n l chunk (read_of e t s xs chunk);
      }) 0
  reported : (n l : ℕ) (s : Spot) (xs chunk : List ℕ) (t : Tables) (room : List ℕ) →
      Rests e s xs → feed_refusal (holding e m n l s xs) t chunk room ≡ 0 →
      eqb m 1 && broken (read_of e t s xs chunk).items ≡ true →
      Step e m taken handed (holding e m n l s xs) (feed chunk t room)
      (record {
        taken = taken ++ chunk;
        handed = handed ++ before (read_of e t s xs chunk).items;
        decoder = stopped_by e m (n + length chunk) l (read_of e t s xs chunk).items;
      }) 11
  closes : (n l : ℕ) (s : Spot) (xs : List ℕ) (t : Tables) (room : List ℕ) →
      Rests e s xs → finish_refusal (holding e m n l s xs) t room ≡ 0 →
      eqb m 1 && broken (end_of e t s xs) ≡ false →
      Step e m taken handed (holding e m n l s xs) (finish t room)
      (record { taken = taken; handed = handed ++ shown (end_of e t s xs); decoder = closed_after e m n l (end_of e t s xs) }) 0
  closes_reported : (n l : ℕ) (s : Spot) (xs : List ℕ) (t : Tables) (room : List ℕ) →
      Rests e s xs → finish_refusal (holding e m n l s xs) t room ≡ 0 →
      eqb m 1 && broken (end_of e t s xs) ≡ true →
      Step e m taken handed (holding e m n l s xs) (finish t room)
      (record { taken = taken; handed = handed ++ before (end_of e t s xs); decoder = stopped_by e m n l (end_of e t s xs) }) 11

-- a call's refusal is none of an accepted one's, unless it is 0
five_six : (a b : Bool) (n : ℕ) → eqb n 11 ≡ false → eqb (a then 5 else b then 6 else n) 11 ≡ false
five_six true b n h = refl
five_six false true n h = refl
five_six false false n h = h

pub feed_not_11 : (d : Decoder) (t : Tables) (chunk room : List ℕ) → eqb (feed_refusal d t chunk room) 11 ≡ false
unfolding feed_refusal
feed_not_11 d t chunk room = five_six (not (valid d)) (eqb d.ended 1) _
    (go (not (fits (family d.encoding) t)) (ltb 65536 (length chunk)) (ltb 4294967295 (d.taken + length chunk))
    (ltb (length room) (length chunk + d.held)))
  where
    go : (c e g f : Bool) → eqb (c then 4 else e then 8 else g then 14 else f then 7 else 0) 11 ≡ false
    go true e g f = refl
    go false true g f = refl
    go false false true f = refl
    go false false false true = refl
    go false false false false = refl

pub finish_not_11 : (d : Decoder) (t : Tables) (room : List ℕ) → eqb (finish_refusal d t room) 11 ≡ false
unfolding finish_refusal
finish_not_11 d t room = five_six (not (valid d)) (eqb d.ended 1) _
    (go (eqb d.stage 1 && not (fits (family d.encoding) t)) (ltb (length room) d.held))
  where
    go : (c f : Bool) → eqb (c then 4 else f then 7 else 0) 11 ≡ false
    go true f = refl
    go false true = refl
    go false false = refl

-- an accepted call finds a decoder that has not ended
six : (a b : Bool) (n : ℕ) → eqb (a then 5 else b then 6 else n) 0 ≡ true → b ≡ false
six true b n h = absurd (subst T (sym h) tt)
six false true n h = absurd (subst T (sym h) tt)
six false false n h = refl

pub feed_open : (d : Decoder) (t : Tables) (chunk room : List ℕ) → eqb (feed_refusal d t chunk room) 0 ≡ true → eqb d.ended 1 ≡ false
unfolding feed_refusal
feed_open d t chunk room h = six (not (valid d)) (eqb d.ended 1) _ h

pub finish_open : (d : Decoder) (t : Tables) (room : List ℕ) → eqb (finish_refusal d t room) 0 ≡ true → eqb d.ended 1 ≡ false
unfolding finish_refusal
finish_open d t room h = six (not (valid d)) (eqb d.ended 1) _ h

neither : (n : ℕ) → eqb n 0 ≡ false → eqb n 11 ≡ false → accepted n ≡ false
neither n p q = rw (p, q)

-- What a call comes to.
pub record Stepped (e m : ℕ) (h : History) (c : Call) : Type 0 where
  pub next : History
  pub number : ℕ
  pub leads : noted h (chunk_of c) (outcome h c) ≡ next
  pub refusal : (outcome h c).answer.refusal ≡ number
  pub step : Step e m h.taken h.handed h.decoder c next number

module _ (e m : ℕ) where
  -- the outcome of an accepted feed and finish
  pub feed_holding : (n l : ℕ) (s : Spot) (xs : List ℕ) (t : Tables) (chunk room : List ℕ) →
      Rests e s xs → feed_refusal (holding e m n l s xs) t chunk room ≡ 0 →
      feeding (holding e m n l s xs) t chunk room ≡ hand_out_read e m (n - length xs) (n + length chunk) l (read_of e t s xs chunk) room
  unfolding feeding
  feed_holding n l s xs t chunk room w h = rw (h, bit_back s.shift.flag, held_holding e m n l s xs (rests_few e s xs w))

  pub finish_holding : (n l : ℕ) (s : Spot) (xs : List ℕ) (t : Tables) (room : List ℕ) →
      Rests e s xs → finish_refusal (holding e m n l s xs) t room ≡ 0 →
      finishing (holding e m n l s xs) t room ≡ hand_out e m (n - length xs) n l (end_of e t s xs) (closed e m n) room
  unfolding finishing
  finish_holding n l s xs t room w h = rw (h, bit_back s.shift.flag, held_holding e m n l s xs (rests_few e s xs w))

  feed_refused : (d : Decoder) (t : Tables) (chunk room : List ℕ) → eqb (feed_refusal d t chunk room) 0 ≡ false →
      feeding d t chunk room ≡ refuse (feed_refusal d t chunk room) d room
  unfolding feeding
  feed_refused d t chunk room h = rw h

  finish_refused : (d : Decoder) (t : Tables) (room : List ℕ) → eqb (finish_refusal d t room) 0 ≡ false →
      finishing d t room ≡ refuse (finish_refusal d t room) d room
  unfolding finishing
  finish_refused d t room h = rw h

  module _ (h : History) where
    -- what was written stands at the front of the room
    front : (cs room : List ℕ) → h.handed ++ take (length cs) (cs ++ drop (length cs) room) ≡ h.handed ++ cs
    front cs room = rw (take-append_seam cs (drop (length cs) room))

    refusing : (c : Call) (d : Decoder) → h.decoder ≡ d → (n : ℕ) (room : List ℕ) → eqb n 0 ≡ false → eqb n 11 ≡ false →
        outcome h c ≡ refuse n d room → Stepped e m h c
    refusing c d k n room p q o = record {
      next = h;
      number = n;
      leads = ap (noted h (chunk_of c)) o ∙ rw (p, q, append-nil h.taken, append-nil h.handed, ← k);
      refusal = ap (λ (o : Outcome). o.answer.refusal) o;
      step = refused h.decoder c n (neither n p q);
    }

    feeds : (n l : ℕ) (s : Spot) (xs : List ℕ) → h.decoder ≡ holding e m n l s xs → Rests e s xs →
        (chunk : List ℕ) (t : Tables) (room : List ℕ) → feed_refusal (holding e m n l s xs) t chunk room ≡ 0 →
        Stepped e m h (feed chunk t room)
    feeds n l s xs k w chunk t room z = go (eqb m 1 && broken (read_of e t s xs chunk).items) refl
      where
        r : Parsed
        r = read_of e t s xs chunk

        out : Bool → Outcome
        out = handed_if e m (n - length xs) (n + length chunk) l r.items
            (λ l'. holding e m (n + length chunk) l' r.spot r.rest) room

        is : outcome h (feed chunk t room) ≡ out (eqb m 1 && broken r.items)
        is = ap (λ (d : Decoder). feeding d t chunk room) k ∙ feed_holding n l s xs t chunk room w z

        to : List ℕ → Decoder → History
        to cs d = record { taken = h.taken ++ chunk; handed = cs; decoder = d }

        wrote : (cs : List ℕ) (d : Decoder) → to (h.handed ++ take (length cs) (cs ++ drop (length cs) room)) d ≡ to (h.handed ++ cs) d
        wrote cs d = ap (λ (cs' : List ℕ). to cs' d) (front cs room)

        go : (b : Bool) → eqb m 1 && broken r.items ≡ b → Stepped e m h (feed chunk t room)
        go true q = record {
          next = to (h.handed ++ before r.items) (stopped_by e m (n + length chunk) l r.items);
          number = 11;
          leads = ap (noted h chunk) (is ∙ ap out q) ∙ wrote (before r.items) (stopped_by e m (n + length chunk) l r.items);
          refusal = ap (λ (o : Outcome). o.answer.refusal) (is ∙ ap out q);
          step = rw k (reported n l s xs chunk t room w z q);
        }
        go false q = record {
          next = to (h.handed ++ shown r.items) (onward e m n l chunk r);
          number = 0;
          leads = ap (noted h chunk) (is ∙ ap out q) ∙ wrote (shown r.items) (onward e m n l chunk r);
          refusal = ap (λ (o : Outcome). o.answer.refusal) (is ∙ ap out q);
          step = rw k (fed n l s xs chunk t room w z q);
        }

    finishes : (n l : ℕ) (s : Spot) (xs : List ℕ) → h.decoder ≡ holding e m n l s xs → Rests e s xs →
        (t : Tables) (room : List ℕ) → finish_refusal (holding e m n l s xs) t room ≡ 0 → Stepped e m h (finish t room)
    finishes n l s xs k w t room z = go (eqb m 1 && broken (end_of e t s xs)) refl
      where
        is : List Item
        is = end_of e t s xs

        out : Bool → Outcome
        out = handed_if e m (n - length xs) n l (end_of e t s xs) (closed e m n) room

        gives : outcome h (finish t room) ≡ out (eqb m 1 && broken (end_of e t s xs))
        gives = ap (λ (d : Decoder). finishing d t room) k ∙ finish_holding n l s xs t room w z

        to : List ℕ → List ℕ → Decoder → History
        to xs cs d = record { taken = xs; handed = cs; decoder = d }

        wrote : (cs : List ℕ) (d : Decoder) →
            to (h.taken ++ []) (h.handed ++ take (length cs) (cs ++ drop (length cs) room)) d ≡ to h.taken (h.handed ++ cs) d
        wrote cs d = λ i. to (append-nil h.taken i) (front cs room i) d

        go : (b : Bool) → eqb m 1 && broken (end_of e t s xs) ≡ b → Stepped e m h (finish t room)
        go true q = record {
          next = to h.taken (h.handed ++ before is) (stopped_by e m n l is);
          number = 11;
          leads = ap (noted h []) (gives ∙ ap out q) ∙ wrote (before is) (stopped_by e m n l is);
          refusal = ap (λ (o : Outcome). o.answer.refusal) (gives ∙ ap out q);
          step = rw k (closes_reported n l s xs t room w z q);
        }
        go false q = record {
          next = to h.taken (h.handed ++ shown is) (closed_after e m n l is);
          number = 0;
          leads = ap (noted h []) (gives ∙ ap out q) ∙ wrote (shown is) (closed_after e m n l is);
          refusal = ap (λ (o : Outcome). o.answer.refusal) (gives ∙ ap out q);
          step = rw k (closes n l s xs t room w z q);
        }

    on_feed : (d : Decoder) → h.decoder ≡ d → Stands e m d → (chunk : List ℕ) (t : Tables) (room : List ℕ) (b : Bool) →
        eqb (feed_refusal d t chunk room) 0 ≡ b → Stepped e m h (feed chunk t room)
    on_feed d k st chunk t room false q = refusing (feed chunk t room) d k (feed_refusal d t chunk room) room q (feed_not_11 d t chunk room)
        (ap (λ (d : Decoder). feeding d t chunk room) k ∙ feed_refused d t chunk room q)
    on_feed d k (reads n l s xs w) chunk t room true q =
        feeds n l s xs k w chunk t room (eqb-true (feed_refusal (holding e m n l s xs) t chunk room) 0 q)
    on_feed d k (ended n l) chunk t room true q = absurd (subst T (feed_open (closed e m n l) t chunk room q) tt)

    on_finish : (d : Decoder) → h.decoder ≡ d → Stands e m d → (t : Tables) (room : List ℕ) (b : Bool) →
        eqb (finish_refusal d t room) 0 ≡ b → Stepped e m h (finish t room)
    on_finish d k st t room false q = refusing (finish t room) d k (finish_refusal d t room) room q (finish_not_11 d t room)
        (ap (λ (d : Decoder). finishing d t room) k ∙ finish_refused d t room q)
    on_finish d k (reads n l s xs w) t room true q =
        finishes n l s xs k w t room (eqb-true (finish_refusal (holding e m n l s xs) t room) 0 q)
    on_finish d k (ended n l) t room true q = absurd (subst T (finish_open (closed e m n l) t room q) tt)

  pub stepped : (h : History) → Stands e m h.decoder → (c : Call) → Stepped e m h c
  stepped h st (feed chunk t room) = on_feed h h.decoder refl st chunk t room (eqb (feed_refusal h.decoder t chunk room) 0) refl
  stepped h st (finish t room) = on_finish h h.decoder refl st t room (eqb (finish_refusal h.decoder t room) 0) refl

  -- a call leaves a decoder that stands
  pub still : {taken handed : List ℕ} {d : Decoder} {c : Call} {h : History} {n : ℕ} →
      Step e m taken handed d c h n → Stands e m d → Stands e m h.decoder
  still (refused d c n p) st = st
  still (fed n l s xs chunk t room w z q) st =
      let r = read_of e t s xs chunk in
      reads (n + length chunk) (l + line_feeds (shown r.items)) r.spot r.rest (parsing t e s (xs ++ chunk)).waits
  still (reported n l s xs chunk t room w z q) st = ended (n + length chunk) (l + line_feeds (before (read_of e t s xs chunk).items))
  still (closes n l s xs t room w z q) st = ended n (l + line_feeds (shown (end_of e t s xs)))
  still (closes_reported n l s xs t room w z q) st = ended n (l + line_feeds (before (end_of e t s xs)))

  -- The induction over every list of calls.
  pub every_list : (P : History → Type 0) →
      ((h : History) (c : Call) (h' : History) (n : ℕ) → Stands e m h.decoder → P h →
      Step e m h.taken h.handed h.decoder c h' n → P h') →
      (h : History) (cs : List Call) → Stands e m h.decoder → P h → P (after h cs)
  unfolding after
  every_list P f h [] st p = p
  every_list P f h (c ∷ cs) st p =
      let x = stepped h st c in
      subst (λ (h' : History). P (after h' cs)) (sym x.leads)
      (every_list P f x.next cs (still x.step st) (f h c x.next x.number st p x.step))

-- what an accepted opening leaves
pub opened_is : (e m rule : ℕ) → open_refusal e m rule ≡ 0 →
    start e m rule ≡ record { taken = []; handed = []; decoder = holding e m 0 0 (new_spot e rule) [] }
unfolding start opening
opened_is e m rule h = rw h

pub refused_opening : (e m rule : ℕ) → eqb (open_refusal e m rule) 0 ≡ false →
    start e m rule ≡ record { taken = []; handed = []; decoder = closed 0 0 0 0 }
unfolding start opening
refused_opening e m rule h = rw h

pub stands_new : (e m rule : ℕ) → Stands e m (holding e m 0 0 (new_spot e rule) [])
stands_new e m rule = reads 0 0 (new_spot e rule) [] (none_rest e (new_spot e rule))

-- a new decoder that keeps the mark has no shift
pub kept_new : (e : ℕ) → new_spot e 1 ≡ spot 0 plain
kept_new e = ap (λ (b : Bool). spot 0 (shift 0 b)) (and-false (traits (family e)).mark)

-- a new decoder for which a mark is to choose has no shift
pub waiting_new : (e rule : ℕ) → eqb (new_spot e rule).stage 1 ≡ true → new_spot e rule ≡ spot 1 plain
waiting_new e rule h = go (eqb rule 2) (eqb rule 0) refl refl h
  where
    go : (x y : Bool) → eqb rule 2 ≡ x → eqb rule 0 ≡ y → eqb (bit x) 1 ≡ true →
        spot (bit x) (shift 0 ((traits (family e)).mark && y)) ≡ spot 1 plain
    go true true p q h = absurd (omega (arith, eqb-true rule 2 p, eqb-true rule 0 q))
    go true false p q h = ap (λ (b : Bool). spot 1 (shift 0 b)) (and-false (traits (family e)).mark)
    go false y p q h = absurd (subst T (sym h) tt)
