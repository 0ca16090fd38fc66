-- What the code's tests of a record and of a call come to. Assumes nothing.
use mathlib.Core.Path.{◌≡◌, refl, sym, ap, subst, ◌∙◌}
use mathlib.Core.Bool.{Bool, true, false, ◌&&◌, ◌||◌, not}
use mathlib.Core.List.{List, [], ◌∷◌}
use Prim.Native.Nat.{ℕ, zero, suc, ◌+◌, ◌-◌, ◌≤◌, ◌<◌}
use native.Mathlib.Omega.{arith}
use lib.Dec.{ltb, leb, eqb}
use lib.ListN.{length, take}
use borrow.Author.Tests.{ltb-true, ltb-false, le-ltb, lt-ltb, ne_eqb, eq-eqb}
use Rattle.standard.specs.Base.{◌then◌else◌, line_feeds}
use Rattle.standard.specs.Encodings.{Family, family, Tables, no_tables, fits}
use Rattle.standard.specs.Sequence.{Shift, Next, more, item, shift, plain}
use Rattle.standard.specs.Next.{next}
use Rattle.standard.specs.Items.{shown, broken, before, reach}
use Rattle.standard.specs.Choice.{Choice, waiting, label, marked, choose, reader, Spot, spot, Parsed, is_more, is_waiting, rests}
use Rattle.standard.proofs.Tests.{split}
use Rattle.standard.proofs.AnyTables.{more_any}
use Rattle.standard.proofs.Stages.{none_rest}
use Rattle.std.specs.Prelude.{Option, Some, None, is_some, Result}
use Rattle.sequences.specs.Code.{next_of, front}
use Rattle.sequences.specs.declared.Sequence.{Sequence}
use Rattle.reading.specs.Reading.{chosen_of, ReadOutcome, refused, reported, wrote, read_chunk}
use Rattle.reading.specs.Reading.{read_end as reading_end}
use Rattle.reading.specs.declared.choice.Chosen.{Chosen}
use Rattle.reading.specs.declared.choice.Chosen.TheVariants.{Waits, Label, Marked}
use Rattle.reading.specs.declared.Left.{Left}
use Rattle.reading.specs.declared.Refusal.TheVariants.{RoomTooSmall, ChunkTooLong, TotalTooLarge}
use Rattle.reading.specs.declared.Stop.{Stop}
use Rattle.decoder.specs.Record.{shift_of, spot_of, held_of, new, closed}
use Rattle.decoder.specs.Valid.{possible_at, valid_rest, valid}
use Rattle.decoder.specs.Calls.{open_refusal, opening, Outcome, refuse, write, report}
use Rattle.decoder.specs.Calls.{read_on, feed_refusal, feeding, read_end, finish_refusal, finishing}
use Rattle.decoder.specs.Code.{number, accepting, refusing, held_in, still_to_take, record_refusal, misfit, Answers, fed, finished}
use Rattle.decoder.specs.declared.Decoder.{Decoder}
use Rattle.decoder.specs.declared.Answer.{Answer}
use Rattle.decoder.specs.declared.refusals.Refusal.{Refusal}
use Rattle.decoder.specs.declared.refusals.Refusal.TheVariants.{UnknownEncoding, UnknownMode, TablesMisfit, InvalidRecord, Ended}
use Rattle.decoder.proofs.Parts.{parts}

-- whether more bytes are wanted does not depend on the tables
more_same : (t t' : Tables) (f : Family) (s : Shift) (xs : List ℕ) → is_more (next t f s xs) ≡ is_more (next t' f s xs)
more_same t t' f s xs = go (next t f s xs) (next t' f s xs) refl refl
  where
    go : (a b : Next) → next t f s xs ≡ a → next t' f s xs ≡ b → is_more a ≡ is_more b
    go more more p q = refl
    go more (item w s' o) p q = let z : item w s' o ≡ more = sym q ∙ more_any t t' f s xs p in sym (ap is_more z)
    go (item w s' o) more p q = let z : item w s' o ≡ more = sym p ∙ more_any t' t f s xs q in ap is_more z
    go (item w s' o) (item w' s'' o') p q = refl

more_of : (r : Option Sequence) → is_more (next_of r) ≡ not (is_some r)
more_of None = refl
more_of (Some q) = refl

front_held : (n a b c : ℕ) → n ≤ 3 → front n a b c 0 ≡ take n (a ∷ b ∷ c ∷ [])
front_held zero a b c h = refl
front_held (suc zero) a b c h = refl
front_held (suc (suc zero)) a b c h = refl
front_held (suc (suc (suc zero))) a b c h = refl
front_held (suc (suc (suc (suc n)))) a b c h = absurd (omega arith)

-- no byte held
pub none_started : (d : Decoder) → d.held ≡ 0 → true ≡ rests d.encoding (spot_of d) (held_of d)
none_started d h =
    let e = d.encoding in
    let p = spot_of d in
    sym (ap (λ (n : ℕ). rests e p (take n (d.first ∷ d.second ∷ d.third ∷ []))) h ∙ none_rest e p)

-- bytes that wait for the choice
abbrev pub is_waits : Chosen → Bool
is_waits Waits = true
is_waits Label = false
is_waits (Marked w g) = false

pub not_waits : (c : Chosen) → (c ≡ Waits → ⊥) → is_waits c ≡ false
not_waits Waits h = absurd (h refl)
not_waits Label h = refl
not_waits (Marked w g) h = refl

waits : (xs : List ℕ) → is_waits (chosen_of (choose xs)) ≡ is_waiting (choose xs)
waits xs = go (choose xs)
  where
    go : (c : Choice) → is_waits (chosen_of c) ≡ is_waiting c
    go waiting = refl
    go label = refl
    go (marked w g) = refl

pub waits_is : (d : Decoder) (c : Chosen) → d.stage ≡ 1 → c ≡ chosen_of (choose (held_of d)) →
    is_waits c ≡ rests d.encoding (spot_of d) (held_of d)
unfolding rests
waits_is d c g e = ap is_waits e ∙ waits (held_of d) ∙ sym (rw (eq-eqb d.stage 1 g))

-- bytes of a sequence, by the encoding r that reads
pub started_is : (d : Decoder) (t : Tables) (r : ℕ) (q : Option Sequence) →
    (d.stage ≡ 1 → ⊥) → r ≡ reader d.encoding d.stage → d.held ≤ 3 →
    next_of q ≡ next t (family r) (shift d.state (eqb d.flag 1)) (front d.held d.first d.second d.third 0) →
    not (is_some q) ≡ rests d.encoding (spot_of d) (held_of d)
unfolding rests
started_is d t r q n e h k =
    let s = shift_of d in
    sym (more_of q) ∙ ap is_more (k ∙ ap (next t (family r) s) (front_held d.held d.first d.second d.third h)) ∙
    more_same t no_tables (family r) s (held_of d) ∙
    sym (rw (ne_eqb d.stage 1 n) (ap (λ (r : ℕ). is_more (next no_tables (family r) s (held_of d))) (sym e)))

-- the test of a record that has not ended
module _ (d : Decoder) where
  pub rest_open : (d.ended ≡ 1 → ⊥) → valid_rest d ≡ leb d.held d.taken &&
      possible_at d.encoding d.mode (spot_of d) (d.taken - d.held) d.lines && rests d.encoding (spot_of d) (held_of d)
  unfolding valid_rest
  rest_open n = rw (ne_eqb d.ended 1 n)

-- the refusal that a record alone gives
module _ (d : Decoder) where
  pub record_5 : valid d ≡ false → record_refusal d ≡ 5
  unfolding record_refusal
  record_5 v = rw v

  pub record_6 : valid d ≡ true → d.ended ≡ 1 → record_refusal d ≡ 6
  unfolding record_refusal
  record_6 v n = rw (v, eq-eqb d.ended 1 n)

  pub record_0 : valid d ≡ true → (d.ended ≡ 1 → ⊥) → record_refusal d ≡ 0
  unfolding record_refusal
  record_0 v n = rw (v, ne_eqb d.ended 1 n)

  -- what no such refusal says
  pub record_good : record_refusal d ≡ 0 → (valid d ≡ true) × (eqb d.ended 1 ≡ false)
  unfolding record_refusal
  record_good = go (valid d) (eqb d.ended 1)
    where
      go : (v n : Bool) → ◌≡◌ {A = ℕ} (not v then 5 else n then 6 else 0) 0 → (v ≡ true) × (n ≡ false)
      go false n z = absurd (omega arith)
      go true true z = absurd (omega arith)
      go true false z = (refl, refl)

-- refused for the record, whatever number n the tests behind it give
record_refused : (d : Decoder) (room : List ℕ) (o : Outcome) (n : ℕ) → (record_refusal d ≡ 0 → ⊥) →
    let m = not (valid d) then 5 else eqb d.ended 1 then 6 else n in
    (eqb m 0 then o else refuse m d room) ≡ refuse (record_refusal d) d room
unfolding record_refusal
record_refused d room o n = go (valid d) (eqb d.ended 1)
  where
    go : (v e : Bool) → (◌≡◌ {A = ℕ} (not v then 5 else e then 6 else 0) 0 → ⊥) →
        (eqb (not v then 5 else e then 6 else n) 0 then o else refuse (not v then 5 else e then 6 else n) d room) ≡
        refuse (not v then 5 else e then 6 else 0) d room
    go false e z = refl
    go true true z = refl
    go true false z = absurd (z refl)

-- every refusal has a number
pub some_number : (r : Refusal) → number r ≡ 0 → ⊥
some_number UnknownEncoding h = absurd (omega arith)
some_number UnknownMode h = absurd (omega arith)
some_number TablesMisfit h = absurd (omega arith)
some_number InvalidRecord h = absurd (omega arith)
some_number Ended h = absurd (omega arith)

-- what reading leaves, by the test for a report
unfoldable pub handed_by_lem : Parsed → List ℕ → Bool → ReadOutcome
handed_by_lem x room b =
    b then reported (reach x.items) (before x.items) room else
    wrote (shown x.items) x.spot x.rest room

-- The answer of a call after which n bytes are taken: what it hands out, and its refusals.
module _ (d : Decoder) (n : ℕ) (after : ℕ → Spot → List ℕ → Decoder) where
  out_by : Parsed → List ℕ → Bool → Outcome
  out_by x room b =
      let k = d.lines + line_feeds (before x.items) in
      b then report (d.taken - d.held + reach x.items) (1 + k) (before x.items) (closed d.encoding d.mode n k) room else
      write (shown x.items) (after (d.lines + line_feeds (shown x.items)) x.spot x.rest) room

  handed_agree : (x : Parsed) (room : List ℕ) {a : Answer} {room' : List ℕ} (b : Bool) → Answers d n after (handed_by_lem x room b).left a →
      room' ≡ (handed_by_lem x room b).room → (a ≡ (out_by x room b).answer) × (room' ≡ (out_by x room b).room)
  unfolding handed_by_lem out_by
  handed_agree x room true A q = (A, q)
  handed_agree x room false A q = (A (length (shown x.items)) (line_feeds (shown x.items)) x.spot x.rest refl, q)

-- the bytes that may still be taken
still : (n k : ℕ) → n ≤ 4294967295 → ltb (4294967295 - n) k ≡ ltb 4294967295 (n + k)
still n k h = split (ltb 4294967295 (n + k))
    (λ e. lt-ltb (4294967295 - n) k (omega (arith, ltb-true 4294967295 (n + k) e)) ∙ sym e)
    (λ e. le-ltb (4294967295 - n) k (omega (arith, ltb-false 4294967295 (n + k) e)) ∙ sym e)

-- A feed: refused for the record, refused for the tables, and read.
module _ (d : Decoder) (t : Tables) (chunk room : List ℕ) where
  feed_record : (record_refusal d ≡ 0 → ⊥) → feeding d t chunk room ≡ refuse (record_refusal d) d room
  unfolding feeding feed_refusal
  feed_record z = record_refused d room _ _ z

  pub feed_refused : (r : Refusal) → record_refusal d ≡ number r → feeding d t chunk room ≡ refuse (number r) d room
  feed_refused r e = feed_record (λ z. some_number r (sym e ∙ z)) ∙ ap (λ (n : ℕ). refuse n d room) e

  -- the bytes taken after it, and what follows
  abbrev pub fed_bytes : ℕ
  fed_bytes = d.taken + length chunk

  abbrev pub fed_after : ℕ → Spot → List ℕ → Decoder
  fed_after = fed d fed_bytes

  -- what reading leaves, and the call, by the tests behind those of the record and the tables
  unfoldable pub left_by : (c f r b : Bool) → ReadOutcome
  left_by c f r b =
      c then refused ChunkTooLong room else
      f then refused TotalTooLarge room else
      r then refused RoomTooSmall room else handed_by_lem (read_on d t chunk) room b

  call_by : (c f r b : Bool) → Outcome
  call_by c f r b =
      let k : ℕ = c then 8 else f then 14 else r then 7 else 0 in
      eqb k 0 then out_by d fed_bytes fed_after (read_on d t chunk) room b else refuse k d room

  agree : {a : Answer} {room' : List ℕ} (c f r b : Bool) → Answers d fed_bytes fed_after (left_by c f r b).left a →
      room' ≡ (left_by c f r b).room → (a ≡ (call_by c f r b).answer) × (room' ≡ (call_by c f r b).room)
  unfolding left_by call_by
  agree true f r b A q = (A, q)
  agree false true r b A q = (A, q)
  agree false false true b A q = (A, q)
  agree false false false b A q = handed_agree d fed_bytes fed_after (read_on d t chunk) room b A q

  module _ (good : record_refusal d ≡ 0) where
    pub feed_tables : fits (family d.encoding) t ≡ false → feeding d t chunk room ≡ refuse 4 d room
    unfolding feeding feed_refusal
    feed_tables f = let g = record_good d good in rw (g.0, g.1, f)

    abbrev pub chunk_read : ReadOutcome
    chunk_read = read_chunk d.encoding d.mode d.stage d.state d.flag (held_in d) (still_to_take d) t chunk room

    -- what reading leaves, by those tests
    pub chunk_by : d.taken ≤ 4294967295 → chunk_read ≡ left_by (ltb 65536 (length chunk)) (ltb 4294967295 fed_bytes)
        (ltb (length room) (length chunk + d.held)) (eqb d.mode 1 && broken (read_on d t chunk).items)
    unfolding read_chunk left_by handed_by_lem
    chunk_by h = rw (le-ltb 3 d.held (parts d (record_good d good).0).held, still d.taken (length chunk) h)

    -- the answer that reading leads to is the call's
    pub feed_read : d.taken ≤ 4294967295 → fits (family d.encoding) t ≡ true →
        {l : Result Left Stop} {a : Answer} {room' : List ℕ} → Answers d fed_bytes fed_after l a → l ≡ chunk_read.left → room' ≡ chunk_read.room →
        (a ≡ (feeding d t chunk room).answer) × (room' ≡ (feeding d t chunk room).room)
    unfolding feeding feed_refusal call_by out_by
    feed_read h f {a = a} A p q =
        let g = record_good d good in
        let e = chunk_by h in
        rw (g.0, g.1, f) (agree (ltb 65536 (length chunk)) (ltb 4294967295 fed_bytes) (ltb (length room) (length chunk + d.held))
        (eqb d.mode 1 && broken (read_on d t chunk).items)
        (subst (λ (l : Result Left Stop). Answers d fed_bytes fed_after l a) (p ∙ ap (λ (y : ReadOutcome). y.left) e) A)
        (q ∙ ap (λ (y : ReadOutcome). y.room) e))

-- A finish: refused for the record, refused for the tables while the choice is to come, refused for the room, and ended.
module _ (d : Decoder) (t : Tables) (room : List ℕ) where
  finish_record : (record_refusal d ≡ 0 → ⊥) → finishing d t room ≡ refuse (record_refusal d) d room
  unfolding finishing finish_refusal
  finish_record z = record_refused d room _ _ z

  pub finish_refused : (r : Refusal) → record_refusal d ≡ number r → finishing d t room ≡ refuse (number r) d room
  finish_refused r e = finish_record (λ z. some_number r (sym e ∙ z)) ∙ ap (λ (n : ℕ). refuse n d room) e

  abbrev pub end : Parsed
  end = record { items = read_end d t; spot = spot 0 plain; rest = [] }

  unfoldable pub end_by : (r b : Bool) → ReadOutcome
  end_by r b =
      r then refused RoomTooSmall room else handed_by_lem end room b

  finish_by : (r b : Bool) → Outcome
  finish_by r b =
      let k : ℕ = r then 7 else 0 in
      eqb k 0 then out_by d d.taken (finished d) end room b else refuse k d room

  ends_agree : {a : Answer} {room' : List ℕ} (r b : Bool) → Answers d d.taken (finished d) (end_by r b).left a →
      room' ≡ (end_by r b).room → (a ≡ (finish_by r b).answer) × (room' ≡ (finish_by r b).room)
  unfolding end_by finish_by
  ends_agree true b A q = (A, q)
  ends_agree false b A q = handed_agree d d.taken (finished d) end room b A q

  module _ (good : record_refusal d ≡ 0) where
    pub finish_tables : misfit d t ≡ true → finishing d t room ≡ refuse 4 d room
    unfolding finishing finish_refusal
    finish_tables f = let g = record_good d good in rw (g.0, g.1, f)

    abbrev pub end_read : ReadOutcome
    end_read = reading_end d.encoding d.mode d.stage d.state d.flag (held_in d) t room

    pub end_is : end_read ≡ end_by (ltb (length room) d.held) (eqb d.mode 1 && broken (read_end d t))
    unfolding reading_end end_by handed_by_lem
    end_is = rw (le-ltb 3 d.held (parts d (record_good d good).0).held)

    pub finish_read : misfit d t ≡ false → {l : Result Left Stop} {a : Answer} {room' : List ℕ} → Answers d d.taken (finished d) l a →
        l ≡ end_read.left → room' ≡ end_read.room → (a ≡ (finishing d t room).answer) × (room' ≡ (finishing d t room).room)
    unfolding finishing finish_refusal finish_by out_by
    finish_read f {a = a} A p q =
        let g = record_good d good in
        rw (g.0, g.1, f) (ends_agree (ltb (length room) d.held) (eqb d.mode 1 && broken (read_end d t))
        (subst (λ (l : Result Left Stop). Answers d d.taken (finished d) l a) (p ∙ ap (λ (y : ReadOutcome). y.left) end_is) A)
        (q ∙ ap (λ (y : ReadOutcome). y.room) end_is))

-- opening
module _ (e m rule : ℕ) where
  pub open_2 : 39 < e → opening e m rule ≡ refusing 2 (closed 0 0 0 0)
  unfolding opening open_refusal
  open_2 h = rw (lt-ltb 39 e h)

  pub open_3 : e ≤ 39 → ltb 1 m || ltb 2 rule ≡ true → opening e m rule ≡ refusing 3 (closed 0 0 0 0)
  unfolding opening open_refusal
  open_3 h k = rw (le-ltb 39 e h, k)

  pub open_0 : e ≤ 39 → m ≤ 1 → rule ≤ 2 → opening e m rule ≡ accepting 0 (new e m rule)
  unfolding opening open_refusal
  open_0 h l r = rw (le-ltb 39 e h, le-ltb 1 m l, le-ltb 2 rule r)
