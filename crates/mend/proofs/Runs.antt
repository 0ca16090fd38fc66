-- The text, buffer after buffer, of an input that is known: what is read, written, and still to be written. Assumes nothing.
use Rattle.std.proofs.Common.{◌≡◌, refl, sym, ap, ◌∙◌, subst, ℕ, zero, suc, ◌+◌, ◌*◌, ◌-◌, ◌≤◌, ◌<◌, Bool, true, false, List, [], ◌∷◌, ◌++◌, length, take, drop, length-drop, length-take, take_all, append_assoc, append-nil, le_refl, arith, Option, None, Some, IfSome, is_ok}
use Rattle.std.proofs.Math.Dec.{eqb}
use Rattle.std.proofs.KnownBytes.{Appends-nil, Appends-trans}
use Rattle.std.specs.Io.KnownBytes.{Appends, Consumes, IsAtEnd}
use borrow.Author.Tests.{le-ltb, ltb-false, eqb-true, eqb-false}
use Rattle.std.proofs.lemmas.List.{take-append-drop}
use Rattle.standard.specs.Base.{◌then◌else◌}
use Rattle.standard.specs.Encodings.{Tables, family, fits}
use Rattle.standard.proofs.Tests.{split}
use Rattle.decoder.specs.Calls.{Outcome, feed_refusal, read_on, feeding, open_refusal, opening}
use Rattle.decoder.specs.Record.{holding}
use Rattle.decoder.specs.declared.Decoder.{Decoder}
use Rattle.demands.specs.Histories.{History, start}
use Rattle.demands.proofs.Steps.{handed_is, feed_is, opened_is}
use Rattle.replacements_spec.specs.Calls.{Handed, feed_tell_refusal, feed_telling, finish_telling}
use Rattle.replacements_spec.specs.Statements.{Piece, joined}
use Rattle.mend_spec.specs.Mended.{Streams, mended_text}
use Rattle.mend_spec.specs.Program.{fitting, over, step_of, gives, joins, nothing, text_by}
use Rattle.mend_spec.specs.Statements.{Roomy}
use Rattle.mend_spec.proofs.Theorems.{mends}
use Rattle.mend.specs.Steps.{Wrote, Few, Written, Suits}
use Rattle.mend.specs.declared.Mended.{Mended}
use Rattle.program_text.proofs.Fronts.{front}
use Rattle.mend.proofs.Refusals.{numbered_ok}

-- Streams joined.
pub joins_assoc : (a b c : Streams) → joins (joins a b) c ≡ joins a (joins b c)
joins_assoc a b c = λ i. record { output = append_assoc a.output b.output c.output i; report = append_assoc a.report b.report c.report i }

nothing_joined : (a : Streams) → joins nothing a ≡ a
nothing_joined a = refl

joined_nothing : (a : Streams) → joins a nothing ≡ a
joined_nothing a = λ i. record { output = append-nil a.output i; report = append-nil a.report i }

-- Every input can be cut into buffers, with these rooms.
module _ (full : ℕ) (room spans : List ℕ) (low : 0 < full) (high : full ≤ 65536) (r : full + 3 ≤ length room) (p : 2 * (full + 3) ≤ length spans) where
  cut_within : (k : ℕ) (xs : List ℕ) → length xs ≤ k → (ps : List Piece) × Roomy ps room spans × (joined ps ≡ xs)
  unfolding Roomy joined
  cut_within zero [] h = ([], (omega (arith, r), omega (arith, p)), refl)
  cut_within zero (x ∷ xs) h = absurd (omega arith)
  cut_within (suc k) xs h =
      let c = cut_within k (drop full xs) (omega (arith, length-drop full xs)) in (
        record { chunk = take full xs; room = room; spans = spans } ∷ c.0,
        (omega (arith, length-take full xs), omega (arith, length-take full xs, r), omega (arith, length-take full xs, p), c.1),
        ap (λ l. take full xs ++ l) c.2 ∙ take-append-drop full xs,
      )

  pub cut : (xs : List ℕ) → (ps : List Piece) × Roomy ps room spans × (joined ps ≡ xs)
  cut xs = cut_within (length xs) xs (le_refl _)

-- What a step gave and is not written yet.
abbrev pub pending : Mended → List ℕ → List ℕ → Streams
pending s out report = record { output = take s.written out; report = take s.told report }

-- What the buffers behind it give.
abbrev pub behind : Tables → Mended → List Piece → List ℕ → List ℕ → Streams
behind t s ps room spans = is_ok s.outcome then text_by t s.decoder ps room spans else nothing

-- Of a whole text, some is written, what a step gave is not yet, and the buffers that are left give the rest.
pub record ToMend (t : Tables) (s : Mended) (out report xs : List ℕ) (whole written : Streams) : Type 0 where
  pub still : (ps : List Piece) (room spans : List ℕ) → Roomy ps room spans → joined ps ≡ xs →
      whole ≡ joins written (joins (pending s out report) (behind t s ps room spans))

-- What a step wrote is what its call gave.
given : {h : Handed} {more : Bool} {out report : List ℕ} {r : Mended} {out' report' : List ℕ} → Wrote h more out report r out' report' → Few r out' report' →
    length out' ≡ length out → length report' ≡ length report → pending r out' report' ≡ gives h more
given {h} {more} {out} {report} {r} {out'} {report'} w f o p = λ i. record {
  output = front w.output (omega (arith, f.text, w.output.behind, o)) i;
  report = front w.lines (omega (arith, f.lines, w.lines.behind, p)) i;
}

-- A feed that is not refused has taken its chunk.
Took : Decoder → List ℕ → Outcome → Type 0
Took d chunk o = o.answer.refusal ≡ 0 → o.answer.decoder.taken ≡ d.taken + length chunk

feed_took : (d : Decoder) (t : Tables) (chunk room : List ℕ) → Took d chunk (feeding d t chunk room)
unfolding Took
feed_took d t chunk room = feed_is (Took d chunk) d t chunk room
    (λ z. handed_is (Took d chunk) d.encoding d.mode (d.taken - d.held) (d.taken + length chunk) d.lines (read_on d t chunk).items
    (λ l. holding d.encoding d.mode (d.taken + length chunk) l (read_on d t chunk).spot (read_on d t chunk).rest) room
    (λ q. absurd (omega (arith, q))) (λ q. refl))
    (λ z q. absurd (eqb-false (feed_refusal d t chunk room) 0 z q))

tell_took : (d : Decoder) (t : Tables) (chunk room spans : List ℕ) → (feed_telling d t chunk room spans).answer.answer.refusal ≡ 0 →
    (feed_telling d t chunk room spans).answer.answer.decoder.taken ≡ d.taken + length chunk
unfolding feed_telling Took
tell_took d t chunk room spans = split (eqb (feed_tell_refusal d t chunk room spans) 0)
    (λ e. rw e (feed_took d t chunk room))
    (λ e. rw e (λ q. absurd (eqb-false (feed_tell_refusal d t chunk room spans) 0 e q)))

of_more : (more : Bool) → ◌≡◌ {A = ℕ} (more then 14 else 0) 0 → more ≡ false
of_more true e = absurd (omega (arith, e))
of_more false e = refl

of_step : (n : ℕ) (more : Bool) → step_of n more ≡ 0 → (n ≡ 0) × (more ≡ false)
of_step n more e = split (eqb n 0)
    (λ q. let e' : ◌≡◌ {A = ℕ} (more then 14 else 0) 0 = rw q at e in (eqb-true n 0 q, of_more more e'))
    (λ q. let e' : n ≡ 0 = rw q at e in absurd (eqb-false n 0 q e'))

-- A further buffer.
module _ (d : Decoder) (t : Tables) (b room spans : List ℕ) {out report : List ℕ} {s : Mended} {out' report' : List ℕ}
    (w : Wrote (feed_telling d t (fitting d b) room spans) (over d b) out report s out' report') where
  abbrev told : Handed
  told = feed_telling d t (fitting d b) room spans

  -- A step that is not refused has taken all of its buffer.
  took : is_ok s.outcome ≡ true → (s.decoder.taken ≡ d.taken + length b) × (length b ≤ 4294967295 - d.taken)
  took z =
      let zero = eqb-true (step_of told.answer.answer.refusal (over d b)) 0 (sym (numbered_ok s.outcome _ w.refusal) ∙ z) in
      let k = of_step told.answer.answer.refusal (over d b) zero in
      let few = ltb-false (4294967295 - d.taken) (length b) k.1 in (
        ap (λ (d : Decoder). d.taken) w.decoder ∙ tell_took d t (fitting d b) room spans k.0 ∙
            ap (λ l. d.taken + length l) (take_all (4294967295 - d.taken) b few),
        few,
      )

  abbrev piece : Piece
  piece = record { chunk = b; room = room; spans = spans }

  module _ (f : Few s out' report') (o : length out' ≡ length out) (p : length report' ≡ length report) where
    unrolled : (ps : List Piece) (room' spans' : List ℕ) → text_by t d (piece ∷ ps) room' spans' ≡ joins (pending s out' report') (behind t s ps room' spans')
    unfolding text_by
    unrolled ps room' spans' = sym (λ i. joins (given w f o p i) (numbered_ok s.outcome _ w.refusal i then text_by t (w.decoder i) ps room' spans' else nothing))

-- The reads that are left are enough for every text that a decoder takes.
abbrev pub most : ℕ
most = 0x4_0000_0000_0000

pub record Turns (full : ℕ) (s : Mended) (n turns : ℕ) : Type 0 where
  pub more : most ≤ turns + s.decoder.taken + 1
  pub filled : full ≤ n → most ≤ turns + s.decoder.taken
  pub taken : s.decoder.taken ≤ 4294967295

-- Before what a step gave is written: n bytes were read for it, and of the input the bytes xs are left.
pub record Head (t : Tables) (full : ℕ) (s : Mended) (out report : List ℕ) (n turns : ℕ) (xs : List ℕ) (whole written : Streams) : Type 0 where
  pub mend : ToMend t s out report xs whole written
  pub short : n < full → xs ≡ []
  pub left : is_ok s.outcome ≡ true → Turns full s n turns
  pub some : 0 < turns

-- Rooms that keep their lengths.
pub suits_still : {full : ℕ} {room spans : List ℕ} (room' spans' : List ℕ) → length room' ≡ length room → length spans' ≡ length spans → Suits full room spans → Suits full room' spans'
suits_still room' spans' p q s = record { low = s.low; high = s.high; scalars = omega (arith, s.scalars, p); told = omega (arith, s.told, q) }

pub with_piece : {full : ℕ} (b : List ℕ) {room spans : List ℕ} → Suits full room spans → length b ≤ full → (ps : List Piece) (room' spans' : List ℕ) →
    Roomy ps room' spans' → Roomy (record { chunk = b; room = room; spans = spans } ∷ ps) room' spans'
unfolding Roomy
with_piece b r h ps room' spans' g = (omega (arith, r.high, h), omega (arith, r.scalars, h), omega (arith, r.told, h), g)

pub joined_piece : (b room spans : List ℕ) (ps : List Piece) → joined (record { chunk = b; room = room; spans = spans } ∷ ps) ≡ b ++ joined ps
unfolding joined
joined_piece b room spans ps = refl

-- The opened decoder, and the first buffer.
pub opened_zero : (e : ℕ) → e ≤ 39 → (opening e 0 0).decoder.taken ≡ 0
unfolding open_refusal start
opened_zero e h = let o : open_refusal e 0 0 ≡ 0 = rw (le-ltb 39 e h) refl in ap (λ (h : History). h.decoder.taken) (opened_is e 0 0 o)

module _ (t : Tables) (full : ℕ) {room spans : List ℕ} (r : Suits full room spans) {out report : List ℕ} {s : Mended} {out' report' : List ℕ} where
  pub first_head : (e : ℕ) (b xs : List ℕ) (n : ℕ) → e ≤ 39 → fits (family e) t ≡ true → length b ≤ full → (n < full → xs ≡ []) → let d = (opening e 0 0).decoder in
      Wrote (feed_telling d t (fitting d b) room spans) (over d b) out report s out' report' → Few s out' report' →
      length out' ≡ length out → length report' ≡ length report →
      Head t full s out' report' n most xs (mended_text t e (b ++ xs)) nothing
  first_head e b xs n a g h short w f o p =
      let d = (opening e 0 0).decoder in
      let zero = opened_zero e a in
      record {
        mend = record {
          still = λ ps room' spans' y j.
              ap (λ l. mended_text t e (b ++ l)) (sym j) ∙ ap (mended_text t e) (sym (joined_piece b room spans ps)) ∙
              sym (mends.text t e (piece d t b room spans w ∷ ps) room' spans' a g (with_piece b r h ps room' spans' y)) ∙
              unrolled d t b room spans w f o p ps room' spans';
        };
        short = short;
        left = λ z. let k = took d t b room spans w z in record { more = omega arith; filled = λ _. omega arith; taken = omega (arith, k.0, k.1, zero) };
        some = omega arith;
      }

  -- A further buffer, behind one that filled the buffer and was not refused.
  pub next_head : (s₀ : Mended) (out₀ report₀ b xs xs' : List ℕ) (n n' turns turns' : ℕ) (whole written : Streams) → turns ≡ turns' + 1 →
      Head t full s₀ out₀ report₀ n turns xs whole written → is_ok s₀.outcome ≡ true → full ≤ n →
      length b ≡ n' → n' ≤ full → xs ≡ b ++ xs' → (n' < full → xs' ≡ []) → let d = s₀.decoder in
      Wrote (feed_telling d t (fitting d b) room spans) (over d b) out report s out' report' → Few s out' report' →
      length out' ≡ length out → length report' ≡ length report →
      Head t full s out' report' n' turns' xs' whole (joins written (pending s₀ out₀ report₀))
  next_head s₀ out₀ report₀ b xs xs' n n' turns turns' whole written left head z k size few x short w f o p =
      let d = s₀.decoder in
      let l = head.left z in
      record {
        mend = record {
          still = λ ps room' spans' y j.
              let us = pending s₀ out₀ report₀ in
              let all : joined (piece d t b room spans w ∷ ps) ≡ xs = joined_piece b room spans ps ∙ ap (λ l. b ++ l) j ∙ sym x in
              let on : behind t s₀ (piece d t b room spans w ∷ ps) room' spans' ≡ text_by t d (piece d t b room spans w ∷ ps) room' spans' = rw z refl in
              head.mend.still (piece d t b room spans w ∷ ps) room' spans' (with_piece b r (omega (arith, size, few)) ps room' spans' y) all ∙
              ap (λ v. joins written (joins us v)) (on ∙ unrolled d t b room spans w f o p ps room' spans') ∙
              sym (joins_assoc written us (joins (pending s out' report') (behind t s ps room' spans')));
        };
        short = short;
        left = λ z'. let q = took d t b room spans w z' in let m = l.filled k in record {
          more = omega (arith, m, left, q.0);
          filled = λ v. omega (arith, m, left, q.0, size, v, r.low);
          taken = omega (arith, q.0, q.1, l.taken);
        };
        some = omega (arith, l.more, l.taken);
      }

-- No text needs all turns.
pub enough : {t : Tables} {full : ℕ} {s : Mended} {out report : List ℕ} {n turns : ℕ} {xs : List ℕ} {whole written : Streams} →
    Head t full s out report n turns xs whole written → turns ≡ 0 → ⊥
enough h e = omega (arith, h.some, e)

-- The end of input.
module _ (t : Tables) (full : ℕ) {room spans : List ℕ} (r : Suits full room spans) where
  pub at_end : {s₀ : Mended} {out₀ report₀ : List ℕ} {n turns : ℕ} {xs : List ℕ} {whole written : Streams} → Head t full s₀ out₀ report₀ n turns xs whole written → is_ok s₀.outcome ≡ true → n < full →
      {out report : List ℕ} {s : Mended} {out' report' : List ℕ} → Wrote (finish_telling s₀.decoder t room spans) false out report s out' report' → Few s out' report' →
      length out' ≡ length out → length report' ≡ length report → whole ≡ joins (joins written (pending s₀ out₀ report₀)) (pending s out' report')
  unfolding Roomy joined text_by
  at_end {s₀} {out₀} {report₀} {n} {turns} {xs} {whole} {written} head z k {out} {report} {s} {out'} {report'} w f o p =
      let us = pending s₀ out₀ report₀ in
      let on : behind t s₀ [] room spans ≡ gives (finish_telling s₀.decoder t room spans) false = rw z refl in
      head.mend.still [] room spans (omega (arith, r.scalars), omega (arith, r.told)) (sym (head.short k)) ∙
      ap (λ v. joins written (joins us v)) (on ∙ sym (given w f o p)) ∙ sym (joins_assoc written us (pending s out' report'))

  -- A refusal.
  pub at_refusal : {s : Mended} {out report : List ℕ} {n turns : ℕ} {xs : List ℕ} {whole written : Streams} → Head t full s out report n turns xs whole written →
      is_ok s.outcome ≡ false → whole ≡ joins written (pending s out report)
  at_refusal {s} {out} {report} {n} {turns} {xs} {whole} {written} head z =
      let c = cut full room spans r.low r.high r.scalars r.told xs in
      let off : behind t s c.0 room spans ≡ nothing = rw z refl in
      head.mend.still c.0 room spans c.1 c.2 ∙ ap (λ v. joins written (joins (pending s out report) v)) off ∙
      ap (joins written) (joined_nothing (pending s out report))

-- Where an input is known: a claim about all of it, what is left of it, and what is written to both streams.
abbrev pub Known : Option (List ℕ) → Option (List ℕ) → Option (List ℕ) → Option (List ℕ) → Option (List ℕ) → Option (List ℕ) → (List ℕ → List ℕ → Streams → Type 0) → Type 0
Known None r w₀ w e₀ e P = Unit {0}
Known (Some all) None w₀ w e₀ e P = ⊥
Known (Some all) (Some xs) w₀ w e₀ e P = (written : Streams) × Appends w₀ w written.output × Appends e₀ e written.report × P all xs written

pub known_first : (r w e : Option (List ℕ)) (P : List ℕ → List ℕ → Streams → Type 0) → ((all : List ℕ) → P all all nothing) → Known r r w w e e P
known_first None w e P f = tt
known_first (Some all) w e P f = (nothing, Appends-nil w, Appends-nil e, f all)

-- Behind a read of some bytes and a write to both streams.
pub known_next : (r₀ r r' w₀ w w' e₀ e e' : Option (List ℕ)) (n full : ℕ) (b : List ℕ) (us : Streams) (P P' : List ℕ → List ℕ → Streams → Type 0) →
    Consumes r r' b → (n < full → IsAtEnd r') → Appends w w' us.output → Appends e e' us.report →
    ((all xs xs' : List ℕ) (written : Streams) → xs ≡ b ++ xs' → (n < full → xs' ≡ []) → P all xs written → P' all xs' (joins written us)) →
    Known r₀ r w₀ w e₀ e P → Known r₀ r' w₀ w' e₀ e' P'
known_next None r r' w₀ w w' e₀ e e' n full b us P P' c m a a' f k = tt
known_next (Some all) None r' w₀ w w' e₀ e e' n full b us P P' c m a a' f k = absurd k
known_next (Some all) (Some xs) None w₀ w w' e₀ e e' n full b us P P' c m a a' f k = absurd c
known_next (Some all) (Some xs) (Some xs') w₀ w w' e₀ e e' n full b us P P' c m a a' f k =
    (joins k.0 us, Appends-trans w₀ w w' k.0.output us.output k.1 a, Appends-trans e₀ e e' k.0.report us.report k.2 a', f all xs xs' k.0 c m k.3)

pub known_end : (r₀ r w₀ w w' e₀ e e' : Option (List ℕ)) (us : Streams) (P : List ℕ → List ℕ → Streams → Type 0) (Q : List ℕ → Type 0) (goal : List ℕ → Streams) →
    Appends w w' us.output → Appends e e' us.report → ((all xs : List ℕ) (written : Streams) → P all xs written → Q all → goal all ≡ joins written us) →
    Known r₀ r w₀ w e₀ e P → IfSome r₀ (λ all. Q all → Written w₀ w' e₀ e' (goal all))
known_end None r w₀ w w' e₀ e e' us P Q goal a a' f k = tt
known_end (Some all) None w₀ w w' e₀ e e' us P Q goal a a' f k = absurd k
known_end (Some all) (Some xs) w₀ w w' e₀ e e' us P Q goal a a' f k = λ q. subst (Written w₀ w' e₀ e') (sym (f all xs k.0 k.3 q)) (record {
  text = Appends-trans w₀ w w' k.0.output us.output k.1 a;
  lines = Appends-trans e₀ e e' k.0.report us.report k.2 a';
})
