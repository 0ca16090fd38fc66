-- What every list of calls keeps true: the count and the separators, where decoding stands, the totals, and whether the decoder has ended.
-- Assumes nothing.
use mathlib.Core.Path.{◌≡◌, refl, sym, ap, ◌∙◌, subst}
use mathlib.Core.Bool.{Bool, true, false, ◌&&◌, ◌||◌}
use mathlib.Core.List.{List, [], ◌∷◌, ◌++◌, append_assoc, append-nil}
use Prim.Native.Nat.{ℕ, ◌+◌, ◌≤◌}
use native.Mathlib.Omega.{arith}
use lib.Dec.{T, eqb, lit≤}
use lib.ListN.{length, length-append}
use borrow.Author.Tests.{eqb-true}
use Rattle.standard.specs.Base.{separators, line_feeds}
use Rattle.standard.specs.Encodings.{family, Tables, no_tables}
use Rattle.standard.specs.Sequence.{plain}
use Rattle.standard.specs.Decode.{Item, shown, broken, before}
use Rattle.standard.specs.Choice.{reader, Spot, spot, read_from}
use Rattle.standard.proofs.Tests.{and_left}
use Rattle.standard.proofs.Laws.{none0}
use Rattle.standard.proofs.FamilyLaws.{keeps}
use Rattle.standard.proofs.Items.{before_length}
use Rattle.standard.proofs.Reading.{separators_append}
use Rattle.standard.proofs.LineFeeds.{line_feeds-append}
use Rattle.standard.proofs.Stages.{Rests, rests_few, none_rest, chunks_from, parsing, Standing, standing, meet_from, read_rest}
use Rattle.standard.proofs.Stages.{at_wait, rest_wait, ended_from, held_clear, stage_stays, stage_one}
use Rattle.decoder.specs.Record.{spot_of, held_of, bit, holding}
use Rattle.demands.specs.Histories.{Call, feed, finish, History, accepted, after, ends, any_ends}
use Rattle.decoder.specs.declared.Decoder.{Decoder}
use Rattle.decoder.proofs.Records.{bit_back, spot_holding, held_holding}
use Rattle.demands.proofs.Steps.{Stands, reads, ended, read_of, end_of, Step, refused, fed, reported, closes, closes_reported}
use Rattle.demands.proofs.Steps.{stepped, still}

pub empty_list : (xs : List ℕ) → length xs ≤ 0 → xs ≡ []
empty_list [] h = refl
empty_list (x ∷ xs) h = absurd (omega arith)

-- Does the encoding that the bytes taken lead to, from the first spot, keep separators?
abbrev pub Keeps : ℕ → Spot → List ℕ → Type 0
Keeps e p₀ taken = T (keeps (family (reader e (read_from no_tables e p₀ taken).spot.stage)))

-- The bytes taken are bytes used up, and then the bytes held; no more characters were handed out than bytes used up, and the separators
-- taken, where the encoding that reads keeps them.
pub record Kept (e m : ℕ) (p₀ : Spot) (taken handed held : List ℕ) : Type 0 where
  pub used : List ℕ
  pub split : taken ≡ used ++ held
  pub count : length handed ≤ length used
  pub kept : m ≡ 0 → Keeps e p₀ taken → separators handed ≡ separators taken

module _ (e m : ℕ) where
  -- Where reading the bytes taken from the first spot, with no tables, stands: at the spot and the bytes of the record.
  abbrev pub Tracks : Spot → List ℕ → Decoder → Type 0
  Tracks p₀ taken d = d.ended ≡ 0 → standing (read_from no_tables e p₀ taken) ≡ record { spot = spot_of d; rest = held_of d }

  stands_holding : (n l : ℕ) (s : Spot) (xs : List ℕ) → length xs ≤ 3 →
      let d = holding e m n l s xs in ◌≡◌ {A = Standing} (record { spot = spot_of d; rest = held_of d }) (record { spot = s; rest = xs })
  stands_holding n l s xs h = λ i. record { spot = spot_holding e m n l s xs i; rest = held_holding e m n l s xs h i }

  pub tracks_new : (p₀ : Spot) → (eqb p₀.stage 1 ≡ true → p₀ ≡ spot 1 plain) → Tracks p₀ [] (holding e m 0 0 p₀ [])
  tracks_new p₀ u o = ap standing (read_rest no_tables e p₀ [] u (none_rest e p₀)) ∙ sym (stands_holding 0 0 p₀ [] (lit≤ tt))

  -- of a record that reads on
  pub tracked : (p₀ : Spot) (taken : List ℕ) (n l : ℕ) (s : Spot) (xs : List ℕ) → Rests e s xs →
      Tracks p₀ taken (holding e m n l s xs) → standing (read_from no_tables e p₀ taken) ≡ record { spot = s; rest = xs }
  tracked p₀ taken n l s xs w i = i refl ∙ stands_holding n l s xs (rests_few e s xs w)

  -- one chunk more, read with any tables
  tracked_more : (p₀ s : Spot) (taken xs chunk : List ℕ) (t : Tables) →
      standing (read_from no_tables e p₀ taken) ≡ record { spot = s; rest = xs } →
      standing (read_from no_tables e p₀ (taken ++ chunk)) ≡ standing (read_of e t s xs chunk)
  tracked_more p₀ s taken xs chunk t here =
      ap standing (chunks_from no_tables e p₀ taken chunk) ∙
      ap (λ (p : Standing). standing (read_from no_tables e p.spot (p.rest ++ chunk))) here ∙ meet_from no_tables t e s (xs ++ chunk)

  -- a chunk leaves few bytes
  left : (s : Spot) (xs chunk : List ℕ) (t : Tables) → length (read_of e t s xs chunk).rest ≤ 3
  left s xs chunk t = let r = read_of e t s xs chunk in rests_few e r.spot r.rest (parsing t e s (xs ++ chunk)).waits

  pub tracks_step : (p₀ : Spot) {taken handed : List ℕ} {d : Decoder} {c : Call} {h : History} {n : ℕ} →
      Step e m taken handed d c h n → Tracks p₀ taken d → Tracks p₀ h.taken h.decoder
  tracks_step p₀ (refused d c n p) i o = i o
  tracks_step p₀ {taken} (fed n l s xs chunk t room w z q) i o =
      let r = read_of e t s xs chunk in
      tracked_more p₀ s taken xs chunk t (tracked p₀ taken n l s xs w i) ∙
      sym (stands_holding (n + length chunk) (l + line_feeds (shown r.items)) r.spot r.rest (left s xs chunk t))
  tracks_step p₀ (reported n l s xs chunk t room w z q) i o = absurd (omega arith)
  tracks_step p₀ (closes n l s xs t room w z q) i o = absurd (omega arith)
  tracks_step p₀ (closes_reported n l s xs t room w z q) i o = absurd (omega arith)

  refusing : (b : Bool) → eqb m 1 && b ≡ true → m ≡ 0 → ⊥
  refusing b q z = omega (arith, eqb-true m 1 (and_left (eqb m 1) b q), z)

  -- the separators of a chunk, behind bytes that hold none
  chunk_separators : (t : Tables) (s : Spot) (xs chunk : List ℕ) → let r = read_of e t s xs chunk in
      T (keeps (family (reader e r.spot.stage))) → separators xs ≡ [] → separators (shown r.items) ≡ separators chunk
  chunk_separators t s xs chunk k h =
      let r = read_of e t s xs chunk in
      let R = parsing t e s (xs ++ chunk) in
      R.kept k ∙
      sym (ap separators R.split ∙ separators_append R.used r.rest ∙
      ap (λ (l : List ℕ). separators R.used ++ l) (held_clear e r.spot r.rest R.waits k) ∙ append-nil (separators R.used)) ∙
      separators_append xs chunk ∙ ap (λ (l : List ℕ). l ++ separators chunk) h

  module _ (p₀ : Spot) where
    -- a decoder that holds nothing
    pub kept_none : (taken handed : List ℕ) → length handed ≤ length taken →
        (m ≡ 0 → Keeps e p₀ taken → separators handed ≡ separators taken) → Kept e m p₀ taken handed []
    kept_none taken handed c k = record { used = taken; split = sym (append-nil taken); count = c; kept = k }

    module _ (taken handed xs : List ℕ) (i : Kept e m p₀ taken handed xs) (s : Spot)
        (here : standing (read_from no_tables e p₀ taken) ≡ record { spot = s; rest = xs }) where
      stage_here : (read_from no_tables e p₀ taken).spot.stage ≡ s.stage
      stage_here = ap (λ (p : Standing). p.spot.stage) here

      -- The encoding that reads behind a chunk read before it, too, or the choice was to come and nothing was handed out. So what was
      -- handed out has the separators taken, and none is held.
      kept_before : Rests e s xs → (t : Tables) (ys : List ℕ) → m ≡ 0 → T (keeps (family (reader e (read_from t e s ys).spot.stage))) →
          (separators handed ≡ separators taken) × (separators xs ≡ [])
      kept_before w t ys z k = go (eqb s.stage 1) refl
        where
          go : (b : Bool) → eqb s.stage 1 ≡ b → (separators handed ≡ separators taken) × (separators xs ≡ [])
          go false g =
              let k' = subst (λ (g : ℕ). T (keeps (family (reader e g)))) (stage_stays t e s ys g) k in
              (i.kept z (subst (λ (g : ℕ). T (keeps (family (reader e g)))) (sym stage_here) k'), held_clear e s xs w k')
          go true g =
              let all : xs ≡ taken =
              sym (ap (λ (p : Standing). p.rest) here) ∙ stage_one no_tables e p₀ taken (stage_here ∙ eqb-true s.stage 1 g) in
              let none : length handed ≤ 0 = omega (arith, i.count, ap length i.split ∙ length-append i.used xs, ap length all) in
              let clear = (at_wait xs (rest_wait e s xs g w)).1 in
              (ap separators (empty_list handed none) ∙ none0 ∙ sym clear ∙ ap separators all, clear)

      kept_fed : Rests e s xs → (chunk : List ℕ) (t : Tables) →
          let r = read_of e t s xs chunk in Kept e m p₀ (taken ++ chunk) (handed ++ shown r.items) r.rest
      kept_fed w chunk t =
          let r = read_of e t s xs chunk in
          let R = parsing t e s (xs ++ chunk) in
          record {
            used = i.used ++ R.used;
            split = ap (λ (l : List ℕ). l ++ chunk) i.split ∙ append_assoc i.used xs chunk ∙
                ap (λ (l : List ℕ). i.used ++ l) R.split ∙ sym (append_assoc i.used R.used r.rest);
            count = simp length-append (omega (arith, i.count, R.count));
            kept = λ z k.
                let now = tracked_more p₀ s taken xs chunk t here in
                let k' = subst (λ (p : Standing). T (keeps (family (reader e p.spot.stage)))) now k in
                let b = kept_before w t (xs ++ chunk) z k' in
                separators_append handed (shown r.items) ∙
                rw (b.0, chunk_separators t s xs chunk k' b.1) (sym (separators_append taken chunk));
          }

      -- a report 11, in refusing mode: everything is taken, nothing is held
      kept_reported : (chunk : List ℕ) (is : List Item) → length (shown is) ≤ length (xs ++ chunk) → eqb m 1 && broken is ≡ true →
          Kept e m p₀ (taken ++ chunk) (handed ++ before is) []
      kept_reported chunk is c q = kept_none (taken ++ chunk) (handed ++ before is)
          (rw i.split (simp length-append (omega (arith, before_length is, i.count, simp length-append at c))))
          (λ z k. absurd (refusing (broken is) q z))

      kept_closed : (t : Tables) → Rests e s xs → Kept e m p₀ taken (handed ++ shown (end_of e t s xs)) []
      kept_closed t w =
          let E = ended_from t e s xs w in
          kept_none taken (handed ++ shown (end_of e t s xs))
          (rw i.split (simp length-append (omega (arith, i.count, E.count))))
          (λ z k.
          let k' = subst (λ (g : ℕ). T (keeps (family (reader e g)))) stage_here k in
          separators_append handed (shown (end_of e t s xs)) ∙ rw (i.kept z k, E.kept k') (append-nil (separators taken)))

    pub kept_step : {taken handed : List ℕ} {d : Decoder} {c : Call} {h : History} {n : ℕ} → Step e m taken handed d c h n →
        Tracks p₀ taken d → Kept e m p₀ taken handed (held_of d) → Kept e m p₀ h.taken h.handed (held_of h.decoder)
    kept_step (refused d c n p) u i = i
    kept_step {taken} {handed} (fed n l s xs chunk t room w z q) u i =
        let r = read_of e t s xs chunk in
        let i' = rw (held_holding e m n l s xs (rests_few e s xs w)) at i in
        rw (held_holding e m (n + length chunk) (l + line_feeds (shown r.items)) r.spot r.rest (left s xs chunk t))
        (kept_fed taken handed xs i' s (tracked p₀ taken n l s xs w u) w chunk t)
    kept_step {taken} {handed} (reported n l s xs chunk t room w z q) u i =
        let r = read_of e t s xs chunk in
        let R = parsing t e s (xs ++ chunk) in
        let i' = rw (held_holding e m n l s xs (rests_few e s xs w)) at i in
        kept_reported taken handed xs i' s (tracked p₀ taken n l s xs w u) chunk r.items
        (omega (arith, R.count, ap length R.split ∙ length-append R.used r.rest)) q
    kept_step {taken} {handed} (closes n l s xs t room w z q) u i =
        let i' = rw (held_holding e m n l s xs (rests_few e s xs w)) at i in
        kept_closed taken handed xs i' s (tracked p₀ taken n l s xs w u) t w
    kept_step {taken} {handed} (closes_reported n l s xs t room w z q) u i =
        let i' = rw (held_holding e m n l s xs (rests_few e s xs w)) at i in
        rw (append-nil taken) at (kept_reported taken handed xs i' s (tracked p₀ taken n l s xs w u) [] (end_of e t s xs)
        (rw (append-nil xs) (ended_from t e s xs w).count) q)

  -- Both totals are counts over the whole history.
  pub record Counted (taken handed : List ℕ) (d : Decoder) : Type 0 where
    pub bytes : d.taken ≡ length taken
    pub feeds : d.lines ≡ line_feeds handed

  more_bytes : (taken chunk : List ℕ) {n : ℕ} → n ≡ length taken → n + length chunk ≡ length (taken ++ chunk)
  more_bytes taken chunk p = rw (length-append taken chunk, p)

  more_feeds : (handed cs : List ℕ) {l : ℕ} → l ≡ line_feeds handed → l + line_feeds cs ≡ line_feeds (handed ++ cs)
  more_feeds handed cs p = rw (line_feeds-append handed cs, p)

  pub counted_step : {taken handed : List ℕ} {d : Decoder} {c : Call} {h : History} {n : ℕ} →
      Step e m taken handed d c h n → Counted taken handed d → Counted h.taken h.handed h.decoder
  counted_step (refused d c n p) i = i
  counted_step {taken} {handed} (fed n l s xs chunk t room w z q) i =
      record { bytes = more_bytes taken chunk i.bytes; feeds = more_feeds handed (shown (read_of e t s xs chunk).items) i.feeds }
  counted_step {taken} {handed} (reported n l s xs chunk t room w z q) i =
      record { bytes = more_bytes taken chunk i.bytes; feeds = more_feeds handed (before (read_of e t s xs chunk).items) i.feeds }
  counted_step {taken} {handed} (closes n l s xs t room w z q) i =
      record { bytes = i.bytes; feeds = more_feeds handed (shown (end_of e t s xs)) i.feeds }
  counted_step {taken} {handed} (closes_reported n l s xs t room w z q) i =
      record { bytes = i.bytes; feeds = more_feeds handed (before (end_of e t s xs)) i.feeds }

  -- Whether the decoder has ended.
  ended_bit : {d : Decoder} → Stands e m d → d.ended ≡ bit (eqb d.ended 1)
  ended_bit (reads n l s xs w) = refl
  ended_bit (ended n l) = refl

  or_right : (a b : Bool) → a || b ≡ false → b ≡ false
  or_right true b h = absurd (subst T h tt)
  or_right false b h = h

  not_ends : (c : Call) (n : ℕ) → accepted n ≡ false → ends c n ≡ false
  not_ends (feed chunk t room) n p = or_right (eqb n 0) (eqb n 11) p
  not_ends (finish t room) n p = p

  or-false : (a b : Bool) → b ≡ false → a || b ≡ a
  or-false true b h = refl
  or-false false b h = h

  ended_step : {taken handed : List ℕ} {d : Decoder} {c : Call} {h : History} {n : ℕ} →
      Step e m taken handed d c h n → Stands e m d → h.decoder.ended ≡ bit (eqb d.ended 1 || ends c n)
  ended_step (refused d c n p) st = ended_bit st ∙ ap bit (sym (or-false (eqb d.ended 1) (ends c n) (not_ends c n p)))
  ended_step (fed n l s xs chunk t room w z q) st = refl
  ended_step (reported n l s xs chunk t room w z q) st = refl
  ended_step (closes n l s xs t room w z q) st = refl
  ended_step (closes_reported n l s xs t room w z q) st = refl

  or_assoc : (a b c : Bool) → (a || b) || c ≡ a || (b || c)
  or_assoc true b c = refl
  or_assoc false b c = refl

  pub ended_after : (h : History) (cs : List Call) → Stands e m h.decoder →
      (after h cs).decoder.ended ≡ bit (eqb h.decoder.ended 1 || any_ends h cs)
  unfolding after any_ends
  ended_after h [] st = ended_bit st ∙ ap bit (sym (or-false (eqb h.decoder.ended 1) false refl))
  ended_after h (c ∷ cs) st =
      let x = stepped e m h st c in
      let k : eqb x.next.decoder.ended 1 ≡ eqb h.decoder.ended 1 || ends c x.number =
      ap (λ (n : ℕ). eqb n 1) (ended_step x.step st) ∙ bit_back (eqb h.decoder.ended 1 || ends c x.number) in
      ap (λ (h' : History). (after h' cs).decoder.ended) x.leads ∙ ended_after x.next cs (still e m x.step st) ∙
      ap (λ (b : Bool). bit (b || any_ends x.next cs)) k ∙
      ap bit (or_assoc (eqb h.decoder.ended 1) (ends c x.number) (any_ends x.next cs)) ∙
      (λ i. bit (eqb h.decoder.ended 1 || (ends c (sym x.refusal i) || any_ends (sym x.leads i) cs)))
