-- Input cut anywhere, with one pair of tables, gives what the whole gives, in both modes. Assumes nothing.
use mathlib.Core.Path.{◌≡◌, refl, sym, ap, ◌∙◌, subst}
use mathlib.Core.Bool.{Bool, true, false, ◌&&◌, ◌||◌, and-false}
use mathlib.Core.List.{List, [], ◌∷◌, ◌++◌, append_assoc, append-nil}
use Prim.Native.Nat.{ℕ, ◌+◌, ◌-◌, ◌≤◌}
use native.Mathlib.Omega.{arith}
use lib.Dec.{T, eqb, lit≤}
use lib.ListN.{length, take, drop, length-append}
use lib.Seq.{take-append_seam}
use Rattle.standard.specs.Base.{◌then◌else◌, line_feeds}
use Rattle.standard.specs.Encodings.{Tables, no_tables}
use Rattle.standard.specs.Sequence.{plain}
use Rattle.standard.specs.Decode.{Item, shown, broken, before, widths, reach}
use Rattle.standard.specs.Choice.{Spot, spot, Parsed, read_from, everything_from}
use Rattle.standard.proofs.Tests.{and_left, and_right}
use Rattle.standard.proofs.Items.{shown_append, broken_append, before_append, before_broken, reach_append, reach_broken}
use Rattle.standard.proofs.LineFeeds.{line_feeds-append}
use Rattle.standard.proofs.Stages.{Rests, none_rest, chunks_from, parsing, Standing, standing, meet_from, read_rest, all_rest, all_cut}
use Rattle.decoder.specs.Record.{holding, closed, new_spot}
use Rattle.decoder.specs.Calls.{open_refusal, Outcome, refuse, feed_refusal, feeding, finish_refusal, finishing}
use Rattle.demands.specs.Histories.{Call, feed, finish, History, accepted, noted, after, start}
use Rattle.demands.specs.Statements.{Piece, joined, cutting, Report, reported, reports, untaken, Account, account, Accepts, AllFeeds}
use Rattle.demands.specs.Whole.{stopped, completed, dealt, whole_account}
use Rattle.decoder.specs.declared.Decoder.{Decoder}
use Rattle.demands.proofs.Steps.{Stands, reads, ended, read_of, end_of, handed_if, feed_is, finish_is, Step, refused, fed}
use Rattle.demands.proofs.Steps.{feed_holding, finish_holding, feed_not_11, finish_not_11, feed_open, finish_open}
use Rattle.demands.proofs.Steps.{stepped, still, opened_is, waiting_new}
use Rattle.demands.proofs.Steps.{reported as reported-at}
use Rattle.demands.proofs.Refused.{feed_accepted}
use Rattle.demands.proofs.Invariants.{Tracks, tracks_new, tracks_step, tracked, Counted, counted_step}

-- in refusing mode nothing before was an error
sound : (m : ℕ) (a b : Bool) → eqb m 1 && a ≡ false → eqb m 1 && b ≡ true → a ≡ false
sound m a b p q = rw (and_left (eqb m 1) b q) at p

both_sound : (x a b : Bool) → x && a ≡ false → x && b ≡ false → x && (a || b) ≡ false
both_sound true false b p q = q
both_sound true true b p q = absurd (subst T p tt)
both_sound false a b p q = refl

second_broken : (x a b : Bool) → a ≡ false → x && b ≡ true → x && (a || b) ≡ true
second_broken x false b p q = q
second_broken x true b p q = absurd (subst T p tt)

module _ (t : Tables) (e m : ℕ) (p₀ : Spot) where
  -- what is read of the bytes taken
  abbrev pub read_all : List ℕ → Parsed
  read_all taken = read_from t e p₀ taken

  -- What was handed out follows from the bytes taken: all that they show, or what stands before the first error.
  pub record Follows (taken handed : List ℕ) (d : Decoder) : Type 0 where
    pub stands : Stands e m d
    pub tracks : Tracks e m p₀ taken d
    pub counts : Counted e m taken handed d
    pub shows : d.ended ≡ 0 → (eqb m 1 && broken (read_all taken).items ≡ false) × (handed ≡ shown (read_all taken).items)
    pub stops : d.ended ≡ 1 → (eqb m 1 && broken (read_all taken).items ≡ true) × (handed ≡ before (read_all taken).items)

  here : (taken : List ℕ) (n l : ℕ) (s : Spot) (xs : List ℕ) → Rests e s xs → Tracks e m p₀ taken (holding e m n l s xs) →
      standing (read_all taken) ≡ record { spot = s; rest = xs }
  here taken n l s xs w i = meet_from t no_tables e p₀ taken ∙ tracked e m p₀ taken n l s xs w i

  -- one chunk more
  items_more : (taken : List ℕ) (s : Spot) (xs chunk : List ℕ) → standing (read_all taken) ≡ record { spot = s; rest = xs } →
      (read_all (taken ++ chunk)).items ≡ (read_all taken).items ++ (read_of e t s xs chunk).items
  items_more taken s xs chunk p = ap (λ (r : Parsed). r.items) (chunks_from t e p₀ taken chunk) ∙
      ap (λ (p : Standing). (read_all taken).items ++ (read_of e t p.spot p.rest chunk).items) p

  follow : {taken handed chunk room : List ℕ} {d : Decoder} {h : History} {n : ℕ} →
      Step e m taken handed d (feed chunk t room) h n → Follows taken handed d → Follows h.taken h.handed h.decoder
  follow (refused d c n p) i = i
  follow {taken} {handed} (fed n l s xs chunk t room w z q) i =
      let step = fed n l s xs chunk t room w z q in
      let r = read_of e t s xs chunk in
      let a = (read_all taken).items in
      let k = items_more taken s xs chunk (here taken n l s xs w i.tracks) in
      record {
        stands = still e m {taken = taken} {handed = handed} step i.stands;
        tracks = tracks_step e m p₀ {taken = taken} {handed = handed} step i.tracks;
        counts = counted_step e m step i.counts;
        shows = λ o. (
          rw (k, broken_append a r.items) (both_sound (eqb m 1) (broken a) (broken r.items) (i.shows refl).0 q),
          rw ((i.shows refl).1, k) (sym (shown_append a r.items)),
        );
        stops = λ o. absurd (omega arith);
      }
  follow {taken} {handed} (reported-at n l s xs chunk t room w z q) i =
      let step = reported-at n l s xs chunk t room w z q in
      let r = read_of e t s xs chunk in
      let a = (read_all taken).items in
      let k = items_more taken s xs chunk (here taken n l s xs w i.tracks) in
      let clean = sound m (broken a) (broken r.items) (i.shows refl).0 q in
      record {
        stands = still e m {taken = taken} {handed = handed} step i.stands;
        tracks = λ o. absurd (omega arith);
        counts = counted_step e m step i.counts;
        shows = λ o. absurd (omega arith);
        stops = λ o. (
          rw (k, broken_append a r.items) (second_broken (eqb m 1) (broken a) (broken r.items) clean q),
          rw ((i.shows refl).1, k) (sym (before_append a r.items clean)),
        );
      }

  follow_all : (h : History) (cs : List Call) → AllFeeds t cs → Follows h.taken h.handed h.decoder →
      let h' = after h cs in Follows h'.taken h'.handed h'.decoder
  unfolding after AllFeeds
  follow_all h [] a i = i
  follow_all h (feed chunk t' room ∷ cs) a i =
      let x = stepped e m h i.stands (feed chunk t room) in
      let k : noted h chunk (feeding h.decoder t' chunk room) ≡ x.next =
      ap (λ (u : Tables). noted h chunk (feeding h.decoder u chunk room)) a.0 ∙ x.leads in
      subst (λ (h' : History). Follows (after h' cs).taken (after h' cs).handed (after h' cs).decoder) (sym k)
      (follow_all x.next cs a.1 (follow x.step i))
  follow_all h (finish t' room ∷ cs) a i = absurd a

  nothing_read : (eqb p₀.stage 1 ≡ true → p₀ ≡ spot 1 plain) → read_all [] ≡ record { items = []; spot = p₀; rest = [] }
  nothing_read u = read_rest t e p₀ [] u (none_rest e p₀)

  follow_new : (eqb p₀.stage 1 ≡ true → p₀ ≡ spot 1 plain) → Follows [] [] (holding e m 0 0 p₀ [])
  unfolding broken shown line_feeds
  follow_new u = record {
    stands = reads 0 0 p₀ [] (none_rest e p₀);
    tracks = tracks_new e m p₀ u;
    counts = record { bytes = refl; feeds = refl };
    shows = λ o. (rw (nothing_read u, and-false (eqb m 1)), rw (nothing_read u));
    stops = λ o. absurd (omega arith);
  }

  -- where no error is reported, everything is shown, and the decoder stands where reading stands
  follow_sound : (taken handed : List ℕ) (d : Decoder) → Stands e m d → Follows taken handed d →
      eqb m 1 && broken (read_all taken).items ≡ false →
      (handed ≡ shown (read_all taken).items) ×
      (d ≡ holding e m (length taken) (line_feeds handed) (read_all taken).spot (read_all taken).rest)
  follow_sound taken handed d (reads n l s xs w) i b =
      let p = here taken n l s xs w i.tracks in
      ((i.shows refl).1, λ j. holding e m (i.counts.bytes j) (i.counts.feeds j) (sym p j).spot (sym p j).rest)
  follow_sound taken handed d (ended n l) i b = absurd (subst T (sym (i.stops refl).0 ∙ b) tt)

-- After feeds with one pair of tables, refused ones among them.
pub feeds_follow : (t : Tables) (e m rule : ℕ) → open_refusal e m rule ≡ 0 → (cs : List Call) → AllFeeds t cs →
    let h = after (start e m rule) cs in Follows t e m (new_spot e rule) h.taken h.handed h.decoder
feeds_follow t e m rule o cs a =
    subst (λ (h : History). Follows t e m (new_spot e rule) (after h cs).taken (after h cs).handed (after h cs).decoder)
    (sym (opened_is e m rule o))
    (follow_all t e m (new_spot e rule) (record { taken = []; handed = []; decoder = holding e m 0 0 (new_spot e rule) [] }) cs a
    (follow_new t e m (new_spot e rule) (waiting_new e rule)))

pub feeds_give : (t : Tables) (e m rule : ℕ) → open_refusal e m rule ≡ 0 → (cs : List Call) → AllFeeds t cs →
    let h = after (start e m rule) cs in let r = read_all t e m (new_spot e rule) h.taken in eqb m 1 && broken r.items ≡ false →
    (h.handed ≡ shown r.items) × (h.decoder ≡ holding e m (length h.taken) (line_feeds h.handed) r.spot r.rest)
feeds_give t e m rule o cs a b =
    let h = after (start e m rule) cs in
    let i = feeds_follow t e m rule o cs a in
    follow_sound t e m (new_spot e rule) h.taken h.handed h.decoder i.stands i b

-- Handing out in two parts.
module _ (e m : ℕ) where
  dealt_stop : (n : ℕ) (is js : List Item) (out : List ℕ) → eqb m 1 && broken is ≡ true →
      dealt e m n (is ++ js) out ≡ stopped e m (n + reach is) (out ++ before is)
  unfolding dealt
  dealt_stop n is js out h =
      let b = and_right (eqb m 1) (broken is) h in
      rw (and_left (eqb m 1) (broken is) h, broken_append is js, b, before_broken is js b, reach_broken is js b)

  dealt_on : (n : ℕ) (is js : List Item) (out : List ℕ) → eqb m 1 && broken is ≡ false →
      dealt e m n (is ++ js) out ≡ dealt e m (n + widths is) js (out ++ shown is)
  unfolding dealt
  dealt_on n is js out h = go (eqb m 1) (broken is) refl h
    where
      one : (x y : Bool) → Account
      one x y = x && y then stopped e m (n + reach (is ++ js)) (out ++ before (is ++ js)) else completed e m (out ++ shown (is ++ js))

      two : (x y : Bool) → Account
      two x y =
          x && y then stopped e m (n + widths is + reach js) ((out ++ shown is) ++ before js) else
          completed e m ((out ++ shown is) ++ shown js)

      all : out ++ shown (is ++ js) ≡ (out ++ shown is) ++ shown js
      all = ap (λ (l : List ℕ). out ++ l) (shown_append is js) ∙ sym (append_assoc out (shown is) (shown js))

      part : broken is ≡ false → out ++ before (is ++ js) ≡ (out ++ shown is) ++ before js
      part b = ap (λ (l : List ℕ). out ++ l) (before_append is js b) ∙ sym (append_assoc out (shown is) (before js))

      far : broken is ≡ false → n + reach (is ++ js) ≡ n + widths is + reach js
      far b = rw (reach_append is js b) (omega arith)

      pick : broken is ≡ false → (y : Bool) → one true y ≡ two true y
      pick b true = λ i. stopped e m (far b i) (part b i)
      pick b false = λ i. completed e m (all i)

      go : (x y : Bool) → broken is ≡ y → x && y ≡ false → one x (broken (is ++ js)) ≡ two x (broken js)
      go true true b q = absurd (subst T q tt)
      go true false b q = ap (one true) (broken_append is js ∙ ap (λ (x : Bool). x || broken js) b) ∙ pick b (broken js)
      go false y b q = λ i. completed e m (all i)

-- The account of one call, with its outcome, and the calls after it; and by whether the call is reported.
abbrev first_if : Bool → History → List ℕ → Outcome → List Call → Account
first_if b h chunk o cs =
    let h' = noted h chunk o in
    record {
      handed = (after h' cs).handed;
      reports = b then reported h' o.answer ∷ reports h' cs else reports h' cs;
      decoder = untaken (after h' cs).decoder;
    }

abbrev first : History → List ℕ → Outcome → List Call → Account
first h chunk o cs = first_if (eqb o.answer.refusal 11) h chunk o cs

-- A decoder that has ended stays as it is, and reports nothing.
shut_feed : (h : History) (t : Tables) (chunk room : List ℕ) → h.decoder.ended ≡ 1 →
    feeding h.decoder t chunk room ≡ refuse (feed_refusal h.decoder t chunk room) h.decoder room
shut_feed h t chunk room z =
    let d = h.decoder in
    let n = feed_refusal d t chunk room in
    feed_is (λ (o : Outcome). o ≡ refuse n d room) d t chunk room
    (λ q. absurd (subst T (sym (ap (λ (n : ℕ). eqb n 1) z) ∙ feed_open d t chunk room (ap (λ (n : ℕ). eqb n 0) q)) tt)) (λ q. refl)

shut_finish : (h : History) (t : Tables) (room : List ℕ) → h.decoder.ended ≡ 1 →
    finishing h.decoder t room ≡ refuse (finish_refusal h.decoder t room) h.decoder room
shut_finish h t room z =
    let d = h.decoder in
    let n = finish_refusal d t room in
    finish_is (λ (o : Outcome). o ≡ refuse n d room) d t room
    (λ q. absurd (subst T (sym (ap (λ (n : ℕ). eqb n 1) z) ∙ finish_open d t room (ap (λ (n : ℕ). eqb n 0) q)) tt)) (λ q. refl)

shut : (t : Tables) (ps : List Piece) (last : List ℕ) (h : History) → h.decoder.ended ≡ 1 →
    account h (cutting t ps last) ≡ record { handed = h.handed; reports = []; decoder = untaken h.decoder }
unfolding account cutting after reports
shut t [] last h z = ap (λ (o : Outcome). first h [] o []) (shut_finish h t last z) ∙
    rw (finish_not_11 h.decoder t last, append-nil h.handed)
shut t (p ∷ ps) last h z =
    let cs = cutting t ps last in
    let o = refuse (feed_refusal h.decoder t p.chunk p.room) h.decoder p.room in
    ap (λ (o : Outcome). first h p.chunk o cs) (shut_feed h t p.chunk p.room z) ∙
    ap (λ (b : Bool). first_if b h p.chunk o cs) (feed_not_11 h.decoder t p.chunk p.room) ∙
    shut t ps last (noted h p.chunk o) z ∙
    (λ i. record { handed = append-nil h.handed i; reports = []; decoder = untaken h.decoder })

module _ (t : Tables) (e m : ℕ) where
  everything_cut : (s : Spot) (xs chunk ys : List ℕ) → let r = read_of e t s xs chunk in
      everything_from t e s (xs ++ (chunk ++ ys)) ≡ r.items ++ everything_from t e r.spot (r.rest ++ ys)
  everything_cut s xs chunk ys = rw (← append_assoc xs chunk ys) (all_cut t e s (xs ++ chunk) ys)

  -- the history whose decoder stands at a spot with bytes held, after n bytes
  abbrev at : List ℕ → List ℕ → ℕ → Spot → List ℕ → History
  at taken out n s xs = record { taken = taken; handed = out; decoder = holding e m n (line_feeds out) s xs }

  feeds : (out cs : List ℕ) → line_feeds out + line_feeds cs ≡ line_feeds (out ++ cs)
  feeds out cs = sym (line_feeds-append out cs)

  -- what was written stands at the front of the room
  front : (out cs room : List ℕ) → out ++ take (length cs) (cs ++ drop (length cs) room) ≡ out ++ cs
  front out cs room = rw (take-append_seam cs (drop (length cs) room))

  -- The account of the end, and of a report, by what was written.
  abbrev ended_with : List ℕ → ℕ → Account
  ended_with cs l = record { handed = cs; reports = []; decoder = closed e m 0 l }

  abbrev reported_with : ℕ → List ℕ → ℕ → Account
  reported_with place cs l =
      let here : Report = record { handed = length cs; place = place; line = 1 + l } in
      record { handed = cs; reports = here ∷ []; decoder = closed e m 0 l }

  -- What is left to do on both sides once the outcome of a call is known: it wrote at the front of its room.
  cut_from : (ps : List Piece) (last taken out : List ℕ) (n : ℕ) (s : Spot) (xs : List ℕ) →
      length xs ≤ n → Rests e s xs → Accepts t (at taken out n s xs) ps last →
      account (at taken out n s xs) (cutting t ps last) ≡ dealt e m (n - length xs) (everything_from t e s (xs ++ joined ps)) out
  unfolding account cutting after reports Accepts joined dealt
  cut_from [] last taken out n s xs le w a =
      ap (λ (o : Outcome). first (at taken out n s xs) [] o []) (finish_holding e m n (line_feeds out) s xs t last w a) ∙
      rw (append-nil xs, all_rest t e s xs w) (go (eqb m 1 && broken is))
    where
      is : List Item
      is = end_of e t s xs

      one : Bool → Account
      one b = first (at taken out n s xs) [] (handed_if e m (n - length xs) n (line_feeds out) is (closed e m n) last b) []

      two : Bool → Account
      two b = b then stopped e m (n - length xs + reach is) (out ++ before is) else completed e m (out ++ shown is)

      go : (b : Bool) → one b ≡ two b
      go true = λ i. reported_with (n - length xs + reach is) (front out (before is) last i) (feeds out (before is) i)
      go false = λ i. ended_with (front out (shown is) last i) (feeds out (shown is) i)
  cut_from (p ∷ ps) last taken out n s xs le w a =
      ap (λ (o : Outcome). first (at taken out n s xs) p.chunk o (cutting t ps last))
      (feed_holding e m n (line_feeds out) s xs t p.chunk p.room w a.0) ∙
      go (eqb m 1 && broken r.items) refl (λ taken' out' n' le' w' a'. cut_from ps last taken' out' n' r.spot r.rest le' w' a') ∙
      sym (ap (λ (is : List Item). dealt e m (n - length xs) is out) (everything_cut s xs p.chunk (joined ps)))
    where
      H : History
      H = at taken out n s xs

      cs : List Call
      cs = cutting t ps last

      r : Parsed
      r = read_of e t s xs p.chunk

      later : List Item
      later = everything_from t e r.spot (r.rest ++ joined ps)

      place : ℕ
      place = n - length xs

      now : ℕ
      now = n + length p.chunk

      -- the widths of the items and the bytes left over are the bytes held and the chunk
      bytes : widths r.items + length r.rest ≡ length xs + length p.chunk
      bytes =
          let R = parsing t e s (xs ++ p.chunk) in
          omega (arith, R.wide, ap length R.split, length-append xs p.chunk, length-append R.used r.rest)

      wrote : Bool → Outcome
      wrote = handed_if e m place now (line_feeds out) r.items (λ l. holding e m now l r.spot r.rest) p.room

      leads : noted H p.chunk (wrote false) ≡ at (taken ++ p.chunk) (out ++ shown r.items) now r.spot r.rest
      leads = λ i. record {
        taken = taken ++ p.chunk;
        handed = front out (shown r.items) p.room i;
        decoder = holding e m now (feeds out (shown r.items) i) r.spot r.rest;
      }

      go : (b : Bool) → eqb m 1 && broken r.items ≡ b →
          ((taken' out' : List ℕ) (n' : ℕ) → length r.rest ≤ n' → Rests e r.spot r.rest →
          Accepts t (at taken' out' n' r.spot r.rest) ps last →
          account (at taken' out' n' r.spot r.rest) (cutting t ps last) ≡ dealt e m (n' - length r.rest) later out') →
          first H p.chunk (wrote b) cs ≡ dealt e m place (r.items ++ later) out
      go true q ih =
          let h = noted H p.chunk (wrote true) in
          ap (λ (x : Account). record { handed = x.handed; reports = reported h (wrote true).answer ∷ x.reports; decoder = x.decoder })
          (shut t ps last h refl) ∙
          (λ i. reported_with (place + reach r.items) (front out (before r.items) p.room i) (feeds out (before r.items) i)) ∙
          sym (dealt_stop e m place r.items later out q)
      go false q ih =
          let spec : feeding (holding e m n (line_feeds out) s xs) t p.chunk p.room ≡ wrote false =
          feed_holding e m n (line_feeds out) s xs t p.chunk p.room w a.0 ∙ ap wrote q in
          let onward : Accepts t (noted H p.chunk (wrote false)) ps last =
          subst (λ (o : Outcome). Accepts t (noted H p.chunk o) ps last) spec
          (a.1 (ap (λ (o : Outcome). eqb o.answer.refusal 11) spec)) in
          let accepts = subst (λ (h : History). Accepts t h ps last) leads onward in
          let far : now - length r.rest ≡ place + widths r.items = omega (arith, bytes, le) in
          ap (λ (h : History). account h cs) leads ∙
          ih (taken ++ p.chunk) (out ++ shown r.items) now (omega (arith, bytes, le)) (parsing t e s (xs ++ p.chunk)).waits accepts ∙
          ap (λ (x : ℕ). dealt e m x later (out ++ shown r.items)) far ∙ sym (dealt_on e m place r.items later out q)

-- Cut anywhere into accepted feeds with one pair of tables, and finished: the account of the whole.
pub cut_is_whole : (t : Tables) (e m rule : ℕ) → open_refusal e m rule ≡ 0 → (ps : List Piece) (last : List ℕ) →
    Accepts t (start e m rule) ps last → account (start e m rule) (cutting t ps last) ≡ whole_account t e m rule (joined ps)
unfolding whole_account line_feeds
cut_is_whole t e m rule o ps last a =
    let k = opened_is e m rule o in
    ap (λ (h : History). account h (cutting t ps last)) k ∙
    cut_from t e m ps last [] [] 0 (new_spot e rule) [] (lit≤ tt) (none_rest e (new_spot e rule))
    (subst (λ (h : History). Accepts t h ps last) k a)

-- Without a report everything is taken.
pub cut_taken : (t : Tables) (ps : List Piece) (last : List ℕ) (h : History) → Accepts t h ps last → reports h (cutting t ps last) ≡ [] →
    (after h (cutting t ps last)).taken ≡ h.taken ++ joined ps
unfolding reports cutting after Accepts joined
cut_taken t [] last h a r = go (accepted (finishing h.decoder t last).answer.refusal)
  where
    go : (b : Bool) → h.taken ++ (b then [] else []) ≡ h.taken ++ []
    go true = refl
    go false = refl
cut_taken t (p ∷ ps) last h a r = go (eqb o.answer.refusal 11) refl r (λ h' a' r'. cut_taken t ps last h' a' r')
  where
    o : Outcome
    o = feeding h.decoder t p.chunk p.room

    cs : List Call
    cs = cutting t ps last

    h₁ : History
    h₁ = noted h p.chunk (feeding h.decoder t p.chunk p.room)

    took : h₁.taken ≡ h.taken ++ p.chunk
    took = rw (feed_accepted h.decoder t p.chunk p.room a.0)

    go : (b : Bool) → eqb o.answer.refusal 11 ≡ b → (b then reported h₁ o.answer ∷ reports h₁ cs else reports h₁ cs) ≡ [] →
        ((h' : History) → Accepts t h' ps last → reports h' cs ≡ [] → (after h' cs).taken ≡ h'.taken ++ joined ps) →
        (after h₁ cs).taken ≡ h.taken ++ (p.chunk ++ joined ps)
    go true q r ih = let z : ◌≡◌ {A = ℕ} 0 1 = cc in absurd (omega arith)
    go false q r ih = ih h₁ (a.1 q) r ∙ ap (λ (l : List ℕ). l ++ joined ps) took ∙ append_assoc h.taken p.chunk (joined ps)
