-- The promises of specs/Statements.antt. Assumes nothing.
use mathlib.Core.Path.{◌≡◌, refl, sym, ap, ◌∙◌, subst}
use mathlib.Core.Bool.{Bool, true, false, ◌&&◌, and-false}
use mathlib.Core.List.{List, [], ◌++◌}
use mathlib.Core.Option.{Option, some, none}
use Prim.Native.Nat.{ℕ, ◌+◌, ◌-◌, ◌≤◌}
use native.Mathlib.Omega.{arith}
use lib.Dec.{T, eqb, lit≤}
use lib.ListN.{length, drop, length-append}
use lib.Seq.{drop-append_seam}
use borrow.Author.Tests.{eqb-true}
use Rattle.standard.specs.Base.{◌then◌else◌, every, Bytes, line_feeds, scalars}
use Rattle.standard.specs.Encodings.{Family, family, traits, Tables, no_tables}
use Rattle.standard.specs.Machine.{replacement, fatal, finished, Ran}
use Rattle.standard.specs.Machine.{error as failed}
use Rattle.standard.specs.Standard.{standard, drop_mark, standard_place, SoFar, standard_so_far}
use Rattle.standard.specs.Sniffing.{mark, marks, sniff, waits}
use Rattle.standard.specs.Sequence.{shift, plain}
use Rattle.standard.specs.Next.{next}
use Rattle.standard.specs.Decode.{Item, decode, shown, broken, before, reach, everything}
use Rattle.standard.specs.Choice.{Choice, waiting, label, marked, choose, reader, Spot, spot, Parsed, lift}
use Rattle.standard.specs.Choice.{chosen, read_from, everything_from, is_waiting}
use Rattle.standard.proofs.Every.{bytes_drop}
use Rattle.standard.proofs.FamilyLaws.{keeps}
use Rattle.standard.proofs.Whole.{standard_replacing, standard_fatal, unmarked_is}
use Rattle.standard.proofs.Places.{places}
use Rattle.standard.proofs.Paused.{so_far_lem}
use Rattle.standard.proofs.Stages.{Rests, rests_few, none_rest, read_on_lem, read_choice, Standing, meet_from}
use Rattle.standard.proofs.Sniffing.{Said, said_by, stage_by, width_by, sniff_chooses, eaten_by, all_read, all_chosen}
use Rattle.decoder.specs.Record.{spot_of, held_of, bit, holding, closed, new_shift, new_spot}
use Rattle.decoder.specs.Calls.{open_refusal}
use Rattle.demands.specs.Histories.{Call, History, after, start, any_ends, has_ended}
use Rattle.demands.specs.Statements.{Piece, joined, cutting, Account, account, Accepts, AllFeeds, so_far, mark_by, drops}
use Rattle.demands.specs.Statements.{account_of, standard_account, unmarked, standard_before, held_in, Demand2, Demand3, Refusal5}
use Rattle.demands.specs.Whole.{stopped, completed, dealt, whole_account}
use Rattle.decoder.specs.declared.Decoder.{Decoder}
use Rattle.decoder.proofs.Records.{bit_back, held_holding}
use Rattle.demands.proofs.Refused.{refused_nothing}
use Rattle.demands.proofs.Steps.{Stands, reads, ended, Step, refused, fed, reported, closes, closes_reported}
use Rattle.demands.proofs.Steps.{still, every_list, opened_is, refused_opening, stands_new, waiting_new}
use Rattle.demands.proofs.Invariants.{Kept, kept_none, kept_step, Tracks, tracks_new, tracks_step}
use Rattle.demands.proofs.Invariants.{Counted, counted_step, ended_after}
use Rattle.demands.proofs.Scalars.{scalar_step}
use Rattle.demands.proofs.Cutting.{feeds_follow, cut_is_whole, cut_taken}
use Rattle.demands.proofs.Validity.{reachable_valid}
use Rattle.demands.proofs.Reaching.{valid_reachable}
use Rattle.demands.proofs.Rooms.{feed_room, finish_room, roomy}

-- By the mark rule: rule 2, with which no mark is dropped and the choice is to come; or the label's encoding reads.
by_rule : (e rule : ℕ) (P : Bool → Bool → Spot → Type 0) → P true false (spot 1 plain) → P false (drops e rule) (spot 0 (new_shift e rule)) →
    P (eqb rule 2) (drops e rule) (new_spot e rule)
by_rule e rule P a b = go (eqb rule 2) refl
  where
    go : (x : Bool) → eqb rule 2 ≡ x → P x (drops e rule) (new_spot e rule)
    go true q =
        let none : drops e rule ≡ false = rw (eqb-true rule 2 q) (and-false (traits (family e)).mark) in
        subst (λ (d : Bool). P true d (new_spot e rule)) (sym none) (subst (P true false) (sym (waiting_new e rule (rw q))) a)
    go false q = subst (λ (x : Bool). P false (drops e rule) (spot (bit x) (new_shift e rule))) (sym q) b

-- The whole input: 000's `run` gives what the sequences give, in both modes and with every mark rule.
ran : ℕ → List Item → Ran
ran m is = eqb m 1 && broken is then record { result = failed; output = before is } else record { result = finished; output = shown is }

standard_ran : (t : Tables) (f : Family) (m : ℕ) (xs : List ℕ) → Bytes xs →
    standard t f (eqb m 1 then fatal else replacement) xs ≡ some (ran m (everything t f plain xs))
unfolding ran
standard_ran t f m xs p = go (eqb m 1)
  where
    is : List Item
    is = everything t f plain xs

    go : (b : Bool) → standard t f (b then fatal else replacement) xs ≡
        some (b && broken is then record { result = failed; output = before is } else record { result = finished; output = shown is })
    go true = standard_fatal t f xs p
    go false = standard_replacing t f xs p

-- what is put out, with the mark dropped or not
abbrev ruled : Bool → List ℕ → List ℕ
ruled dropped cs = dropped then drop_mark cs else cs

-- the account by the sequences `is` with the mark dropped or not, behind w bytes: that of the sequences js, which give the same
as_dealt : (e m : ℕ) (dropped : Bool) (w place : ℕ) (is js : List Item) →
    shown js ≡ ruled dropped (shown is) → before js ≡ ruled dropped (before is) → broken js ≡ broken is → reach js ≡ reach is →
    (broken is ≡ true → place ≡ w + reach is) → account_of e m dropped place (some (ran m is)) ≡ some (dealt e m w js [])
unfolding ran dealt
as_dealt e m dropped w place is js p q r u v = rw (r, p, q, u) (go (eqb m 1) (broken is) refl)
  where
    go : (x y : Bool) → broken is ≡ y →
        account_of e m dropped place
        (some (x && y then record { result = failed; output = before is } else record { result = finished; output = shown is })) ≡
        some (x && y then stopped e m (w + reach is) (ruled dropped (before is)) else completed e m (ruled dropped (shown is)))
    go true true b = λ i. some (stopped e m (v b i) (ruled dropped (before is)))
    go true false b = refl
    go false y b = refl

module _ (t : Tables) (e m : ℕ) where
  -- 000's account of bytes that one decoder reads, with the mark dropped or not, behind w bytes
  abbrev account_by : Bool → ℕ → Family → List ℕ → Option Account
  account_by dropped w f ys = account_of e m dropped (w + standard_place t f ys) (standard t f (eqb m 1 then fatal else replacement) ys)

  by_sequences : (dropped : Bool) (w : ℕ) (f : Family) (ys : List ℕ) → Bytes ys → (js : List Item) → let is = everything t f plain ys in
      shown js ≡ ruled dropped (shown is) → before js ≡ ruled dropped (before is) → broken js ≡ broken is → reach js ≡ reach is →
      account_by dropped w f ys ≡ some (dealt e m w js [])
  by_sequences dropped w f ys b js p q r u =
      ap (account_of e m dropped (w + standard_place t f ys)) (standard_ran t f m ys b) ∙
      as_dealt e m dropped w (w + standard_place t f ys) (everything t f plain ys) js p q r u
      (λ v. ap (λ (n : ℕ). w + n) (places t f ys b v).place)

  -- an eaten mark stands before the sequences
  eaten_dealt : (c : Choice) (is : List Item) → dealt e m (width_by c) is [] ≡ dealt e m 0 (eaten_by c ++ is) []
  unfolding dealt broken before shown reach
  eaten_dealt waiting is = refl
  eaten_dealt label is = refl
  eaten_dealt (marked w g) is =
      ap (λ (n : ℕ). eqb m 1 && broken is then stopped e m n (before is) else completed e m (shown is)) (omega arith)

  pub whole_is_standard : (rule : ℕ) (xs : List ℕ) → Bytes xs → standard_account t e m rule xs ≡ some (whole_account t e m rule xs)
  unfolding standard_account whole_account reader
  whole_is_standard rule xs p = by_rule e rule Whole (chooses (choose xs) refl) (labelled (eqb rule 0) (traits (family e)).mark refl)
    where
      is : List Item
      is = everything t (family e) plain xs

      by : Bool → ℕ → ℕ → Option Account
      by b e' w = account_by b w (family e') (drop w xs)

      Whole : Bool → Bool → Spot → Type 0
      Whole x b p =
          let k = x then sniff marks e xs else mark [] e in
          by b k.encoding (length k.bytes) ≡ some (dealt e m 0 (everything_from t e p xs) [])

      chooses : (c : Choice) → choose xs ≡ c → Whole true false (spot 1 plain)
      chooses c q =
          let f = family (reader e (stage_by c)) in
          let ys = drop (width_by c) xs in
          ap (λ (k : Said). by false k.encoding k.width) (sniff_chooses e xs ∙ ap (said_by e) q) ∙
          by_sequences false (width_by c) f ys (bytes_drop (width_by c) xs p) (everything t f plain ys) refl refl refl refl ∙
          ap some (eaten_dealt c (everything t f plain ys)) ∙
          sym (ap (λ (is : List Item). some (dealt e m 0 is [])) (all_chosen t e xs c q))

      labelled : (b u : Bool) → (traits (family e)).mark ≡ u → Whole false (u && b) (spot 0 (shift 0 (u && b)))
      labelled b u h =
          go b u h ∙ sym (ap (λ (is : List Item). some (dealt e m 0 is [])) (all_read t e (spot 0 (shift 0 (u && b))) xs refl))
        where
          go : (b u : Bool) → (traits (family e)).mark ≡ u →
              account_by (u && b) 0 (family e) xs ≡ some (dealt e m 0 (everything t (family e) (shift 0 (u && b)) xs) [])
          go b false h = by_sequences false 0 (family e) xs p is refl refl refl refl
          go false true h = by_sequences false 0 (family e) xs p is refl refl refl refl
          go true true h =
              let d = unmarked_is t (family e) xs h in
              by_sequences true 0 (family e) xs p (everything t (family e) (shift 0 true) xs)
              d.all d.before_error d.error_too d.place_too

-- Before the end of the input: what was put out, and the bytes held.
abbrev told : Parsed → Option SoFar
told r = some (record { output = shown r.items; held = r.rest })

module _ (t : Tables) (e : ℕ) where
  -- from the first shift, where the label's encoding reads
  label_told : (rule : ℕ) (xs : List ℕ) → Bytes xs →
      told (read_from t e (spot 0 (new_shift e rule)) xs) ≡ unmarked (drops e rule) (standard_so_far t (family e) xs)
  unfolding reader
  label_told rule xs p =
      ap told (read_on_lem t e (spot 0 (new_shift e rule)) xs refl) ∙ go (eqb rule 0) (traits (family e)).mark refl ∙
      sym (ap (unmarked (drops e rule)) (so_far_lem t (family e) xs p))
    where
      go : (b u : Bool) → (traits (family e)).mark ≡ u → let f = next t (family e) in
          told (lift 0 (decode f (shift 0 (u && b)) xs)) ≡ unmarked (u && b) (told (lift 0 (decode f plain xs)))
      go b false h = refl
      go false true h = refl
      go true true h = let d = unmarked_is t (family e) xs h in λ i. some (record { output = d.so_far_lem i; held = d.left i })

  told_is : (rule : ℕ) (xs : List ℕ) → Bytes xs →
      told (read_from t e (new_spot e rule) xs) ≡ unmarked (drops e rule) (standard_before t e rule xs)
  unfolding chosen reader shown
  told_is rule xs p = by_rule e rule Told
      (ap told (read_choice t e (spot 1 plain) xs refl) ∙ chooses (choose xs) ∙
      sym (ap (λ (k : Said). unmarked false (by k.waits k.encoding k.width)) (sniff_chooses e xs)))
      (label_told rule xs p)
    where
      by : Bool → ℕ → ℕ → Option SoFar
      by wait e' w = wait then some (record { output = []; held = xs }) else standard_so_far t (family e') (drop w xs)

      Told : Bool → Bool → Spot → Type 0
      Told x b p =
          let k = x then sniff marks e xs else mark [] e in
          told (read_from t e p xs) ≡ unmarked b (by (x && waits marks xs) k.encoding (length k.bytes))

      chooses : (c : Choice) → told (chosen t e xs c) ≡ unmarked false (by (is_waiting c) (reader e (stage_by c)) (width_by c))
      chooses waiting = refl
      chooses label = sym (ap (unmarked false) (so_far_lem t (family e) xs p))
      chooses (marked w g) = sym (ap (unmarked false) (so_far_lem t (family (reader e g)) (drop w xs) (bytes_drop w xs p)))

  held_told : (rule : ℕ) (xs : List ℕ) → Bytes xs → some (read_from t e (new_spot e rule) xs).rest ≡ held_in (standard_before t e rule xs)
  held_told rule xs p = ap held_in (told_is rule xs p) ∙ held_in_lem (standard_before t e rule xs)
    where
      held_in_lem : (x : Option SoFar) → held_in (unmarked (drops e rule) x) ≡ held_in x
      held_in_lem none = refl
      held_in_lem (some x) = refl

-- the encoding that reads, by the stage to which the bytes taken lead
reader_is : (e rule : ℕ) (xs : List ℕ) → (mark_by e rule xs).encoding ≡ reader e (read_from no_tables e (new_spot e rule) xs).spot.stage
unfolding chosen reader
reader_is e rule xs = by_rule e rule Is
    (ap (λ (k : Said). k.encoding) (sniff_chooses e xs) ∙ ap (reader e) (staged (choose xs)) ∙
    sym (ap (λ (r : Parsed). reader e r.spot.stage) (read_choice no_tables e (spot 1 plain) xs refl)))
    (sym (ap (λ (r : Parsed). reader e r.spot.stage) (read_on_lem no_tables e (spot 0 (new_shift e rule)) xs refl)))
  where
    Is : Bool → Bool → Spot → Type 0
    Is x b p = (x then sniff marks e xs else mark [] e).encoding ≡ reader e (read_from no_tables e p xs).spot.stage

    staged : (c : Choice) → stage_by c ≡ (chosen no_tables e xs c).spot.stage
    staged waiting = refl
    staged label = refl
    staged (marked w g) = refl

-- the bytes of a record that stands where reading stands
held_tracked : (t : Tables) (e m rule : ℕ) (taken : List ℕ) (d : Decoder) → Tracks e m (new_spot e rule) taken d → d.ended ≡ 0 →
    held_of d ≡ (read_from t e (new_spot e rule) taken).rest
held_tracked t e m rule taken d i o = sym (ap (λ (p : Standing). p.rest) (meet_from t no_tables e (new_spot e rule) taken ∙ i o))

-- What a decoder that stands holds.
rests_held : {e m : ℕ} {d : Decoder} → Stands e m d → Rests e (spot_of d) (held_of d)
rests_held {e} {m} (reads n l s xs w) = rw (bit_back s.shift.flag, held_holding e m n l s xs (rests_few e s xs w)) w
rests_held {e} (ended n l) = none_rest e (spot 0 plain)

number_is : {e m : ℕ} {d : Decoder} → Stands e m d → d.held ≡ length (held_of d)
number_is {e} {m} (reads n l s xs w) = rw (held_holding e m n l s xs (rests_few e s xs w))
number_is (ended n l) = refl

none_held_lem : {e m : ℕ} {d : Decoder} → Stands e m d → d.ended ≡ 1 → held_of d ≡ []
none_held_lem (reads k l s xs w) n = absurd (omega arith)
none_held_lem (ended k l) n = refl

-- the last of the bytes taken
last_of : (used held taken : List ℕ) → taken ≡ used ++ held → held ≡ drop (length taken - length held) taken
last_of used held taken p =
    let z : length taken - length held ≡ length used = omega (arith, ap length p ∙ length-append used held) in
    rw (z, p) (sym (drop-append_seam used held))

-- Demand 3 of an accepted opening.
module _ (e m rule : ℕ) (o : open_refusal e m rule ≡ 0) (cs : List Call) where
  h₀ : History
  h₀ = record { taken = []; handed = []; decoder = holding e m 0 0 (new_spot e rule) [] }

  -- what every list of calls keeps true
  record Holds (h : History) : Type 0 where
    stands : Stands e m h.decoder
    tracks : Tracks e m (new_spot e rule) h.taken h.decoder
    kept : Kept e m (new_spot e rule) h.taken h.handed (held_of h.decoder)
    totals : Counted e m h.taken h.handed h.decoder
    only_scalars : Bytes h.taken → T (scalars h.handed)

  holds : Holds (after h₀ cs)
  unfolding h₀ line_feeds every
  holds = every_list e m Holds
      (λ h c h' n st i step. record {
        stands = still e m step st;
        tracks = tracks_step e m (new_spot e rule) step i.tracks;
        kept = kept_step e m (new_spot e rule) step i.tracks i.kept;
        totals = counted_step e m step i.totals;
        only_scalars = scalar_step e m (new_spot e rule) step i.kept i.only_scalars;
      })
      h₀ cs (stands_new e m rule)
      (record {
        stands = stands_new e m rule;
        tracks = tracks_new e m (new_spot e rule) (waiting_new e rule);
        kept = kept_none e m (new_spot e rule) [] [] (lit≤ tt) (λ z k. refl);
        totals = record { bytes = refl; feeds = refl };
        only_scalars = λ b. tt;
      })

  ended_is : (after h₀ cs).decoder.ended ≡ bit (any_ends h₀ cs)
  unfolding h₀
  ended_is = ended_after e m h₀ cs (stands_new e m rule)

  done_is : has_ended e m rule cs ≡ any_ends h₀ cs
  unfolding h₀
  done_is = rw o (ap (λ (h : History). any_ends h cs) (opened_is e m rule o))

  not_done : has_ended e m rule cs ≡ false → (after h₀ cs).decoder.ended ≡ 0
  not_done n = ended_is ∙ ap bit (sym done_is ∙ n)

  accepted_demand : Demand3 e m rule cs (after h₀ cs)
  accepted_demand =
      let h = after h₀ cs in
      let held = held_of h.decoder in
      let k = holds.kept in
      let few : length held ≤ 3 = rests_few e (spot_of h.decoder) held (rests_held holds.stands) in
      let number : h.decoder.held ≡ length held = number_is holds.stands in
      record {
        separators_kept = λ z s. k.kept z (subst (λ (e : ℕ). T (keeps (family e))) (reader_is e rule h.taken) s);
        counted = omega (arith, k.count, ap length k.split ∙ length-append k.used held);
        three = few;
        number = number;
        last = last_of k.used held h.taken k.split;
        unfinished = λ t p n.
            ap some (held_tracked t e m rule h.taken h.decoder holds.tracks (not_done n)) ∙ held_told t e rule h.taken p;
        none_after_end = λ n. none_held_lem holds.stands (ended_is ∙ ap bit (sym done_is ∙ n));
        ended = ended_is ∙ ap bit (sym done_is);
        feed_room = feed_room h.decoder (omega (arith, number, few));
        finish_room = finish_room h.decoder (omega (arith, number, few));
        taken_total = holds.totals.bytes;
        lines_total = holds.totals.feeds;
        only_scalars = holds.only_scalars;
      }

-- A refused opening: the decoder has ended, and no call changes anything.
closed_step : (e m : ℕ) {taken handed : List ℕ} {d : Decoder} {c : Call} {h : History} {n : ℕ} →
    Step e m taken handed d c h n → d.ended ≡ 1 → h ≡ record { taken = taken; handed = handed; decoder = d }
closed_step e m (refused d c n p) z = refl
closed_step e m (fed n l s xs chunk t room w q b) z = absurd (omega arith)
closed_step e m (reported n l s xs chunk t room w q b) z = absurd (omega arith)
closed_step e m (closes n l s xs t room w q b) z = absurd (omega arith)
closed_step e m (closes_reported n l s xs t room w q b) z = absurd (omega arith)

nothing : History
nothing = record { taken = []; handed = []; decoder = closed 0 0 0 0 }

nothing_after : (cs : List Call) → after nothing cs ≡ nothing
unfolding nothing
nothing_after cs = every_list 0 0 (λ h. h ≡ nothing)
    (λ h c h' n st p step. closed_step 0 0 step (ap (λ (h : History). h.decoder.ended) p) ∙ p) nothing cs (ended 0 0) refl

refused_demand : (e m rule : ℕ) → eqb (open_refusal e m rule) 0 ≡ false → (cs : List Call) → Demand3 e m rule cs nothing
unfolding nothing every line_feeds
refused_demand e m rule q cs = record {
  separators_kept = λ z k. refl;
  counted = lit≤ tt;
  three = lit≤ tt;
  number = refl;
  last = refl;
  unfinished = λ t p n. absurd (subst T (sym done ∙ n) tt);
  none_after_end = λ n. refl;
  ended = ap bit (sym done);
  feed_room = feed_room (closed 0 0 0 0) (lit≤ tt);
  finish_room = finish_room (closed 0 0 0 0) (lit≤ tt);
  taken_total = refl;
  lines_total = refl;
  only_scalars = λ b. tt;
}
  where
    done : has_ended e m rule cs ≡ true
    done = rw q

pub demand_3 : (e m rule : ℕ) (cs : List Call) → Demand3 e m rule cs (after (start e m rule) cs)
unfolding nothing h₀
demand_3 e m rule cs = go (eqb (open_refusal e m rule) 0) refl
  where
    go : (b : Bool) → eqb (open_refusal e m rule) 0 ≡ b → Demand3 e m rule cs (after (start e m rule) cs)
    go true q =
        let o = eqb-true (open_refusal e m rule) 0 q in
        subst (λ (h : History). Demand3 e m rule cs (after h cs)) (sym (opened_is e m rule o)) (accepted_demand e m rule o cs)
    go false q =
        subst (Demand3 e m rule cs) (sym (ap (λ (h : History). after h cs) (refused_opening e m rule q) ∙ nothing_after cs))
        (refused_demand e m rule q cs)

-- an opening has taken nothing
none_before : (e m rule : ℕ) (xs : List ℕ) → length ((start e m rule).taken ++ xs) ≡ length xs
unfolding start
none_before e m rule xs = refl

pub demand_2 : (t : Tables) (e m rule : ℕ) → open_refusal e m rule ≡ 0 → Demand2 t e m rule
demand_2 t e m rule o = record {
  as_standard = cut_standard;
  any_cutting = λ ps qs last last' j a b.
      cut_is_whole t e m rule o ps last a ∙ ap (whole_account t e m rule) j ∙ sym (cut_is_whole t e m rule o qs last' b);
  refused_among = λ cs ps last k p a.
      ap some (sym (refused_nothing (start e m rule) cs).same_account ∙ ap (account (start e m rule)) k ∙
      (refused_nothing (start e m rule) (cutting t ps last)).same_account) ∙ cut_standard ps last p a;
  all_taken = λ ps last a n.
      (demand_3 e m rule (cutting t ps last)).taken_total ∙ ap length (cut_taken t ps last (start e m rule) a n) ∙
      none_before e m rule (joined ps);
  rooms_suffice = roomy t e m rule o;
  so_far_lem = before_finish;
}
  where
    cut_standard : (ps : List Piece) (last : List ℕ) → Bytes (joined ps) → Accepts t (start e m rule) ps last →
        some (account (start e m rule) (cutting t ps last)) ≡ standard_account t e m rule (joined ps)
    cut_standard ps last p a = ap some (cut_is_whole t e m rule o ps last a) ∙ sym (whole_is_standard t e m rule (joined ps) p)

    before_finish : (cs : List Call) → AllFeeds t cs → let h = after (start e m rule) cs in Bytes h.taken → h.decoder.ended ≡ 0 →
        some (so_far h) ≡ unmarked (drops e rule) (standard_before t e rule h.taken)
    before_finish cs a p n =
        let h = after (start e m rule) cs in
        let i = feeds_follow t e m rule o cs a in
        let out = (i.shows n).1 in
        let held = held_tracked t e m rule h.taken h.decoder i.tracks n in
        (λ j. some (record { output = out j; held = held j })) ∙ told_is t e rule h.taken p

pub refusal_5 : (d : Decoder) → Refusal5 d
refusal_5 d = record { reachable_valid = reachable_valid; valid_reachable = valid_reachable d }
