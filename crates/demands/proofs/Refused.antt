-- Refused calls change nothing, wherever they stand in a list of calls. Assumes nothing.
use mathlib.Core.Path.{◌≡◌, refl, sym, ap, ◌∙◌, subst}
use mathlib.Core.Bool.{Bool, true, false, ◌||◌}
use mathlib.Core.List.{List, [], ◌∷◌, append-nil}
use Prim.Native.Nat.{ℕ, ◌+◌, ◌-◌}
use lib.Dec.{T, eqb}
use lib.ListN.{length}
use Rattle.standard.specs.Base.{◌then◌else◌}
use Rattle.standard.specs.Encodings.{Tables}
use Rattle.standard.specs.Decode.{Item}
use Rattle.decoder.specs.Record.{holding, closed}
use Rattle.decoder.specs.Calls.{Outcome, hand_out, read_on, feed_refusal, feeding, read_end}
use Rattle.decoder.specs.declared.Decoder.{Decoder}
use Rattle.demands.specs.Histories.{Call, feed, finish, History, accepted, noted, outcome, after_one, after, accepted_calls}
use Rattle.demands.specs.Statements.{Report, reported, reports, untaken, account, RefusedNothing}
use Rattle.demands.proofs.Steps.{handed_is, fed_out, finished_out, feed_is, finish_is}

-- what is handed out is accepted
handed_accepted : (e m from n l : ℕ) (is : List Item) (d : ℕ → Decoder) (room : List ℕ) →
    accepted (hand_out e m from n l is d room).answer.refusal ≡ true
handed_accepted e m from n l is d room = handed_is (λ (o : Outcome). accepted o.answer.refusal ≡ true) e m from n l is d room refl refl

fed_accepted : (d : Decoder) (t : Tables) (chunk room : List ℕ) → accepted (fed_out d t chunk room).answer.refusal ≡ true
fed_accepted d t chunk room =
    let r = read_on d t chunk in
    let n = d.taken + length chunk in
    let on : ℕ → Decoder = λ l. holding d.encoding d.mode n l r.spot r.rest in
    handed_accepted d.encoding d.mode (d.taken - d.held) n d.lines r.items on room

finished_accepted : (d : Decoder) (t : Tables) (room : List ℕ) → accepted (finished_out d t room).answer.refusal ≡ true
finished_accepted d t room =
    handed_accepted d.encoding d.mode (d.taken - d.held) d.taken d.lines (read_end d t)
    (closed d.encoding d.mode d.taken) room

pub feed_accepted : (d : Decoder) (t : Tables) (chunk room : List ℕ) → feed_refusal d t chunk room ≡ 0 →
    accepted (feeding d t chunk room).answer.refusal ≡ true
unfolding feeding
feed_accepted d t chunk room h = rw h (fed_accepted d t chunk room)

-- a refused call leaves the history as it was
refused_same : (h : History) (c : Call) → accepted (outcome h c).answer.refusal ≡ false → after_one h c ≡ h
refused_same h (feed chunk t room) = feed_is (λ (o : Outcome). accepted o.answer.refusal ≡ false → noted h chunk o ≡ h)
    h.decoder t chunk room (λ z q. absurd (subst T (sym (fed_accepted h.decoder t chunk room) ∙ q) tt))
    (λ z q. rw (q, append-nil h.taken, append-nil h.handed))
refused_same h (finish t room) = finish_is (λ (o : Outcome). accepted o.answer.refusal ≡ false → noted h [] o ≡ h)
    h.decoder t room (λ z q. absurd (subst T (sym (finished_accepted h.decoder t room) ∙ q) tt))
    (λ z q. rw (q, append-nil h.taken, append-nil h.handed))

no_report : (n : ℕ) → accepted n ≡ false → eqb n 11 ≡ false
no_report n q = go (eqb n 0) (eqb n 11) q
  where
    go : (a b : Bool) → a || b ≡ false → b ≡ false
    go false b q = q
    go true b q = absurd (subst T q tt)

-- the history, and the reports
same_history : (h : History) (cs : List Call) → after h (accepted_calls h cs) ≡ after h cs
unfolding after accepted_calls
same_history h [] = refl
same_history h (c ∷ cs) = go (accepted (outcome h c).answer.refusal) refl (same_history (after_one h c) cs)
  where
    h' : History
    h' = after_one h c

    rest : List Call
    rest = accepted_calls h' cs

    go : (b : Bool) → accepted (outcome h c).answer.refusal ≡ b → after h' rest ≡ after h' cs →
        after h (b then c ∷ rest else rest) ≡ after h' cs
    go true q ih = ih
    go false q ih = ap (λ (g : History). after g rest) (sym (refused_same h c q)) ∙ ih

same_reports : (h : History) (cs : List Call) → reports h (accepted_calls h cs) ≡ reports h cs
unfolding reports accepted_calls
same_reports h [] = refl
same_reports h (c ∷ cs) = go (accepted (outcome h c).answer.refusal) refl (same_reports (after_one h c) cs)
  where
    h' : History
    h' = after_one h c

    rest : List Call
    rest = accepted_calls h' cs

    one : Bool → List Report → List Report
    one b rs = b then reported h' (outcome h c).answer ∷ rs else rs

    go : (b : Bool) → accepted (outcome h c).answer.refusal ≡ b → reports h' rest ≡ reports h' cs →
        reports h (b then c ∷ rest else rest) ≡ one (eqb (outcome h c).answer.refusal 11) (reports h' cs)
    go true q ih = ap (one (eqb (outcome h c).answer.refusal 11)) ih
    go false q ih = ap (λ (g : History). reports g rest) (sym (refused_same h c q)) ∙ ih ∙
        sym (ap (λ (b : Bool). one b (reports h' cs)) (no_report (outcome h c).answer.refusal q))

pub refused_nothing : (h : History) (cs : List Call) → RefusedNothing h cs
unfolding account
refused_nothing h cs =
    let k = same_history h cs in
    record {
      same_history = k;
      same_account = λ i. record { handed = (k i).handed; reports = same_reports h cs i; decoder = untaken (k i).decoder };
    }
