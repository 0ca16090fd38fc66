-- What accepted calls tell, and the decoder they leave. Assumes nothing.
use mathlib.Core.Path.{◌≡◌, refl, sym, ap, ◌∙◌, subst}
use mathlib.Core.Bool.{Bool, true, false}
use mathlib.Core.List.{List, [], ◌∷◌, ◌++◌, append-nil, append_assoc}
use Prim.Native.Nat.{ℕ, ◌+◌, ◌-◌, ◌≤◌}
use native.Mathlib.Omega.{arith}
use lib.Dec.{eqb}
use lib.ListN.{length, length-append}
use borrow.Author.Tests.{eqb-true}
use Rattle.standard.specs.Base.{line_feeds}
use Rattle.standard.specs.Encodings.{Tables}
use Rattle.standard.specs.Items.{Item, shown, widths}
use Rattle.standard.specs.Choice.{Spot, everything_from}
use Rattle.standard.proofs.Stages.{Rests, rests_few, parsing, all_rest, all_cut}
use Rattle.decoder.specs.Record.{holding}
use Rattle.decoder.specs.Calls.{Outcome, feed_refusal, feeding, finishing}
use Rattle.decoder.proofs.Records.{bit_back, held_holding}
use Rattle.decoder.specs.declared.Decoder.{Decoder}
use Rattle.demands.proofs.Steps.{read_of, end_of, onward, feed_holding}
use Rattle.replacements_spec.specs.Replaced.{replaced, cells}
use Rattle.replacements_spec.specs.Calls.{Handed, telling, spans_refusal, feed_tell_refusal, feed_telling, finish_tell_refusal, finish_telling}
use Rattle.replacements_spec.specs.Statements.{Piece, joined, told, fed, told_by, Accepts}
use Rattle.replacements_spec.proofs.Spans.{replaced_append, cells_append, cells_front}

-- an accepted call is accepted without the spans
pub spans_zero : (refusal n : ℕ) (spans : List ℕ) → spans_refusal refusal n spans ≡ 0 → refusal ≡ 0
spans_zero refusal n spans h = go (eqb refusal 0) refl
  where
    go : (b : Bool) → eqb refusal 0 ≡ b → refusal ≡ 0
    go true e = eqb-true refusal 0 e
    go false e = rw e at h

module _ (e : ℕ) (t : Tables) (n l : ℕ) (s : Spot) (xs : List ℕ) (w : Rests e s xs) where
  abbrev pub here : Decoder
  here = holding e 0 n l s xs

  -- an accepted feed, and an accepted finish, of a decoder in replacing mode that holds xs
  pub feed_tells : (chunk room spans : List ℕ) → feed_tell_refusal here t chunk room spans ≡ 0 →
      feed_telling here t chunk room spans ≡
      telling (feeding here t chunk room) (replaced (n - length xs) (read_of e t s xs chunk).items) spans
  unfolding feed_telling
  feed_tells chunk room spans h = rw (h, bit_back s.shift.flag, held_holding e 0 n l s xs (rests_few e s xs w))

  pub finish_tells : (room spans : List ℕ) → finish_tell_refusal here t room spans ≡ 0 →
      finish_telling here t room spans ≡ telling (finishing here t room) (replaced (n - length xs) (end_of e t s xs)) spans
  unfolding finish_telling
  finish_tells room spans h = rw (h, bit_back s.shift.flag, held_holding e 0 n l s xs (rests_few e s xs w))

  -- the decoder after an accepted feed
  pub feed_leaves : (chunk room : List ℕ) → feed_refusal here t chunk room ≡ 0 →
      (feeding here t chunk room).answer.decoder ≡ onward e 0 n l chunk (read_of e t s xs chunk)
  feed_leaves chunk room h = ap (λ (o : Outcome). o.answer.decoder) (feed_holding e 0 n l s xs t chunk room w h)

-- the bytes before what is held after a chunk
pub further : (e : ℕ) (t : Tables) (n : ℕ) (s : Spot) (xs chunk : List ℕ) → length xs ≤ n →
    let r = read_of e t s xs chunk in
    (length r.rest ≤ n + length chunk) × (n + length chunk - length r.rest ≡ n - length xs + widths r.items)
further e t n s xs chunk h =
    let R = parsing t e s (xs ++ chunk) in
    let r = read_of e t s xs chunk in
    let k : length xs + length chunk ≡ length R.used + length r.rest =
    sym (length-append xs chunk) ∙ ap length R.split ∙ length-append R.used r.rest in
    (omega arith, omega (arith, R.wide))

pub told_from : (e : ℕ) (t : Tables) (ps : List Piece) (room spans : List ℕ) (n l : ℕ) (s : Spot) (xs : List ℕ) → length xs ≤ n →
    Rests e s xs → Accepts t (holding e 0 n l s xs) ps room spans →
    told_by t (holding e 0 n l s xs) ps room spans ≡ cells (replaced (n - length xs) (everything_from t e s (xs ++ joined ps)))
unfolding told_by Accepts joined finish_tell_refusal feed_tell_refusal
told_from e t [] room spans n l s xs h w a =
    ap told (finish_tells e t n l s xs w room spans a) ∙
    cells_front (replaced (n - length xs) (end_of e t s xs)) _ ∙
    ap (λ (is : List Item). cells (replaced (n - length xs) is))
    (sym (ap (everything_from t e s) (append-nil xs) ∙ all_rest t e s xs w))
told_from e t (p ∷ ps) room spans n l s xs h w a =
    let d = holding e 0 n l s xs in
    let r = read_of e t s xs p.chunk in
    let z = spans_zero (feed_refusal d t p.chunk p.room) (length p.chunk + d.held) p.spans a.0 in
    let o = feed_tells e t n l s xs w p.chunk p.room p.spans a.0 in
    let leaves : (fed t d p).answer.answer.decoder ≡ onward e 0 n l p.chunk r =
    ap (λ (h : Handed). h.answer.answer.decoder) o ∙ feed_leaves e t n l s xs w p.chunk p.room z in
    let far = further e t n s xs p.chunk h in
    let later = everything_from t e r.spot (r.rest ++ joined ps) in
    let ih = told_from e t ps room spans (n + length p.chunk) (l + line_feeds (shown r.items)) r.spot r.rest far.0
    (parsing t e s (xs ++ p.chunk)).waits (subst (λ (d : Decoder). Accepts t d ps room spans) leaves a.1) in
    ap (λ (c : List ℕ). c ++ told_by t (fed t d p).answer.answer.decoder ps room spans)
    (ap told o ∙ cells_front (replaced (n - length xs) r.items) _) ∙
    ap (λ (c : List ℕ). cells (replaced (n - length xs) r.items) ++ c)
    (ap (λ (d : Decoder). told_by t d ps room spans) leaves ∙ ih ∙ ap (λ (k : ℕ). cells (replaced k later)) far.1) ∙
    sym (ap (λ (ys : List ℕ). cells (replaced (n - length xs) (everything_from t e s ys))) (sym (append_assoc xs p.chunk (joined ps))) ∙
    ap (λ (is : List Item). cells (replaced (n - length xs) is)) (all_cut t e s (xs ++ p.chunk) (joined ps)) ∙
    ap cells (replaced_append (n - length xs) r.items later) ∙ cells_append (replaced (n - length xs) r.items) _)
