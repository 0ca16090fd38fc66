-- Buffer after buffer: what the steps give is what the whole text gives. Assumes nothing.
use mathlib.Core.Path.{◌≡◌, refl, sym, ap, ◌∙◌}
use mathlib.Core.Bool.{Bool, true, false, and-false}
use mathlib.Core.List.{List, [], ◌∷◌, ◌++◌, append_assoc, append-nil}
use Prim.Native.Nat.{ℕ, ◌+◌, ◌-◌, ◌*◌, ◌≤◌, ◌<◌}
use native.Mathlib.Omega.{arith}
use lib.Dec.{ltb, eqb, lit≤}
use lib.ListN.{length, take, drop, length-append}
use lib.Seq.{take_all, take-append-le, take-append-add, take-append_seam, length-take-le}
use borrow.Author.Tests.{lt-ltb, le-ltb, ltb-true, ltb-false}
use Rattle.standard.specs.Base.{◌then◌else◌, line_feeds}
use Rattle.standard.specs.Encodings.{Tables, family, fits}
use Rattle.standard.specs.Items.{Item, shown, widths}
use Rattle.standard.specs.Choice.{Spot, Parsed, read_from, everything_from}
use Rattle.standard.proofs.Items.{shown_append}
use Rattle.standard.proofs.Stages.{Rests, parsing, chunks_from, all_rest, all_cut}
use Rattle.standard.proofs.Tests.{split}
use Rattle.decoder.specs.Record.{holding}
use Rattle.decoder.specs.Valid.{valid}
use Rattle.decoder.specs.Calls.{Outcome, feed_refusal, feeding, finish_refusal}
use Rattle.decoder.specs.declared.Decoder.{Decoder}
use Rattle.decoder.proofs.Parts.{parts}
use Rattle.demands.proofs.Steps.{read_of, end_of, onward, feed_holding, finish_holding}
use Rattle.demands.proofs.Steps.{fed as fed-step}
use Rattle.demands.proofs.Validity.{valid_step}
use Rattle.replacements_spec.specs.Replaced.{replaced, cells}
use Rattle.replacements_spec.specs.Calls.{Handed, telling, feed_tell_refusal, feed_telling, finish_tell_refusal, finish_telling}
use Rattle.replacements_spec.specs.Statements.{Piece, joined}
use Rattle.replacements_spec.proofs.Spans.{replaced_append, cells_append, cells_front}
use Rattle.replacements_spec.proofs.Telling.{feed_tells, finish_tells, further}
use Rattle.program_text.specs.Lines.{refused}
use Rattle.program_text.specs.Utf8.{utf8}
use Rattle.program_text.proofs.Utf8Texts.{utf8_append}
use Rattle.mend_spec.specs.Mended.{Streams, span_lines, mends, ends}
use Rattle.mend_spec.specs.Program.{step_number, last_line, gives, joins, nothing, text_by}
use Rattle.mend_spec.specs.Statements.{Roomy}
use Rattle.mend_spec.proofs.Report.{lines_of}

-- what items joined give
mends_append : (n : ℕ) (is js : List Item) → mends n (is ++ js) ≡ joins (mends n is) (mends (n + widths is) js)
mends_append n is js = λ i. record {
  output = (ap utf8 (shown_append is js) ∙ utf8_append (shown is) (shown js)) i;
  report = (ap (λ l. span_lines (cells l)) (replaced_append n is js) ∙ ap span_lines (cells_append (replaced n is) (replaced (n + widths is) js)) ∙
      lines_of (replaced n is) (cells (replaced (n + widths is) js))) i;
}

-- the text from where a decoder stands: n bytes taken, those held among them
abbrev text_from : Tables → ℕ → ℕ → Spot → List ℕ → List ℕ → Streams
text_from t e n s xs ys =
    ltb 4294967295 (n + length ys) then ends (mends (n - length xs) (read_from t e s (xs ++ take (4294967295 - n) ys)).items) 14 else
    mends (n - length xs) (everything_from t e s (xs ++ ys))

ends_join : (s s' : Streams) (n : ℕ) → ends (joins s s') n ≡ joins s (ends s' n)
ends_join s s' n = λ i. record { output = s.output ++ s'.output; report = append_assoc s.report s'.report (refused n) i }

-- a buffer that is taken whole, and the text behind it
module _ (t : Tables) (e n : ℕ) (s : Spot) (xs chunk ys : List ℕ) (few : length xs ≤ n) (small : n + length chunk ≤ 4294967295) where
  abbrev r : Parsed
  r = read_of e t s xs chunk

  abbrev n' : ℕ
  n' = n + length chunk

  abbrev later : Parsed
  later = read_from t e r.spot (r.rest ++ take (4294967295 - n') ys)

  on : text_from t e n s xs (chunk ++ ys) ≡ joins (mends (n - length xs) r.items) (text_from t e n' r.spot r.rest ys)
  on = split (ltb 4294967295 (n' + length ys))
      (λ b. rw (total, b) (
      ap (λ is. ends (mends (n - length xs) is) 14) cut_items ∙
      ap (λ (x : Streams). ends x 14) (mends_append (n - length xs) r.items later.items) ∙
      ends_join (mends (n - length xs) r.items) (mends (n - length xs + widths r.items) later.items) 14 ∙
      ap (λ (k : ℕ). joins (mends (n - length xs) r.items) (ends (mends k later.items) 14)) far))
      (λ b. rw (total, b) (
      ap (mends (n - length xs)) (ap (everything_from t e s) (sym (append_assoc xs chunk ys)) ∙ all_cut t e s (xs ++ chunk) ys) ∙
      mends_append (n - length xs) r.items (everything_from t e r.spot (r.rest ++ ys)) ∙
      ap (λ (k : ℕ). joins (mends (n - length xs) r.items) (mends k (everything_from t e r.spot (r.rest ++ ys)))) far))
    where
      total : n + length (chunk ++ ys) ≡ n' + length ys
      total = ap (λ (k : ℕ). n + k) (length-append chunk ys) ∙ omega arith

      far : n - length xs + widths r.items ≡ n' - length r.rest
      far = sym (further e t n s xs chunk few).1

      front : take (4294967295 - n) (chunk ++ ys) ≡ chunk ++ take (4294967295 - n') ys
      front =
          let z : 4294967295 - n ≡ length chunk + (4294967295 - n') = omega arith in
          ap (λ (k : ℕ). take k (chunk ++ ys)) z ∙ take-append-add chunk ys (4294967295 - n')

      cut_items : (read_from t e s (xs ++ take (4294967295 - n) (chunk ++ ys))).items ≡
          r.items ++ (read_from t e r.spot (r.rest ++ take (4294967295 - n') ys)).items
      cut_items = ap (λ l. (read_from t e s l).items) (ap (λ l. xs ++ l) front ∙ sym (append_assoc xs chunk _)) ∙
          ap (λ (p : Parsed). p.items) (chunks_from t e s (xs ++ chunk) (take (4294967295 - n') ys))

-- an accepted step
feed_accepts : (d : Decoder) (t : Tables) (chunk room : List ℕ) → valid d ≡ true → eqb d.ended 1 ≡ false →
    fits (family d.encoding) t ≡ true → length chunk ≤ 65536 → d.taken + length chunk ≤ 4294967295 →
    length chunk + d.held ≤ length room → feed_refusal d t chunk room ≡ 0
unfolding feed_refusal
feed_accepts d t chunk room v n f c k r = rw (
  v,
  n,
  f,
  le-ltb 65536 (length chunk) c,
  le-ltb 4294967295 (d.taken + length chunk) k,
  le-ltb (length room) (length chunk + d.held) r,
)

finish_accepts : (d : Decoder) (t : Tables) (room : List ℕ) → valid d ≡ true → eqb d.ended 1 ≡ false →
    fits (family d.encoding) t ≡ true → d.held ≤ length room → finish_refusal d t room ≡ 0
unfolding finish_refusal
finish_accepts d t room v n f r = rw (v, n, f, and-false (eqb d.stage 1), le-ltb (length room) d.held r)

-- a decoder that stands somewhere, and the tables
module _ (t : Tables) (e : ℕ) (a : e ≤ 39) (f : fits (family e) t ≡ true) where
  module _ (n l : ℕ) (s : Spot) (xs : List ℕ) (w : Rests e s xs) (v : valid (holding e 0 n l s xs) ≡ true) where
    abbrev d : Decoder
    d = holding e 0 n l s xs

    held_few : length xs ≤ 3
    held_few = (parts d v).held

    -- what an accepted feed gives
    module _ (chunk room spans : List ℕ) (c : length chunk ≤ 65536) (k : n + length chunk ≤ 4294967295)
        (q : length chunk + 3 ≤ length room) (p : 2 * (length chunk + 3) ≤ length spans) where
      abbrev is : List Item
      is = (read_of e t s xs chunk).items

      feed_zero : feed_refusal d t chunk room ≡ 0
      feed_zero = feed_accepts d t chunk room v refl f c k (omega (arith, held_few))

      tell_zero : feed_tell_refusal d t chunk room spans ≡ 0
      unfolding feed_tell_refusal
      tell_zero = rw (feed_zero, le-ltb (length spans) (2 * (length chunk + length xs)) (omega (arith, held_few)))

      tells : feed_telling d t chunk room spans ≡ telling (feeding d t chunk room) (replaced (n - length xs) is) spans
      tells = feed_tells e t n l s xs w chunk room spans tell_zero

      feeds : feeding d t chunk room ≡ record {
        answer = record { written = length (shown is); place = 0; line = 0; refusal = 0; decoder = onward e 0 n l chunk (read_of e t s xs chunk) };
        room = shown is ++ drop (length (shown is)) room;
      }
      feeds = feed_holding e 0 n l s xs t chunk room w feed_zero

      step_gives : (more : Bool) → gives (feed_telling d t chunk room spans) more ≡
          record { output = utf8 (shown is); report = span_lines (cells (replaced (n - length xs) is)) ++ last_line (more then 14 else 0) }
      step_gives more = ap (λ (h : Handed). gives h more) (tells ∙ ap (λ (o : Outcome). telling o (replaced (n - length xs) is) spans) feeds) ∙
          (λ i. record {
            output = utf8 (take-append_seam (shown is) (drop (length (shown is)) room) i);
            report = span_lines (cells_front (replaced (n - length xs) is) (drop (2 * length (replaced (n - length xs) is)) spans) i) ++ last_line (more then 14 else 0);
          })

      step_number_lem : (more : Bool) → step_number (feed_telling d t chunk room spans) more ≡ (more then 14 else 0)
      step_number_lem more = ap (λ (h : Handed). step_number h more) (tells ∙ ap (λ (o : Outcome). telling o (replaced (n - length xs) is) spans) feeds)

      step_leaves : (feed_telling d t chunk room spans).answer.answer.decoder ≡ onward e 0 n l chunk (read_of e t s xs chunk)
      step_leaves = ap (λ (h : Handed). h.answer.answer.decoder) (tells ∙ ap (λ (o : Outcome). telling o (replaced (n - length xs) is) spans) feeds)

      step_valid : valid (onward e 0 n l chunk (read_of e t s xs chunk)) ≡ true
      step_valid = valid_step e 0 a (lit≤ tt) {taken = []} {handed = []} (fed-step n l s xs chunk t room w feed_zero refl) v

    -- what an accepted finish gives
    module _ (room spans : List ℕ) (q : 3 ≤ length room) (p : 6 ≤ length spans) where
      finish_zero : finish_refusal d t room ≡ 0
      finish_zero = finish_accepts d t room v refl f (omega (arith, held_few))

      end_zero : finish_tell_refusal d t room spans ≡ 0
      unfolding finish_tell_refusal
      end_zero = rw (finish_zero, le-ltb (length spans) (2 * length xs) (omega (arith, held_few)))

      end_gives : gives (finish_telling d t room spans) false ≡ mends (n - length xs) (end_of e t s xs)
      end_gives =
          let rs = replaced (n - length xs) (end_of e t s xs) in
          let cs = shown (end_of e t s xs) in
          ap (λ (h : Handed). gives h false) (finish_tells e t n l s xs w room spans end_zero ∙
          ap (λ (o : Outcome). telling o rs spans) (finish_holding e 0 n l s xs t room w finish_zero)) ∙
          (λ i. record {
            output = utf8 (take-append_seam cs (drop (length cs) room) i);
            report = (ap (λ l. l ++ []) (ap span_lines (cells_front rs (drop (2 * length rs) spans))) ∙ append-nil (span_lines (cells rs))) i;
          })

  pub text_from_lem : (ps : List Piece) (room spans : List ℕ) (n l : ℕ) (s : Spot) (xs : List ℕ) → Rests e s xs → length xs ≤ n → n ≤ 4294967295 →
      valid (holding e 0 n l s xs) ≡ true → Roomy ps room spans →
      text_by t (holding e 0 n l s xs) ps room spans ≡ text_from t e n s xs (joined ps)
  unfolding text_by joined Roomy
  text_from_lem [] room spans n l s xs w h k v g =
      end_gives n l s xs w v room spans g.0 g.1 ∙
      rw (le-ltb 4294967295 (n + 0) (omega arith)) (ap (mends (n - length xs)) (sym (ap (everything_from t e s) (append-nil xs) ∙ all_rest t e s xs w)))
  text_from_lem (p ∷ ps) room spans n l s xs w h k v g =
      go (ltb (4294967295 - n) (length p.chunk)) refl (λ n' l' s' xs' w' h' k' v'. text_from_lem ps room spans n' l' s' xs' w' h' k' v' g.3)
    where
      chunk : List ℕ
      chunk = p.chunk

      Later : Type 0
      Later = (n' l' : ℕ) (s' : Spot) (xs' : List ℕ) → Rests e s' xs' → length xs' ≤ n' → n' ≤ 4294967295 → valid (holding e 0 n' l' s' xs') ≡ true →
          text_by t (holding e 0 n' l' s' xs') ps room spans ≡ text_from t e n' s' xs' (joined ps)

      whole : Bool → List ℕ → Streams
      whole b c =
          let o = feed_telling (holding e 0 n l s xs) t c p.room p.spans in
          joins (gives o b) (eqb (step_number o b) 0 then text_by t o.answer.answer.decoder ps room spans else nothing)

      go : (b : Bool) → ltb (4294967295 - n) (length p.chunk) ≡ b → Later → whole b (take (4294967295 - n) p.chunk) ≡ text_from t e n s xs (p.chunk ++ joined ps)
      go true q ih =
          let m = 4294967295 - n in
          let c = take m p.chunk in
          let long = ltb-true m (length p.chunk) q in
          let size : length c ≡ m = length-take-le m p.chunk (omega arith) in
          let c1 : length c ≤ 65536 = omega (arith, g.0) in
          let c2 : n + length c ≤ 4294967295 = omega arith in
          let c3 : length c + 3 ≤ length p.room = omega (arith, g.1) in
          let c4 : 2 * (length c + 3) ≤ length p.spans = omega (arith, g.2) in
          let is = (read_of e t s xs c).items in
          let number = step_number_lem n l s xs w v c p.room p.spans c1 c2 c3 c4 true in
          let text = step_gives n l s xs w v c p.room p.spans c1 c2 c3 c4 true in
          let more : 4294967295 < n + length (p.chunk ++ joined ps) = omega (arith, length-append p.chunk (joined ps)) in
          let o = feed_telling (holding e 0 n l s xs) t c p.room p.spans in
          (λ i. joins (text i) (eqb (number i) 0 then text_by t o.answer.answer.decoder ps room spans else nothing)) ∙
          (λ i. record { output = append-nil (utf8 (shown is)) i; report = append-nil (span_lines (cells (replaced (n - length xs) is)) ++ refused 14) i }) ∙
          sym (rw (lt-ltb 4294967295 (n + length (p.chunk ++ joined ps)) more, take-append-le m p.chunk (joined ps) (omega arith)) refl)
      go false q ih =
          let fits_all = ltb-false (4294967295 - n) (length p.chunk) q in
          let c2 : n + length p.chunk ≤ 4294967295 = omega arith in
          let r = read_of e t s xs p.chunk in
          let number = step_number_lem n l s xs w v p.chunk p.room p.spans g.0 c2 g.1 g.2 false in
          let text = step_gives n l s xs w v p.chunk p.room p.spans g.0 c2 g.1 g.2 false in
          let leaves = step_leaves n l s xs w v p.chunk p.room p.spans g.0 c2 g.1 g.2 in
          let next = ih (n + length p.chunk) (l + line_feeds (shown r.items)) r.spot r.rest (parsing t e s (xs ++ p.chunk)).waits
          (further e t n s xs p.chunk h).0 c2 (step_valid n l s xs w v p.chunk p.room p.spans g.0 c2 g.1 g.2) in
          ap (whole false) (take_all (4294967295 - n) p.chunk fits_all) ∙
          (λ i. joins (text i) (eqb (number i) 0 then text_by t (leaves i) ps room spans else nothing)) ∙
          ap (joins (record { output = utf8 (shown r.items); report = span_lines (cells (replaced (n - length xs) r.items)) ++ [] })) next ∙
          ap (λ (u : List ℕ). joins (record { output = utf8 (shown r.items); report = u })
          (text_from t e (n + length p.chunk) r.spot r.rest (joined ps)))
          (append-nil (span_lines (cells (replaced (n - length xs) r.items)))) ∙
          sym (on t e n s xs p.chunk (joined ps) h c2)
