-- What a step writes, from the answers of the calls. Assumes nothing.
use mathlib.Core.Path.{◌≡◌, refl, sym, ap, ◌∙◌, subst}
use mathlib.Core.Bool.{Bool, true, false}
use mathlib.Core.List.{List, [], ◌++◌}
use Prim.Native.Nat.{ℕ, ◌+◌, ◌-◌, ◌*◌, ◌≤◌}
use native.Mathlib.Omega.{arith}
use lib.Dec.{ltb, eqb}
use lib.ListN.{length, take, drop, length-append}
use lib.Seq.{take_all}
use borrow.Author.Tests.{ne_eqb, lt-ltb, le-ltb, ltb-true, ltb-false}
use Rattle.std.proofs.Common.{Err, min}
use Rattle.standard.proofs.Tests.{split}
use Rattle.standard.specs.Base.{◌then◌else◌}
use Rattle.standard.specs.Encodings.{Tables}
use Rattle.standard.specs.Items.{Item, shown, before}
use Rattle.decoder.specs.Record.{holding, closed}
use Rattle.decoder.specs.Calls.{Outcome, refuse, hand_out, read_on, feeding, read_end, finishing}
use Rattle.decoder.specs.declared.Decoder.{Decoder}
use Rattle.demands.proofs.Steps.{handed_is, feed_is, finish_is}
use Rattle.replacements_spec.specs.Replaced.{Replaced, cells}
use Rattle.replacements_spec.specs.Calls.{Handed, telling, replaced_by, feed_tell_refusal, feed_telling, finish_tell_refusal, finish_telling, Leaves}
use Rattle.replacements_spec.specs.declared.Replacing.{Replacing}
use Rattle.replacements_spec.proofs.Spans.{cells_length}
use Rattle.program_text.specs.Lines.{refused}
use Rattle.program_text.specs.Places.{Put}
use Rattle.program_text.specs.Utf8.{utf8}
use Rattle.program_text.proofs.Texts.{same, then_put}
use Rattle.mend_spec.specs.Mended.{span_lines}
use Rattle.mend_spec.specs.Program.{fitting, over, step_of}
use Rattle.mend.specs.Steps.{Wrote}
use Rattle.mend.specs.Code.{handed, Told}
use Rattle.mend.specs.Refusals.{number, Numbered}
use Rattle.mend.specs.declared.Mended.{Mended}
use Rattle.mend.specs.declared.Refusal.{Refusal}

-- what was written stands at the front of the room that is left
Within : Outcome → Type 0
Within o = o.answer.written ≤ length o.room

handed_within : (e m from n l : ℕ) (is : List Item) (d : ℕ → Decoder) (room : List ℕ) → Within (hand_out e m from n l is d room)
unfolding Within
handed_within e m from n l is d room = handed_is Within e m from n l is d room
    (omega (arith, length-append (before is) (drop (length (before is)) room)))
    (omega (arith, length-append (shown is) (drop (length (shown is)) room)))

feed_within : (d : Decoder) (t : Tables) (chunk room : List ℕ) → Within (feeding d t chunk room)
unfolding Within
feed_within d t chunk room = feed_is Within d t chunk room
    (λ z. handed_within d.encoding d.mode (d.taken - d.held) (d.taken + length chunk) d.lines (read_on d t chunk).items
    (λ l. holding d.encoding d.mode (d.taken + length chunk) l (read_on d t chunk).spot (read_on d t chunk).rest) room)
    (λ q. omega arith)

finish_within : (d : Decoder) (t : Tables) (room : List ℕ) → Within (finishing d t room)
unfolding Within
finish_within d t room = finish_is Within d t room
    (λ z. handed_within d.encoding d.mode (d.taken - d.held) d.taken d.lines (read_end d t)
    (closed d.encoding d.mode d.taken) room)
    (λ q. omega arith)

telling_told : (o : Outcome) (rs : List Replaced) (spans : List ℕ) → Within o → let h = telling o rs spans in Told h.answer h.room h.spans
unfolding Within
telling_told o rs spans w = record {
  written = w;
  count = omega (arith, cells_length rs, length-append (cells rs) (drop (2 * length rs) spans));
}

by_test : (b : Bool) (h k : Handed) → Told h.answer h.room h.spans → Told k.answer k.room k.spans →
    let x = b then h else k in Told x.answer x.room x.spans
by_test true h k p q = p
by_test false h k p q = q

pub feed_told : (d : Decoder) (t : Tables) (chunk room spans : List ℕ) → let h = feed_telling d t chunk room spans in Told h.answer h.room h.spans
unfolding feed_telling Within
feed_told d t chunk room spans = by_test (eqb (feed_tell_refusal d t chunk room spans) 0) _ _
    (telling_told (feeding d t chunk room) (replaced_by d.mode (d.taken - d.held) (read_on d t chunk).items) spans (feed_within d t chunk room))
    (telling_told (refuse (feed_tell_refusal d t chunk room spans) d room) [] spans (omega arith))

pub finish_told : (d : Decoder) (t : Tables) (room spans : List ℕ) → let h = finish_telling d t room spans in Told h.answer h.room h.spans
unfolding finish_telling Within
finish_told d t room spans = by_test (eqb (finish_tell_refusal d t room spans) 0) _ _
    (telling_told (finishing d t room) (replaced_by d.mode (d.taken - d.held) (read_end d t)) spans (finish_within d t room))
    (telling_told (refuse (finish_tell_refusal d t room spans) d room) [] spans (omega arith))

-- the same of the answer, the room and the spans that the call left
pub told_left : {h : Handed} {r : Replacing} {room spans : List ℕ} → Leaves h r room spans → Told h.answer h.room h.spans → Told r room spans
told_left t k = rw (t.answer, t.scalars, t.told) k

pub handed_left : {h : Handed} {r : Replacing} {room spans : List ℕ} → Leaves h r room spans → handed r room spans ≡ h
handed_left t = λ i. record { answer = t.answer i; room = t.scalars i; spans = t.told i }

-- the step with a refusal
module _ (a : Replacing) (room spans : List ℕ) (more : Bool) {out report out' report' : List ℕ} {w k : ℕ}
    (p : Put out 0 (utf8 (take a.answer.written room)) w out') (l : Put report 0 (span_lines (take (2 * a.count) spans)) k report') where
  pub wrote_refused : {r : Refusal} → Numbered {T = Unit {0}} (Err r) (step_of a.answer.refusal more) →
      {end : ℕ} {last : List ℕ} → Put report' k (refused (number r)) end last →
      Wrote (handed a room spans) more out report (record { decoder = a.answer.decoder; outcome = Err r; written = w; told = end }) out' last
  wrote_refused {r} q d = record {
    decoder = refl;
    refusal = q;
    output = p;
    lines = same (ap (λ (j : List ℕ). span_lines (take (2 * a.count) spans) ++ j)
        (sym (rw (ne_eqb (step_of a.answer.refusal more) 0 (λ z. omega (arith, q.1, z))) (ap refused q.0)))) (then_put l d);
  }

-- how much of a buffer is fed
module _ (d : Decoder) (chunk : List ℕ) {n : ℕ} (e : n ≡ min (length chunk) (4294967295 - d.taken)) where
  pub part_is : take n chunk ≡ fitting d chunk
  part_is = split (ltb (4294967295 - d.taken) (length chunk))
      (λ t. let l = ltb-true (4294967295 - d.taken) (length chunk) t in
      let z : n ≡ 4294967295 - d.taken = omega (arith, l, e) in ap (λ (k : ℕ). take k chunk) z)
      (λ t. let l = ltb-false (4294967295 - d.taken) (length chunk) t in
      let z : length chunk ≤ n = omega (arith, l, e) in
      take_all n chunk z ∙ sym (take_all (4294967295 - d.taken) chunk l))

  pub more_is : ltb n (length chunk) ≡ over d chunk
  more_is = split (ltb (4294967295 - d.taken) (length chunk))
      (λ t. let l = ltb-true (4294967295 - d.taken) (length chunk) t in lt-ltb n (length chunk) (omega (arith, l, e)) ∙ sym t)
      (λ t. let l = ltb-false (4294967295 - d.taken) (length chunk) t in le-ltb n (length chunk) (omega (arith, l, e)) ∙ sym t)

-- the same step, said otherwise
pub wrote_by : {h h' : Handed} {m m' : Bool} {out report out' report' : List ℕ} {r : Mended} → h ≡ h' → m ≡ m' →
    Wrote h m out report r out' report' → Wrote h' m' out report r out' report'
wrote_by {h} {h'} {m} {m'} {out} {report} {out'} {report'} {r} p q w =
    subst (λ (x : Bool). Wrote h' x out report r out' report') q (subst (λ (x : Handed). Wrote x m out report r out' report') p w)
