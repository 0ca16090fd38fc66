-- What accepted calls are to tell, by the code's tests. Assumes nothing.
use mathlib.Core.Path.{◌≡◌, refl, sym, ap, ◌∙◌, subst}
use mathlib.Core.Bool.{Bool, true, false, ◌&&◌, not}
use mathlib.Core.List.{List, [], ◌∷◌, ◌++◌}
use Prim.Native.Nat.{ℕ, suc, ◌+◌, ◌-◌, ◌≤◌}
use native.Mathlib.Omega.{arith}
use native.Mathlib.Nat.{add-zero, zero-add}
use lib.Dec.{T, ltb, leb, eqb}
use lib.ListN.{length, get_or, drop, length-drop}
use borrow.Author.Tests.{ne_eqb, eq-eqb, ltb-false, leb-true}
use Rattle.standard.specs.Base.{◌then◌else◌}
use Rattle.standard.specs.Encodings.{Tables, ISO-2022-JP, family, fits, no_tables}
use Rattle.standard.specs.Sequence.{Shift, Out, text, error, Next, more, shift, plain}
use Rattle.standard.specs.Next.{next}
use Rattle.standard.specs.Decode.{Item, span, Read, decode, last_out, iso_end, ending, everything, shown, widths}
use Rattle.standard.specs.Choice.{Choice, waiting, label, marked, choose, reader, spot, chosen, read_from, end_from, rests}
use Rattle.std.specs.Prelude.{None, Some}
use Rattle.standard.proofs.Tests.{split, and_left}
use Rattle.standard.proofs.Stages.{at_mark, read_on_lem, read_choice}
use Rattle.standard.proofs.Reading.{ending_any, no_bytes}
use Rattle.standard.proofs.Widths.{all_widths}
use Rattle.sequences.specs.Code.{item_of, out_of, front}
use Rattle.sequences.specs.declared.Sequence.{Sequence}
use Rattle.reading.specs.Reading.{chosen_of, behind_mark, at_spot, start_of}
use Rattle.reading.specs.declared.feed.Start.{Start}
use Rattle.reading.proofs.Ends.{iso_end-any, one_byte, other_error}
use Rattle.decoder.specs.Record.{spot_of, held_of}
use Rattle.decoder.specs.Valid.{possible_at, valid_rest, valid}
use Rattle.decoder.specs.Calls.{feed_refusal, finish_refusal, read_end}
use Rattle.decoder.specs.declared.Decoder.{Decoder}
use Rattle.decoder.proofs.Parts.{parts}
use Rattle.replacements_spec.specs.Replaced.{Replaced, replaced}
use Rattle.replacements_spec.specs.Calls.{replaced_by}
use Rattle.replacements_spec.proofs.Spans.{replaced_append, sound_none, decode_wide, replaced_few}
use Rattle.replacements.specs.Walks.{at, replacing, is_error, read_by, Walks, Adds}
use Rattle.replacements.specs.declared.Walked.{Walked}
use Rattle.replacements.proofs.Scan.{unshown_sound}

-- What an accepted call says of its record and its chunk.
pub record Accepted (d : Decoder) : Type 0 where
  pub few : d.held ≤ 3
  pub held : d.held ≤ d.taken

open_held : (d : Decoder) → valid d ≡ true → eqb d.ended 1 ≡ false → Accepted d
unfolding valid_rest
open_held d v n =
    let p = parts d v in
    let r : leb d.held d.taken && possible_at d.encoding d.mode (spot_of d) (d.taken - d.held) d.lines &&
    rests d.encoding (spot_of d) (held_of d) ≡ true = rw n at p.rest in
    record {
      few = p.held;
      held = leb-true d.held d.taken (and_left (leb d.held d.taken) _ (and_left _ _ r));
    }

-- the tests of a record, and of a chunk behind them
record_passed : (v e : Bool) (n : ℕ) → ◌≡◌ {A = ℕ} (not v then 5 else e then 6 else n) 0 → (v ≡ true) × (e ≡ false) × (n ≡ 0)
record_passed false e n h = absurd (omega arith)
record_passed true true n h = absurd (omega arith)
record_passed true false n h = (refl, refl, h)

chunk_passed : (f l m r : Bool) → ◌≡◌ {A = ℕ} (not f then 4 else l then 8 else m then 14 else r then 7 else 0) 0 → (l ≡ false) × (m ≡ false)
chunk_passed false l m r h = absurd (omega arith)
chunk_passed true true m r h = absurd (omega arith)
chunk_passed true false true r h = absurd (omega arith)
chunk_passed true false false r h = (refl, refl)

pub feed_accepted : (d : Decoder) (t : Tables) (chunk room : List ℕ) → feed_refusal d t chunk room ≡ 0 →
    Accepted d × (length chunk ≤ 65536) × (d.taken + length chunk ≤ 4294967295)
unfolding feed_refusal
feed_accepted d t chunk room h =
    let p = record_passed (valid d) (eqb d.ended 1) _ h in
    let q = chunk_passed (fits (family d.encoding) t) (ltb 65536 (length chunk)) (ltb 4294967295 (d.taken + length chunk))
    (ltb (length room) (length chunk + d.held)) p.2 in
    (open_held d p.0 p.1, ltb-false 65536 (length chunk) q.0, ltb-false 4294967295 (d.taken + length chunk) q.1)

pub finish_accepted : (d : Decoder) (t : Tables) (room : List ℕ) → finish_refusal d t room ≡ 0 → Accepted d
unfolding finish_refusal
finish_accepted d t room h =
    let p = record_passed (valid d) (eqb d.ended 1) _ h in
    open_held d p.0 p.1

-- in refusing mode nothing is told
pub refusing_none : (m n : ℕ) (is : List Item) → m ≡ 1 → replaced_by m n is ≡ []
refusing_none m n is h = rw (eq-eqb m 1 h)

pub replacing_all : (m n : ℕ) (is : List Item) → (m ≡ 1 → ⊥) → replaced_by m n is ≡ replaced n is
replacing_all m n is h = rw (ne_eqb m 1 h)

-- without U+FFFD nothing is told
pub unshown_none : (m n : ℕ) (is : List Item) (scalars : List ℕ) → (m ≡ 1 → ⊥) → scalars ≡ shown is → replacing scalars ≡ false →
    replaced_by m n is ≡ []
unshown_none m n is scalars h e f = replacing_all m n is h ∙ sound_none n is (unshown_sound is (sym (ap replacing e) ∙ f))

-- Where reading starts: what is replaced is what is replaced from there on, and nothing while the first bytes wait.
pub record Begins (t : Tables) (e g state flag n : ℕ) (xs : List ℕ) (s : Start) : Type 0 where
  pub reads : replaced n (read_from t e (spot g (shift state (eqb flag 1))) xs).items ≡
      replaced (n + s.mark) (read_by t s.reads s.state s.flag (drop s.mark xs)).items
  pub there : s.mark ≤ length xs

module _ (t : Tables) (e g state flag n : ℕ) (xs : List ℕ) where
  abbrev s₀ : Shift
  s₀ = shift state (eqb flag 1)

  pub begins_waiting : None ≡ start_of e g state flag xs → replaced n (read_from t e (spot g s₀) xs).items ≡ []
  unfolding chosen replaced
  begins_waiting found = split (eqb g 1)
      (λ q. first q (choose xs) refl (rw q at found))
      (λ q. let h = rw q at found in let z : ◌≡◌ {A = ℕ} 0 1 = cc in absurd (omega arith))
    where
      first : eqb g 1 ≡ true → (c : Choice) → choose xs ≡ c → None ≡ behind_mark e (chosen_of c) →
          replaced n (read_from t e (spot g s₀) xs).items ≡ []
      first q waiting k h = rw (read_choice t e (spot g s₀) xs q, k)
      first q label k h = let z : ◌≡◌ {A = ℕ} 0 1 = cc in absurd (omega arith)
      first q (marked w m) k h = let z : ◌≡◌ {A = ℕ} 0 1 = cc in absurd (omega arith)

  pub begins : (s : Start) → Some s ≡ start_of e g state flag xs → Begins t e g state flag n xs s
  unfolding chosen replaced
  begins s found = split (eqb g 1)
      (λ q. first q (choose xs) refl (rw q at found))
      (λ q. let h = rw q at found in let is : s ≡ at_spot e g state flag = cc in rw is (record {
        reads = rw (read_on_lem t e (spot g s₀) xs q)
            (ap (λ (i : ℕ). replaced i (decode (next t (family (reader e g))) s₀ xs).items) (sym (add-zero n)));
        there = omega arith;
      }))
    where
      first : eqb g 1 ≡ true → (c : Choice) → choose xs ≡ c → Some s ≡ behind_mark e (chosen_of c) → Begins t e g state flag n xs s
      first q waiting k h = let z : ◌≡◌ {A = ℕ} 0 1 = cc in absurd (omega arith)
      first q label k h =
          let is : s ≡ record { reads = e; stage = 0; mark = 0; state = 0; flag = 0 } = cc in
          rw is (record {
            reads = rw (read_choice t e (spot g s₀) xs q, k)
                (ap (λ (i : ℕ). replaced i (decode (next t (family e)) plain xs).items) (sym (add-zero n)));
            there = omega arith;
          })
      first q (marked w m) k h =
          let is : s ≡ record { reads = reader e m; stage = m; mark = w; state = 0; flag = 0 } = cc in
          rw is (record {
            reads = rw (read_choice t e (spot g s₀) xs q, k);
            there = (at_mark xs k).there;
          })

-- a walk tells what was wanted
pub walked : {t : Tables} {e state flag from mark : ℕ} {xs spans after : List ℕ} {r : Walked} {rs : List Replaced} →
    rs ≡ replaced (from + mark) (read_by t e state flag (drop mark xs)).items →
    Walks t e state flag from mark xs spans r after → Adds spans 0 rs r.count after
walked {rs = rs} e w = rw e (record {
  count = w.count ∙ sym (zero-add _);
  told = w.told ∙ rw (w.count, zero-add);
})

-- The end of input, by the code's tests.
module _ (t : Tables) (s : Shift) (b : ℕ) where
  pub last_waits : more ≡ next t ISO-2022-JP s (front 1 b 0 0 0) → true ≡ is_error (last_out (next no_tables ISO-2022-JP s (b ∷ [])))
  last_waits e = ap (λ (a : Next). is_error (last_out a)) (e ∙ iso_end-any t s b)

  pub last_item : (q : Sequence) → item_of q ≡ next t ISO-2022-JP s (front 1 b 0 0 0) →
      is_error (out_of q.out) ≡ is_error (last_out (next no_tables ISO-2022-JP s (b ∷ [])))
  last_item q e = ap (λ (a : Next). is_error (last_out a)) (e ∙ iso_end-any t s b)

-- the bytes that are left, by how many they are
one_left : (rest : List ℕ) → length rest ≡ 1 → (b : ℕ) × (rest ≡ b ∷ [])
one_left [] h = absurd (omega arith)
one_left (b ∷ []) h = (b, refl)
one_left (b ∷ c ∷ xs) h = absurd (omega arith)

some_left : (rest : List ℕ) → (length rest ≡ 0 → ⊥) → (b : ℕ) × (xs : List ℕ) × (rest ≡ b ∷ xs)
some_left [] h = absurd (h refl)
some_left (b ∷ xs) h = (b, xs, refl)

none_left : (rest : List ℕ) → length rest ≡ 0 → rest ≡ []
none_left [] h = refl
none_left (b ∷ xs) h = absurd (omega arith)

module _ (e : ℕ) (s : Shift) (place : ℕ) (rest : List ℕ) where
  pub rest_none : length rest ≡ 0 → replaced place (ending no_tables (family e) s rest) ≡ []
  unfolding replaced
  rest_none h = rw (none_left rest h, no_bytes no_tables (family e) s)

  pub rest_one : length rest ≡ 1 → replaced place (ending no_tables (family e) s rest) ≡ at place 1 ∷ []
  unfolding replaced
  rest_one h = let o = one_left rest h in rw (o.1, one_byte no_tables (family e) s o.0)

  pub rest_other : (e ≡ 33 → ⊥) → (length rest ≡ 0 → ⊥) → replaced place (ending no_tables (family e) s rest) ≡ at place (length rest) ∷ []
  unfolding replaced
  rest_other n h = let o = some_left rest h in rw (o.2, other_error no_tables e s o.0 o.1 n)

  pub rest_iso : e ≡ 33 → replaced place (iso_end no_tables s rest) ≡ replaced place (ending no_tables (family e) s rest)
  unfolding family ending
  rest_iso h = rw h

-- 1B, and the bytes behind it
last_told : (place w : ℕ) (o : Out) → is_error o ≡ true → replaced place (span w o ∷ []) ≡ at place w ∷ []
unfolding replaced
last_told place w (text cs) h = absurd (subst T (sym h) tt)
last_told place w error h = refl

last_text : (place w : ℕ) (o : Out) → is_error o ≡ false → replaced place (span w o ∷ []) ≡ []
unfolding replaced
last_text place w (text cs) h = refl
last_text place w error h = absurd (subst T h tt)

pub escape_error : (s : Shift) (place : ℕ) (rest : List ℕ) → 2 ≤ length rest →
    is_error (last_out (next no_tables ISO-2022-JP s (get_or rest 1 0 ∷ []))) ≡ true →
    (at place 1 ∷ []) ++ (at (place + 1) (length rest - 1) ∷ []) ≡ replaced place (iso_end no_tables s rest)
unfolding iso_end replaced
escape_error s place [] h k = absurd (omega arith)
escape_error s place (b ∷ []) h k = absurd (omega arith)
escape_error s place (b ∷ c ∷ xs) h k =
    let few : length (b ∷ c ∷ xs) - 1 ≡ suc (length xs) = omega arith in
    ap (λ (w : ℕ). at place 1 ∷ at (place + 1) w ∷ []) few ∙
    sym (ap (◌∷◌ (at place 1)) (last_told (place + 1) (suc (length xs)) (last_out (next no_tables ISO-2022-JP s (c ∷ []))) k))

pub escape_text : (s : Shift) (place : ℕ) (rest : List ℕ) → 2 ≤ length rest →
    is_error (last_out (next no_tables ISO-2022-JP s (get_or rest 1 0 ∷ []))) ≡ false →
    at place 1 ∷ [] ≡ replaced place (iso_end no_tables s rest)
unfolding iso_end replaced
escape_text s place [] h k = absurd (omega arith)
escape_text s place (b ∷ []) h k = absurd (omega arith)
escape_text s place (b ∷ c ∷ xs) h k = sym
    (ap (◌∷◌ (at place 1)) (last_text (place + 1) (suc (length xs)) (last_out (next no_tables ISO-2022-JP s (c ∷ []))) k))

-- bytes that wait, read by the label's encoding and then ended
module _ (t : Tables) (e from : ℕ) (xs : List ℕ) where
  abbrev pub early : Read
  early = read_by t e 0 0 xs

  pub waiting_told : replaced from early.items ++ replaced (from + widths early.items) (ending no_tables (family e) early.shift early.rest) ≡
      replaced from (everything t (family e) plain xs)
  unfolding everything
  waiting_told = sym (replaced_append from early.items (ending t (family e) early.shift early.rest) ∙
      ap (λ (is : List Item). replaced from early.items ++ replaced (from + widths early.items) is)
      (ending_any t no_tables (family e) early.shift early.rest))

  -- where the walk stands is behind the sequences read
  pub waiting_at : {at : ℕ} → at ≤ length xs → drop at xs ≡ early.rest → widths early.items ≡ at
  waiting_at {at} h k = omega (arith, all_widths.so_far t (family e) plain xs, ap length k, length-drop at xs)

  pub waiting_few : length (replaced from early.items) ≤ widths early.items
  waiting_few = replaced_few from early.items (decode_wide t (family e) plain xs)

-- the end of input, by the stage
pub end_waits : (d : Decoder) (t : Tables) → d.stage ≡ 1 → read_end d t ≡ everything t (family d.encoding) plain (held_of d)
unfolding end_from
end_waits d t h = rw (eq-eqb d.stage 1 h)

pub end_reads : (d : Decoder) (t : Tables) → (d.stage ≡ 1 → ⊥) →
    read_end d t ≡ ending no_tables (family (reader d.encoding d.stage)) (shift d.state (eqb d.flag 1)) (held_of d)
unfolding end_from
end_reads d t h = rw (ne_eqb d.stage 1 h)
