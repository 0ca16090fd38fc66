-- The steps over an input that is known: what is read, printed, and still to be printed. Assumes nothing.
use Rattle.std.proofs.Common.{◌≡◌, refl, sym, ap, ◌∙◌, subst, ℕ, zero, suc, ◌+◌, ◌*◌, ◌-◌, ◌≤◌, ◌<◌, List, [], ◌∷◌, ◌++◌, length, take, drop, length-drop, length-take-le, length-append, append_assoc, append-nil, le_refl, arith, Option, None, Some, IfSome}
use Rattle.std.proofs.Math.Dec.{ltb, eqb}
use Rattle.std.proofs.KnownBytes.{Appends-nil, Appends-trans}
use Rattle.std.specs.Io.KnownBytes.{Appends, Consumes, IsAtEnd}
use borrow.Author.Tests.{lt-ltb, le-ltb, eq-eqb, ne_eqb, ltb-true, ltb-false, eqb-true, eqb-false}
use Rattle.std.proofs.lemmas.List.{take-append-drop}
use Rattle.standard.specs.Base.{◌then◌else◌}
use Rattle.standard.proofs.Tests.{split}
use Rattle.decoder.specs.Calls.{opening}
use Rattle.decoder.specs.declared.Decoder.{Decoder}
use Rattle.program_text.proofs.FirstLine.{line_cut}
use Rattle.showtext.specs.Output.{first_line, after_line, printed, refused}
use Rattle.showtext.specs.Refusals.{number}
use Rattle.showtext.specs.Program.{Shown, as_shown, Leaves, Left, Refused, Ends, beginning, going_on, closing, turning, next_step, text, by_step}
use Rattle.showtext.specs.declared.Progress.{Progress}
use Rattle.showtext.specs.declared.Refusal.{Refusal}
use Rattle.showtext.specs.Statements.{joined, Filled, Whole, Stepped}
use Rattle.showtext.proofs.Buffers.{at_long, begun_taken, went_taken}
use Rattle.showtext.proofs.Theorems.{prints}

-- An input cut into the buffers that it fills, and the empty one of the last step.
pub record Cut (full : ℕ) (xs : List ℕ) (bs : List (List ℕ)) : Type 0 where
  pub first : List ℕ
  pub rest : List (List ℕ)
  pub whole : bs ≡ first ∷ rest ++ ([] ∷ [])
  pub filled : Filled full first rest
  pub bytes : first ++ joined rest ≡ xs

-- Every input can be cut so.
cut_short : (full : ℕ) (xs : List ℕ) → length xs < full → (bs : List (List ℕ)) × Cut full xs bs
unfolding Filled joined
cut_short full xs h = (xs ∷ ([] ∷ []), record { first = xs; rest = []; whole = refl; filled = h; bytes = append-nil xs })

cut_front : (full : ℕ) (xs : List ℕ) → full ≤ length xs → (bs : List (List ℕ)) × Cut full (drop full xs) bs → (bs : List (List ℕ)) × Cut full xs bs
unfolding Filled joined
cut_front full xs h c = (
  take full xs ∷ c.0,
  record {
    first = take full xs;
    rest = c.1.first ∷ c.1.rest;
    whole = ap (λ l. take full xs ∷ l) c.1.whole;
    filled = (length-take-le full xs h, c.1.filled);
    bytes = ap (λ l. take full xs ++ l) c.1.bytes ∙ take-append-drop full xs;
  },
)

cut_within : (full k : ℕ) (xs : List ℕ) → 0 < full → length xs ≤ k → (bs : List (List ℕ)) × Cut full xs bs
cut_within full zero xs f h = cut_short full xs (omega arith)
cut_within full (suc k) xs f h = split (ltb (length xs) full)
    (λ e. cut_short full xs (ltb-true (length xs) full e))
    (λ e. let g = ltb-false (length xs) full e in cut_front full xs g (cut_within full k (drop full xs) f (omega (arith, length-drop full xs))))

-- What is read from a step on: the rest of the input, or before the last step nothing.
pub record Plan (full step : ℕ) (xs : List ℕ) (bs : List (List ℕ)) : Type 0 where
  pub input : step < 2 → Cut full xs bs
  pub last : step ≡ 2 → bs ≡ [] ∷ []

-- What the first step is handed is not looked at.
pub any : Shown
any = record { decoder = (opening 0 0 0).decoder; refusal = 0; length = 0; count = 0 }

-- What is printed from a step on.
abbrev pub behind : ℕ → ℕ → Shown → List ℕ → List ℕ → List (List ℕ) → List ℕ
behind full step s room out bs = ltb step 3 then by_step full step s room out bs else []

-- Of what the steps print of a whole input, some is written before a step, and the steps print the rest.
pub record ToPrint (full : ℕ) (room₀ out₀ all : List ℕ) (step : ℕ) (s : Shown) (room out xs written : List ℕ) : Type 0 where
  pub still : (bs : List (List ℕ)) → Plan full step xs bs → Stepped full room₀ out₀ all (written ++ behind full step s room out bs)

module _ (full step : ℕ) (s : Shown) (room out b xs : List ℕ) (f : 0 < full) (h : step < 3) where
  abbrev l : Leaves
  l = turning step s b room out

  abbrev next : ℕ
  next = next_step step l.shown.refusal (length b) full

  -- a plan behind this buffer
  record Then (bs : List (List ℕ)) (behind : List (List ℕ)) : Type 0 where
    plan : Plan full step xs (b ∷ behind)
    same : next < 3 → behind ≡ bs

  ends : step ≡ 2 → next ≡ 3
  ends z = rw (eq-eqb step 2 z) refl

  refuses : step < 2 → (l.shown.refusal ≡ 0 → ⊥) → next ≡ 3
  refuses k z = rw (ne_eqb step 2 (λ z. omega (arith, k, z)), ne_eqb l.shown.refusal 0 z) refl

  was_last : step < 2 → l.shown.refusal ≡ 0 → length b < full → next ≡ 2
  was_last k z e = rw (ne_eqb step 2 (λ z. omega (arith, k, z)), eq-eqb l.shown.refusal 0 z, lt-ltb (length b) full e) refl

  goes_on : step < 2 → l.shown.refusal ≡ 0 → full ≤ length b → next ≡ 1
  goes_on k z e = rw (ne_eqb step 2 (λ z. omega (arith, k, z)), eq-eqb l.shown.refusal 0 z, le-ltb (length b) full e) refl

  unrolled : (tail bs : List (List ℕ)) → Then bs tail → behind full step s room out (b ∷ tail) ≡ text l ++ behind full next l.shown l.room l.out bs
  unfolding by_step
  unrolled tail bs t =
      let past : List (List ℕ) → List ℕ = λ bs. ltb next 3 then by_step full next l.shown l.room l.out bs else [] in
      rw (lt-ltb step 3 h) (ap (λ us. text l ++ us) (split (ltb next 3)
      (λ e. ap past (t.same (ltb-true next 3 e)))
      (λ e. rw e refl)))

  -- the buffers of the input behind it
  module _ (xs' : List ℕ) (few : length b ≤ full) (e : xs ≡ b ++ xs') (short : step < 2 → length b < full → xs' ≡ []) (none : step ≡ 2 → b ≡ []) where
    cut_last : length b < full → xs' ≡ [] → Cut full xs (b ∷ [] ∷ [])
    unfolding Filled joined
    cut_last k z = record { first = b; rest = []; whole = refl; filled = k; bytes = ap (λ l. b ++ l) (sym z) ∙ sym e }

    cut_more : full ≤ length b → (bs : List (List ℕ)) → Cut full xs' bs → Cut full xs (b ∷ bs)
    unfolding Filled joined
    cut_more k bs c = record {
      first = b;
      rest = c.first ∷ c.rest;
      whole = ap (λ l. b ∷ l) c.whole;
      filled = (omega (arith, few), c.filled);
      bytes = ap (λ l. b ++ l) c.bytes ∙ sym e;
    }

    in_input : (bs : List (List ℕ)) → step < 2 → Cut full xs (b ∷ bs) → Plan full step xs (b ∷ bs)
    in_input bs k c = record { input = λ _. c; last = λ z. absurd (omega arith) }

    at_end : (bs : List (List ℕ)) → step ≡ 2 → Then bs []
    at_end bs z = record {
      plan = record { input = λ k. absurd (omega arith); last = λ _. ap (λ l. l ∷ []) (none z) };
      same = λ k. absurd (omega (arith, ends z, k));
    }

    at_refusal : (bs : List (List ℕ)) → step < 2 → (l.shown.refusal ≡ 0 → ⊥) → (tail : List (List ℕ)) × Then bs tail
    at_refusal bs k z = split (ltb (length b) full)
        (λ e. let g = ltb-true (length b) full e in
        ([] ∷ [], record { plan = in_input ([] ∷ []) k (cut_last g (short k g)); same = λ m. absurd (omega (arith, refuses k z, m)) }))
        (λ e. let c = cut_within full (length xs') xs' f (le_refl _) in
        (c.0, record { plan = in_input c.0 k (cut_more (ltb-false (length b) full e) c.0 c.1); same = λ m. absurd (omega (arith, refuses k z, m)) }))

    at_input : (bs : List (List ℕ)) → Plan full next xs' bs → step < 2 → l.shown.refusal ≡ 0 → (tail : List (List ℕ)) × Then bs tail
    at_input bs p k z = split (ltb (length b) full)
        (λ e. let g = ltb-true (length b) full e in
        ([] ∷ [], record { plan = in_input ([] ∷ []) k (cut_last g (short k g)); same = λ m. sym (p.last (was_last k z g)) }))
        (λ e. let g = ltb-false (length b) full e in
        (bs, record { plan = in_input bs k (cut_more g bs (p.input (omega (arith, goes_on k z g)))); same = λ m. refl }))

    planned : (bs : List (List ℕ)) → Plan full next xs' bs → (tail : List (List ℕ)) × Then bs tail
    planned bs p = split (eqb step 2)
        (λ e. ([], at_end bs (eqb-true step 2 e)))
        (λ e. let k : step < 2 = let n = eqb-false step 2 e in omega (arith, h, n) in
        split (eqb l.shown.refusal 0)
        (λ z. at_input bs p k (eqb-true l.shown.refusal 0 z))
        (λ z. at_refusal bs k (eqb-false l.shown.refusal 0 z)))

    -- After this step.
    pub turned : (room₀ out₀ all written : List ℕ) → ToPrint full room₀ out₀ all step s room out xs written →
        ToPrint full room₀ out₀ all next l.shown l.room l.out xs' (written ++ text l)
    turned room₀ out₀ all written t = record {
      still = λ bs p.
          let a = planned bs p in
          subst (Stepped full room₀ out₀ all)
          (ap (λ us. written ++ us) (unrolled a.0 bs a.1) ∙ sym (append_assoc written (text l) (behind full next l.shown l.room l.out bs)))
          (t.still (b ∷ a.0) a.1.plan);
    }

-- Before the first step, whatever it is handed.
pub starting_prints : (full : ℕ) (s : Shown) (room out all : List ℕ) → ToPrint full room out all 0 s room out all []
unfolding by_step turning
starting_prints full s room out all = record {
  still = λ bs p.
      let c = p.input (omega arith) in
      record { first = c.first; rest = c.rest; filled = c.filled; whole = c.bytes; steps = λ s'. ap (by_step full 0 s room out) (sym c.whole) };
}

-- Behind the last step.
pub ended : {full step : ℕ} {s : Shown} {room₀ out₀ all room out xs written : List ℕ} → 3 ≤ step →
    ToPrint full room₀ out₀ all step s room out xs written → Stepped full room₀ out₀ all written
ended {full} {step} {s} {room₀} {out₀} {all} {room} {out} {xs} {written} h t =
    let none : behind full step s room out [] ≡ [] = rw (le-ltb step 3 h) in
    subst (Stepped full room₀ out₀ all) (ap (λ us. written ++ us) none ∙ append-nil written)
    (t.still [] (record { input = λ z. absurd (omega arith); last = λ z. absurd (omega arith) }))

-- What the steps print of an input that they print as a whole.
pub stepped_whole : {full : ℕ} {room out all text : List ℕ} → Stepped full room out all text → Whole full (length room) all → printed all ≡ text
stepped_whole {full} {room} {out} {all} {text} t w =
    let few : length (after_line (t.first ++ joined t.rest)) ≤ 4294967295 = rw t.whole w.bytes in
    ap printed (sym t.whole) ∙ sym (prints.steps full any room out t.first t.rest w.cells w.low w.high t.filled few) ∙ t.steps any

-- All reads, with that of the first buffer: more than the buffers that a decoder takes, where these are not empty.
abbrev pub most : ℕ
most = 0x4_0000_0000_0001

-- What a decoder has taken behind i further buffers, n bytes having been read for the last one. Each but the last was full.
pub record Turns (full : ℕ) (d : Decoder) (n i : ℕ) : Type 0 where
  pub more : i ≤ d.taken + 1
  pub filled : full ≤ n → i ≤ d.taken
  pub taken : d.taken ≤ 4294967295

-- It does not come to more buffers.
pub enough : {full : ℕ} {d : Decoder} {n i : ℕ} → Turns full d n i → most ≤ i + 1 → ⊥
enough t z = omega (arith, t.more, t.taken, z)

-- One step.
module _ {full step : ℕ} {s : Shown} {room₀ out₀ all room out b xs xs' written : List ℕ} (f : 0 < full)
    (h : step < 3) (few : length b ≤ full) (e : xs ≡ b ++ xs') (short : step < 2 → length b < full → xs' ≡ []) (none : step ≡ 2 → b ≡ [])
    (t : ToPrint full room₀ out₀ all step s room out xs written) where
  abbrev went : Leaves
  went = turning step s b room out

  stepped : ToPrint full room₀ out₀ all (next_step step went.shown.refusal (length b) full) went.shown went.room went.out xs' (written ++ text went)
  stepped = turned full step s room out b xs f h xs' few e short none room₀ out₀ all written t

  -- after it, with what it left
  pub stepped_on : {p : Progress} {room' out' : List ℕ} → Left went p room' out' →
      ToPrint full room₀ out₀ all (next_step step 0 (length b) full) (as_shown p) room' out' xs' (written ++ take p.length out')
  stepped_on {p} {room'} {out'} l =
      subst (λ (s : Shown). ToPrint full room₀ out₀ all (next_step step s.refusal (length b) full) s room' out' xs' (written ++ take s.length out'))
      (sym l.answer) (rw (l.scalars, l.bytes) stepped)

  -- after it, if it was refused
  pub stepped_last : step < 2 → {r : Refusal} → Refused went r → Stepped full room₀ out₀ all (written ++ refused (number r))
  stepped_last k r =
      let over = refuses full step s room out b xs f h k (λ z. omega (arith, r.refusal, r.some, z)) in
      subst (Stepped full room₀ out₀ all) (ap (λ us. written ++ us) r.line) (ended (omega (arith, over)) stepped)

  -- after the last step
  pub stepped_out : step ≡ 2 → {n : ℕ} {out' : List ℕ} → Ends went n out' → Stepped full room₀ out₀ all (written ++ take n out')
  stepped_out z l =
      let over = ends full step s room out b xs f h z in
      subst (Stepped full room₀ out₀ all) (ap (λ us. written ++ us) (sym l.printed)) (ended (omega (arith, over)) stepped)

-- The step behind a buffer that is not refused: the end where it is not full, or a further buffer.
abbrev pub after : ℕ → ℕ → ℕ
after n full = next_step 1 0 n full

module _ (n full : ℕ) where
  pub is_last : n < full → after n full ≡ 2
  is_last h = rw (lt-ltb n full h) refl

  pub is_further : full ≤ n → after n full ≡ 1
  is_further h = rw (le-ltb n full h) refl

-- The front of a buffer of which n bytes were read.
cut_size : {full n : ℕ} (buffer : List ℕ) → length buffer ≡ full → n ≤ full → length (take n buffer) ≡ n
cut_size {full} {n} buffer size few = length-take-le n buffer (omega (arith, size, few))

-- A step over the front of a buffer of `full` bytes.
module _ {full n step : ℕ} {s : Shown} {room₀ out₀ room out : List ℕ} (buffer : List ℕ) (size : length buffer ≡ full) (few : n ≤ full) (h : step < 2)
    (all xs xs' written : List ℕ) (x : xs ≡ take n buffer ++ xs') (short : step < 2 → n < full → xs' ≡ [])
    (t : 0 < full → ToPrint full room₀ out₀ all step s room out xs written) (f : 0 < full) where
  cut : length (take n buffer) ≡ n
  cut = cut_size buffer size few

  pub ran : {p : Progress} {room' out' : List ℕ} → next_step step 0 n full ≡ after n full → Left (turning step s (take n buffer) room out) p room' out' →
      ToPrint full room₀ out₀ all (after n full) (as_shown p) room' out' xs' (written ++ take p.length out')
  ran {p} {room'} {out'} e u =
      subst (λ j. ToPrint full room₀ out₀ all j (as_shown p) room' out' xs' (written ++ take p.length out')) (ap (λ j. next_step step 0 j full) cut ∙ e)
      (stepped_on f (omega (arith, h)) (omega (arith, cut, few)) x (λ z v. short z (omega (arith, v, cut))) (λ v. absurd (omega (arith, v, h))) (t f) u)

  pub ran_out : {r : Refusal} → Refused (turning step s (take n buffer) room out) r → Stepped full room₀ out₀ all (written ++ refused (number r))
  ran_out u = stepped_last f (omega (arith, h)) (omega (arith, cut, few)) x (λ z v. short z (omega (arith, v, cut))) (λ v. absurd (omega (arith, v, h))) (t f) h u

-- The first buffer.
module _ {full n : ℕ} {s : Shown} {room₀ out₀ room out : List ℕ} (buffer : List ℕ) (size : length buffer ≡ full) (few : n ≤ full)
    (all xs xs' written : List ℕ) (x : xs ≡ take n buffer ++ xs') (short : ◌<◌ 0 2 → n < full → xs' ≡ [])
    (t : 0 < full → ToPrint full room₀ out₀ all 0 s room out xs written) (f : 0 < full) where
  pub first_prints : {p : Progress} {room' out' : List ℕ} → Left (beginning (take n buffer) room out) p room' out' →
      ToPrint full room₀ out₀ all (after n full) (as_shown p) room' out' xs' (written ++ take p.length out')
  unfolding turning
  first_prints u = ran buffer size few (omega arith) all xs xs' written x short t f refl u

  pub first_out : {r : Refusal} → Refused (beginning (take n buffer) room out) r → Stepped full room₀ out₀ all (written ++ refused (number r))
  unfolding turning
  first_out u = ran_out buffer size few (omega arith) all xs xs' written x short t f u

-- Behind a buffer for which m bytes were read.
module _ {full : ℕ} (m : ℕ) {s : Progress} {room₀ out₀ room out : List ℕ} (all xs xs' written : List ℕ)
    (t : 0 < full → ToPrint full room₀ out₀ all (after m full) (as_shown s) room out xs written) (f : 0 < full) where
  at_step : (j : ℕ) → after m full ≡ j → 0 < full → ToPrint full room₀ out₀ all j (as_shown s) room out xs written
  at_step j e f = subst (λ j. ToPrint full room₀ out₀ all j (as_shown s) room out xs written) e (t f)

  -- A further buffer.
  module _ {n : ℕ} (buffer : List ℕ) (size : length buffer ≡ full) (few : n ≤ full) (filled : full ≤ m)
      (x : xs ≡ take n buffer ++ xs') (short : ◌<◌ 1 2 → n < full → xs' ≡ []) where
    pub further_prints : {p : Progress} {room' out' : List ℕ} → Left (going_on s.decoder s.count (take n buffer) room out) p room' out' →
        ToPrint full room₀ out₀ all (after n full) (as_shown p) room' out' xs' (written ++ take p.length out')
    unfolding turning
    further_prints u = ran buffer size few (omega arith) all xs xs' written x short (at_step 1 (is_further m full filled)) f refl u

    pub further_out : {r : Refusal} → Refused (going_on s.decoder s.count (take n buffer) room out) r → Stepped full room₀ out₀ all (written ++ refused (number r))
    unfolding turning
    further_out u = ran_out buffer size few (omega arith) all xs xs' written x short (at_step 1 (is_further m full filled)) f u

  -- The end of the input.
  pub closed : m < full → xs ≡ [] ++ xs' → {n : ℕ} {out' : List ℕ} → Ends (closing s.decoder s.count room out) n out' → Stepped full room₀ out₀ all (written ++ take n out')
  unfolding turning
  closed short x u =
      stepped_out f (omega arith) (omega arith) x (λ z v. absurd (omega (arith, z))) (λ v. refl) (at_step 2 (is_last m full short) f) refl u

-- Before a step, with so many reads to come, of an input of which xs is left: at least 256 bytes were read for each read so far, but for the
-- last of all; behind the first step, the first line has at most 255 bytes.
pub record Far (step turns : ℕ) (all xs : List ℕ) : Type 0 where
  pub first : step ≡ 0 → (turns ≡ most) × (xs ≡ all)
  pub further : step ≡ 1 → (most - turns) * 256 + length xs ≤ length all
  pub last : step ≡ 2 → (most - turns) * 256 ≤ length all + 256
  pub line : 0 < step → step < 3 → length (first_line all) ≤ 255

far_start : (all : List ℕ) → Far 0 most all all
far_start all = record {
  first = λ _. (refl, refl);
  further = λ z. absurd (omega (arith, z));
  last = λ z. absurd (omega (arith, z));
  line = λ z _. absurd (omega (arith, z));
}

-- `Far` behind a buffer of n bytes that is not refused.
far_behind : (full n turns : ℕ) (all xs : List ℕ) → (full ≤ n → (most - turns) * 256 + length xs ≤ length all) →
    (n < full → (most - turns) * 256 ≤ length all + 256) → length (first_line all) ≤ 255 → Far (after n full) turns all xs
far_behind full n turns all xs more none line = split (ltb n full)
    (λ e. let short = ltb-true n full e in let two = is_last n full short in
    record { first = λ z. absurd (omega (arith, z, two)); further = λ z. absurd (omega (arith, z, two)); last = λ _. none short; line = λ _ _. line })
    (λ e. let filled = ltb-false n full e in let one = is_further n full filled in
    record { first = λ z. absurd (omega (arith, z, one)); further = λ _. more filled; last = λ z. absurd (omega (arith, z, one)); line = λ _ _. line })

-- Where the first buffer is not refused, the first line of the input has at most 255 bytes.
line_short : (b xs room out : List ℕ) → (length b < 256 → xs ≡ []) → (beginning b room out).shown.refusal ≡ 0 → length (first_line (b ++ xs)) ≤ 255
line_short b xs room out short z = split (ltb 255 (length (first_line b)))
    (λ e. let one = ap (λ (l : Leaves). l.shown.refusal) (at_long b room out (ltb-true 255 (length (first_line b)) e)) in absurd (omega (arith, z, one)))
    (λ e. let few = ltb-false 255 (length (first_line b)) e in rw (line_cut b xs short few).0 few)

-- A buffer of `full` bytes of which n were read.
module _ {full n : ℕ} (buffer : List ℕ) (size : length buffer ≡ full) (few : n ≤ full) (low : 256 ≤ full)
    (all xs xs' : List ℕ) (x : xs ≡ take n buffer ++ xs') where
  bytes : length xs ≡ n + length xs'
  bytes = ap length x ∙ length-append (take n buffer) xs' ∙ ap (λ k. k + length xs') (cut_size buffer size few)

  far_first : Far 0 most all xs → (n < full → xs' ≡ []) → (room out : List ℕ) {p : Progress} {room' out' : List ℕ} →
      Left (beginning (take n buffer) room out) p room' out' → Far (after n full) (most - 1) all xs'
  far_first t short room out u =
      let same = (t.first refl).1 in
      let line = line_short (take n buffer) xs' room out (λ k. short (omega (arith, k, cut_size buffer size few, low))) (ap (λ (s : Shown). s.refusal) (sym u.answer)) in
      far_behind full n (most - 1) all xs' (λ k. omega (arith, ap length same, bytes, k, low)) (λ k. omega arith)
      (subst (λ l. length (first_line l) ≤ 255) (sym x ∙ same) line)

  far_further : (m i : ℕ) → full ≤ m → i + 1 < most → Far (after m full) (most - 1 - i) all xs → Far (after n full) (most - 1 - (i + 1)) all xs'
  far_further m i filled left t =
      let one = is_further m full filled in
      let before = t.further one in
      far_behind full n (most - 1 - (i + 1)) all xs' (λ k. omega (arith, before, bytes, left, k, low)) (λ k. omega (arith, before, left))
      (t.line (omega (arith, one)) (omega (arith, one)))

-- Before a step: of an input the bytes xs are left, and some text is written. Where the input is printed whole, `Far` bounds the reads so far.
pub record State (full : ℕ) (room₀ out₀ all : List ℕ) (step : ℕ) (s : Shown) (room out : List ℕ) (turns : ℕ) (xs written : List ℕ) : Type 0 where
  pub prints : 0 < full → ToPrint full room₀ out₀ all step s room out xs written
  pub far : Whole full (length room₀) all → Far step turns all xs

-- Behind the first buffer and i further ones, n bytes having been read for the last of them.
abbrev pub StateAt : (full : ℕ) (room₀ out₀ : List ℕ) (n i : ℕ) (s : Progress) (room out all xs written : List ℕ) → Type 0
StateAt full room₀ out₀ n i s room out all xs written = State full room₀ out₀ all (after n full) (as_shown s) room out (most - 1 - i) xs written

-- Before the first step, behind the first buffer, and behind a further one.
pub starting : (full : ℕ) (s : Shown) (room out all : List ℕ) → State full room out all 0 s room out most all []
starting full s room out all = record { prints = λ _. starting_prints full s room out all; far = λ _. far_start all }

module _ {full n : ℕ} {room₀ out₀ room out : List ℕ} (buffer : List ℕ) (size : length buffer ≡ full) (few : n ≤ full)
    (all xs xs' written : List ℕ) (x : xs ≡ take n buffer ++ xs') {p : Progress} {room' out' : List ℕ} where
  pub first : {s : Shown} → (◌<◌ 0 2 → n < full → xs' ≡ []) → State full room₀ out₀ all 0 s room out most xs written →
      Left (beginning (take n buffer) room out) p room' out' → StateAt full room₀ out₀ n 0 p room' out' all xs' (written ++ take p.length out')
  first short t u = record {
    prints = λ f. first_prints buffer size few all xs xs' written x short t.prints f u;
    far = λ w. far_first buffer size few w.low all xs xs' x (t.far w) (short (omega arith)) room out u;
  }

  pub further : (m i : ℕ) {s : Progress} → full ≤ m → i + 1 < most → (◌<◌ 1 2 → n < full → xs' ≡ []) →
      StateAt full room₀ out₀ m i s room out all xs written → Left (going_on s.decoder s.count (take n buffer) room out) p room' out' →
      StateAt full room₀ out₀ n (i + 1) p room' out' all xs' (written ++ take p.length out')
  further m i filled left short t u = record {
    prints = λ f. further_prints m all xs xs' written t.prints f buffer size few filled x short u;
    far = λ w. far_further buffer size few w.low all xs xs' x m i filled left (t.far w);
  }

-- Behind the first buffer, and behind a further one.
pub first_turns : {full n : ℕ} (b room out : List ℕ) {p : Progress} {room' out' : List ℕ} → Left (beginning b room out) p room' out' → Turns full p.decoder n 0
first_turns b room out u = record { more = omega arith; filled = λ _. omega arith; taken = begun_taken b room out u }

pub further_turns : {full m n i : ℕ} {d : Decoder} (count : ℕ) (buffer room out : List ℕ) → 0 < full → length buffer ≡ full → n ≤ full → full ≤ m → Turns full d m i →
    {p : Progress} {room' out' : List ℕ} → Left (going_on d count (take n buffer) room out) p room' out' → Turns full p.decoder n (i + 1)
further_turns {full} {m} {n} {i} {d} count buffer room out f size few filled t u =
    let k = went_taken d count (take n buffer) room out u in
    let z = cut_size buffer size few in
    let past = t.filled filled in
    record { more = omega (arith, k.0, past); filled = λ v. omega (arith, k.0, z, past, v, f); taken = omega (arith, k.0, k.1) }

-- Where an input is known: a claim about all of it, what is left of it, and what is written.
abbrev pub Known : Option (List ℕ) → Option (List ℕ) → Option (List ℕ) → Option (List ℕ) → (List ℕ → List ℕ → List ℕ → Type 0) → Type 0
Known None r w₀ w P = Unit {0}
Known (Some all) None w₀ w P = ⊥
Known (Some all) (Some xs) w₀ w P = (written : List ℕ) × Appends w₀ w written × P all xs written

pub known_first : (r w : Option (List ℕ)) (P : List ℕ → List ℕ → List ℕ → Type 0) → ((all : List ℕ) → P all all []) → Known r r w w P
known_first None w P f = tt
known_first (Some all) w P f = ([], Appends-nil w, f all)

-- Behind a read of some bytes and a write of a text.
pub known_next : (r₀ r r' w₀ w w' : Option (List ℕ)) (step n full : ℕ) (b us : List ℕ) (P P' : List ℕ → List ℕ → List ℕ → Type 0) →
    Consumes r r' b → (step < 2 → n < full → IsAtEnd r') → Appends w w' us →
    ((all xs xs' written : List ℕ) → xs ≡ b ++ xs' → (step < 2 → n < full → xs' ≡ []) → P all xs written → P' all xs' (written ++ us)) →
    Known r₀ r w₀ w P → Known r₀ r' w₀ w' P'
known_next None r r' w₀ w w' step n full b us P P' c e a f k = tt
known_next (Some all) None r' w₀ w w' step n full b us P P' c e a f k = absurd k
known_next (Some all) (Some xs) None w₀ w w' step n full b us P P' c e a f k = absurd c
known_next (Some all) (Some xs) (Some xs') w₀ w w' step n full b us P P' c e a f k =
    (k.0 ++ us, Appends-trans w₀ w w' k.0 us k.1 a, f all xs xs' k.0 c e k.2)

pub known_end : (r₀ r w₀ w : Option (List ℕ)) (P : List ℕ → List ℕ → List ℕ → Type 0) (Q : Type 0) (C : List ℕ → List ℕ → Type 0) →
    ((all xs written : List ℕ) → P all xs written → Q → C all written) → Known r₀ r w₀ w P → IfSome r₀ (λ all. Q → (text : List ℕ) × C all text × Appends w₀ w text)
known_end None r w₀ w P Q C f k = tt
known_end (Some all) None w₀ w P Q C f k = absurd k
known_end (Some all) (Some xs) w₀ w P Q C f k = λ q. (k.0, f all xs k.0 k.2 q, k.1)

-- Behind a last write.
pub known_last : (r₀ r r' w₀ w w' : Option (List ℕ)) (step n full : ℕ) (b us : List ℕ) (P : List ℕ → List ℕ → List ℕ → Type 0) (Q : Type 0) (C : List ℕ → List ℕ → Type 0) →
    Consumes r r' b → (step < 2 → n < full → IsAtEnd r') → Appends w w' us →
    ((all xs xs' written : List ℕ) → xs ≡ b ++ xs' → (step < 2 → n < full → xs' ≡ []) → P all xs written → Q → C all (written ++ us)) →
    Known r₀ r w₀ w P → IfSome r₀ (λ all. Q → (text : List ℕ) × C all text × Appends w₀ w' text)
known_last r₀ r r' w₀ w w' step n full b us P Q C c e a f k =
    known_end r₀ r' w₀ w' (λ all xs written. Q → C all written) Q C (λ all xs written p q. p q)
    (known_next r₀ r r' w₀ w w' step n full b us P (λ all xs written. Q → C all written) c e a f k)

-- What is written for an input that is printed as a whole.
pub known_whole : (r₀ w₀ w : Option (List ℕ)) (full : ℕ) (room out : List ℕ) → IfSome r₀ (λ all. 0 < full → (text : List ℕ) × Stepped full room out all text × Appends w₀ w text) →
    IfSome r₀ (λ all. Whole full (length room) all → Appends w₀ w (printed all))
known_whole None w₀ w full room out k = tt
known_whole (Some all) w₀ w full room out k = λ v. let t = k (omega (arith, v.low)) in subst (Appends w₀ w) (sym (stepped_whole t.1 v)) t.2
