-- The walk over sequences: what holds at its loop's head, and what one turn does. Assumes nothing.
use mathlib.Core.Path.{◌≡◌, refl, sym, ap, ◌∙◌, subst}
use mathlib.Core.Bool.{true, false}
use mathlib.Core.List.{List, [], ◌∷◌, ◌++◌, append_assoc, append-nil}
use Prim.Native.Nat.{ℕ, ◌+◌, ◌-◌, ◌*◌, ◌≤◌}
use native.Mathlib.Omega.{arith}
use lib.Dec.{T}
use lib.ListN.{length, take, drop, length-append, length-drop}
use lib.Seq.{take_at, drop-append-add, drop-drop}
use Rattle.standard.specs.Encodings.{Tables, family}
use Rattle.standard.specs.Sequence.{Shift, Out, text, error, more}
use Rattle.standard.specs.Next.{next}
use Rattle.standard.specs.Decode.{span, Read, put, decode, widths}
use Rattle.standard.proofs.FamilyLaws.{keeps, next_laws}
use Rattle.standard.proofs.Walk.{at_item, decode_more, decode_item}
use Rattle.sequences.specs.Code.{out_of, shift_of, item_of}
use Rattle.sequences.specs.declared.Sequence.{Sequence}
use Rattle.replacements_spec.specs.Replaced.{Replaced, replaced, cells}
use Rattle.replacements_spec.proofs.Spans.{replaced_append, cells_append, cells_length}
use Rattle.replacements.specs.Walks.{at, noted, is_error, Adds}

-- what a sequence adds
adds_text : (place w : ℕ) (o : Out) → is_error o ≡ false → replaced place (span w o ∷ []) ≡ []
unfolding replaced
adds_text place w (text cs) h = refl
adds_text place w error h = absurd (subst T h tt)

adds_error : (place w : ℕ) (o : Out) → is_error o ≡ true → replaced place (span w o ∷ []) ≡ at place w ∷ []
unfolding replaced
adds_error place w (text cs) h = absurd (subst T (sym h) tt)
adds_error place w error h = refl

pub noted_text : (place : ℕ) (q : Sequence) → is_error (out_of q.out) ≡ false → noted place q ≡ []
noted_text place q h = adds_text place q.width (out_of q.out) h

pub noted_error : (place : ℕ) (q : Sequence) → is_error (out_of q.out) ≡ true → noted place q ≡ at place q.width ∷ []
noted_error place q h = adds_error place q.width (out_of q.out) h

noted_few : (place : ℕ) (o : Out) (w : ℕ) → length (replaced place (span w o ∷ [])) ≤ 1
unfolding replaced
noted_few place (text cs) w = omega arith
noted_few place error w = omega arith

module _ (t : Tables) (e from mark : ℕ) (s₀ : Shift) (xs spans₀ : List ℕ) where
  abbrev pub read_at : Shift → ℕ → Read
  read_at s at = decode (next t (family e)) s (drop at xs)

  -- What holds at the loop's head: `n` sequences are told, and what is told in all is those and the ones from here on.
  pub record Walking (spans : List ℕ) (at n : ℕ) (s : Shift) : Type 0 where
    pub inside : at ≤ length xs
    pub size : length spans ≡ length spans₀
    pub space : 2 * n + 2 * (length xs - at) ≤ length spans₀
    pub told : List Replaced
    pub count : n ≡ length told
    pub stands : spans ≡ cells told ++ drop (2 * n) spans₀
    pub wanted : replaced (from + mark) (read_at s₀ mark).items ≡ told ++ replaced (from + at) (read_at s at).items
    pub leaves : (read_at s₀ mark).shift ≡ (read_at s at).shift
    pub rest : (read_at s₀ mark).rest ≡ (read_at s at).rest

  pub start_walking : mark ≤ length xs → 2 * length xs ≤ length spans₀ → Walking spans₀ mark 0 s₀
  unfolding cells
  start_walking h k = record {
    inside = h;
    size = refl;
    space = omega arith;
    told = [];
    count = refl;
    stands = refl;
    wanted = refl;
    leaves = refl;
    rest = refl;
  }

  module _ {spans : List ℕ} {at n : ℕ} {s : Shift} (R : Walking spans at n s) where
    -- no whole sequence is left
    module _ (waits : next t (family e) s (drop at xs) ≡ more) where
      stops : read_at s at ≡ record { items = []; shift = s; rest = drop at xs }
      stops = decode_more (keeps (family e)) (next t (family e)) (next_laws t (family e)) s (drop at xs) waits

      all_told : replaced (from + mark) (read_at s₀ mark).items ≡ R.told
      unfolding replaced
      all_told = R.wanted ∙ ap (λ (r : Read). R.told ++ replaced (from + at) r.items) stops ∙ append-nil R.told

      pub turn_count : n ≡ length (replaced (from + mark) (read_at s₀ mark).items)
      turn_count = R.count ∙ ap length (sym all_told)

      pub turn_told : spans ≡ cells (replaced (from + mark) (read_at s₀ mark).items) ++ drop (2 * n) spans₀
      turn_told = R.stands ∙ ap (λ (rs : List Replaced). cells rs ++ drop (2 * n) spans₀) (sym all_told)

      pub turn_shift : s ≡ (read_at s₀ mark).shift
      turn_shift = sym (R.leaves ∙ ap (λ (r : Read). r.shift) stops)

      pub turn_rest : drop at xs ≡ (read_at s₀ mark).rest
      turn_rest = sym (R.rest ∙ ap (λ (r : Read). r.rest) stops)

    -- a whole sequence
    module _ (q : Sequence) (here : item_of q ≡ next t (family e) s (drop at xs)) where
      s' : Shift
      s' = shift_of q.shift

      pub turn_width : (1 ≤ q.width) × (at + q.width ≤ length xs)
      turn_width =
          let law = at_item (keeps (family e)) (next t (family e)) (next_laws t (family e)) s (drop at xs) (sym here) [] in
          (law.1, omega (arith, law.2, length-drop at xs, R.inside))

      reads : read_at s at ≡ put q.width (out_of q.out) (read_at s' (at + q.width))
      unfolding s'
      reads = decode_item (keeps (family e)) (next t (family e)) (next_laws t (family e)) s (drop at xs) (sym here) ∙
          ap (λ (ys : List ℕ). put q.width (out_of q.out) (decode (next t (family e)) s' ys)) (drop-drop q.width at xs)

      pub turn_space : 2 * n + 2 ≤ length spans
      turn_space = omega (arith, R.space, R.size, turn_width)

      pub turn_on : {m : ℕ} {after : List ℕ} → Adds spans n (noted (from + at) q) m after →
          Walking after (at + q.width) m (shift_of q.shift)
      unfolding s' widths
      turn_on {m} {after} a =
          let rs = noted (from + at) q in
          let len = cells_length R.told in
          let few = noted_few (from + at) (out_of q.out) q.width in
          let c : length (cells R.told) + 2 * length rs ≡ 2 * (n + length rs) = omega (arith, len, R.count) in
          let front : take (2 * n) spans ≡ cells R.told =
          ap (take (2 * n)) R.stands ∙ take_at (cells R.told) (drop (2 * n) spans₀) (2 * n) (omega (arith, len, R.count)) in
          let twice : 2 * n + 2 * length rs ≡ 2 * (n + length rs) = omega arith in
          let on : from + at + (q.width + 0) ≡ from + (at + q.width) = omega arith in
          let back : drop (2 * (n + length rs)) spans ≡ drop (2 * (n + length rs)) spans₀ =
          ap (λ (i : ℕ). drop i spans) (sym c) ∙ ap (drop (length (cells R.told) + 2 * length rs)) R.stands ∙
          drop-append-add (cells R.told) (drop (2 * n) spans₀) (2 * length rs) ∙ drop-drop (2 * length rs) (2 * n) spans₀ ∙
          ap (λ (i : ℕ). drop i spans₀) twice in
          let stands : after ≡ cells (R.told ++ rs) ++ drop (2 * m) spans₀ =
          a.told ∙ rw (front, back, cells_append R.told rs, a.count) (sym (append_assoc (cells R.told) (cells rs) _)) in
          record {
            inside = turn_width.1;
            size = ap length stands ∙ length-append (cells (R.told ++ rs)) (drop (2 * m) spans₀) ∙
                omega (
                  arith,
                  cells_length (R.told ++ rs),
                  length-append R.told rs,
                  length-drop
                      (2 * m) spans₀,
                  a.count,
                  R.count,
                  R.space,
                  few,
                  turn_width,
                );
            space = omega (arith, a.count, few, R.space, turn_width);
            told = R.told ++ rs;
            count = a.count ∙ omega (arith, R.count, length-append R.told rs);
            stands = stands;
            wanted = R.wanted ∙ ap (λ (r : Read). R.told ++ replaced (from + at) r.items) reads ∙
                ap (λ (l : List Replaced). R.told ++ l)
                (replaced_append (from + at) (span q.width (out_of q.out) ∷ []) (read_at s' (at + q.width)).items ∙
                ap (λ (k : ℕ). rs ++ replaced k (read_at s' (at + q.width)).items) on) ∙
                sym (append_assoc R.told rs _);
            leaves = R.leaves ∙ ap (λ (r : Read). r.shift) reads;
            rest = R.rest ∙ ap (λ (r : Read). r.rest) reads;
          }
