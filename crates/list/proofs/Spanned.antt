-- The line at a place of a text: where it stops and where the next one begins, and the lines behind it. Assumes nothing.
use Rattle.std.proofs.Common.{◌≡◌, refl, sym, ap, ◌∙◌, ℕ, ◌+◌, ◌-◌, ◌<◌, ◌≤◌, List, length, take, drop, arith, length-take, length-drop}
use Rattle.std.proofs.lemmas.List.{take_rest}
use lib.ListN.{get_or}
use Rattle.std.proofs.lemmas.Slice.{between_is}
use borrow.Author.Tests.{eq-eqb, ne_eqb, lt-ltb, le-ltb}
use Rattle.list_spec.specs.Lines.{LF, CR, before}
use Rattle.list_spec.specs.Spans.{end_at, stop_at, span, span_at}
use Rattle.list_spec.specs.declared.Span.{Span}
use Rattle.list_spec.proofs.Parts.{slice_all}
use Rattle.list_spec.proofs.Lies.{end, stop, low, high, ends, next}
use Rattle.list.specs.Walking.{LineAt}

pub span_none : (text : List ℕ) (a : ℕ) → length text ≤ a → span a a ≡ span_at text a
unfolding span_at
span_none text a h = simp (le-ltb a (length text) h)

-- k characters stand from the place a on in front of the first line feed, or of the end
module _ (text : List ℕ) (a : ℕ) (h : a < length text) where
  abbrev rest : List ℕ
  rest = take (length text - a) (drop a text)

  size : length rest ≡ length text - a
  size = omega (arith, ap length (take_rest text a), length-drop a text)

  module _ (k : ℕ) (e : k ≡ before LF rest) where
    ended : end_at text a ≡ a + k
    unfolding end_at
    ended = ap (λ (l : List ℕ). a + before LF l) (slice_all a text ∙ sym (take_rest text a)) ∙ ap (λ (i : ℕ). a + i) (sym e)

    pub span_to : (z : ℕ) → z ≡ stop_at text a (a + k) → span z (a + k + 1) ≡ span_at text a
    unfolding span_at
    span_to z d = simp (lt-ltb a (length text) h, ended, d)

    module _ (g : k < length rest) where
      open_end : a + k ≡ length text → ⊥
      open_end q = omega (arith, size)

      pub stop_empty : k ≤ 0 → a + k ≡ stop_at text a (a + k)
      unfolding stop_at
      stop_empty q = simp (ne_eqb (a + k) (length text) open_end, eq-eqb (a + k) a (omega arith))

      module _ (p : 0 < k) where
        pub stop_return : get_or text (a + k - 1) 0 ≡ CR → a + k - 1 ≡ stop_at text a (a + k)
        unfolding stop_at
        stop_return q = simp (ne_eqb (a + k) (length text) open_end, ne_eqb (a + k) a (λ i. omega arith), eq-eqb (get_or text (a + k - 1) 0) CR q)

        pub stop_plain : (get_or text (a + k - 1) 0 ≡ CR → ⊥) → a + k ≡ stop_at text a (a + k)
        unfolding stop_at
        stop_plain q = simp (ne_eqb (a + k) (length text) open_end, ne_eqb (a + k) a (λ i. omega arith), ne_eqb (get_or text (a + k - 1) 0) CR q)

  pub span_end : before LF rest ≡ length rest → span (length text) (length text + 1) ≡ span_at text a
  unfolding stop_at
  span_end q =
      let z : a + before LF rest ≡ length text = omega (arith, size) in
      ap (λ (i : ℕ). span (length text) (i + 1)) (sym z) ∙
      span_to (before LF rest) refl (length text) (sym (simp (eq-eqb (a + before LF rest) (length text) z) z))

-- where a line lies
pub record Inside (text : List ℕ) (a : ℕ) (l : Span) : Type 0 where
  pub low : a ≤ l.stop
  pub high : l.stop ≤ length text
  pub on : a < l.next

-- the line n at a place, as the walk gives it
module _ (text : List ℕ) (n a : ℕ) (l : Span) (h : a < length text) (e : l ≡ span_at text a) where
  is : l ≡ span (stop text a) (end text a + 1)
  unfolding span_at
  is = e ∙ simp (lt-ltb a (length text) h)

  pub inside : Inside text a l
  inside =
      let s = ends text a h in
      rw is (record { low = s.low; high = omega (arith, s.high, high text a h); on = omega (arith, low text a h) })

  pub spanned : (b : ℕ) → b ≡ l.next → LineAt text n a n a (take (l.stop - a) (drop a text)) (n + 1) b
  spanned b d =
      let s = ends text a h in
      let z = stop text a in
      let long : length (take (z - a) (drop a text)) ≡ z - a =
      omega (arith, length-take (z - a) (drop a text), length-drop a text, s.low, s.high, high text a h) in
      let to : a + length (take (z - a) (drop a text)) ≡ z = omega (arith, long, s.low) in
      rw (d, is) (record {
        starts = refl;
        lies = record { within = omega (arith, to, s.high, high text a h); are = rw to (between_is text a z) };
        behind = omega (arith, to, s.high);
        near = omega (arith, high text a h);
        turn = rw to (next text n a h);
      })
