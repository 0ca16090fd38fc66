-- Whole sequences of UTF-8, and errors of one byte. Assumes nothing.
use mathlib.Core.Path.{◌≡◌, refl, sym, ◌∙◌}
use mathlib.Core.Bool.{true, false}
use mathlib.Core.List.{List, ◌∷◌}
use Prim.Native.Nat.{ℕ, ◌+◌, ◌-◌, ◌*◌, ◌≤◌, ◌<◌}
use native.Mathlib.Omega.{arith}
use lib.Dec.{eqb}
use lib.ListN.{length, drop, get_or}
use borrow.Author.Tests.{lt-ltb, eqb-true, eqb-false, ne_eqb}
use Rattle.standard.specs.Base.{within}
use Rattle.standard.specs.Encodings.{Tables, no_tables, UTF-8}
use Rattle.standard.specs.Leads.{lead_length}
use Rattle.standard.specs.Sequence.{Next, more, item, plain, scalar, bad}
use Rattle.standard.specs.Next.{next, unmarked}
use Rattle.standard.specs.Sequences.Utf8.{utf8, utf8_low, utf8_high}
use Rattle.standard.proofs.Tests.{split, within_low, within_high, in_range}
use Rattle.standard.proofs.Leads.{in_two, in_three, utf8_two_lem, utf8_three_lem, utf8_four_lem, utf8_none}
use Rattle.sequences.specs.Code.{item_of, front}
use Rattle.sequences.specs.declared.Sequence.{Sequence}
use Rattle.runs.specs.Run.{Gives}
use Rattle.runs.proofs.Running.{gives_scalar}
use Rattle.runs.proofs.Scalars.{gives_bad}
use Rattle.runs.proofs.Fronts.{front_four}

-- the number that three bytes have
abbrev three_bits : ℕ → ℕ → ℕ → ℕ
three_bits b c d = (b - 0xE0) * 4096 + (c - 0x80) * 64 + (d - 0x80)

-- whole sequences by the length of their lead, and errors of one byte
module _ (b : ℕ) (h : b < 256) (c : ℕ) (xs : List ℕ) where
  pub good_two : lead_length b ≡ 2 → within 0x80 c 0xBF ≡ true → utf8 (b ∷ c ∷ xs) ≡ scalar 2 ((b - 0xC0) * 64 + (c - 0x80))
  good_two e i = utf8_two_lem b h (c ∷ xs) e ∙ rw i

  good_three : (d : ℕ) → lead_length b ≡ 3 → within (utf8_low b) c (utf8_high b) ≡ true → within 0x80 d 0xBF ≡ true →
      utf8 (b ∷ c ∷ d ∷ xs) ≡ scalar 3 (three_bits b c d)
  good_three d e i j = utf8_three_lem b h (c ∷ d ∷ xs) e ∙ rw (i, j)

  pub good_four : (d f : ℕ) → lead_length b ≡ 4 →
      within (utf8_low b) c (utf8_high b) ≡ true → within 0x80 d 0xBF ≡ true → within 0x80 f 0xBF ≡ true →
      utf8 (b ∷ c ∷ d ∷ f ∷ xs) ≡ scalar 4 ((b - 0xF0) * 262144 + (c - 0x80) * 4096 + (d - 0x80) * 64 + (f - 0x80))
  good_four d f e i j l = utf8_four_lem b h (c ∷ d ∷ f ∷ xs) e ∙ rw (i, j, l)

  -- three bytes by their number: a second byte that is not allowed makes it too small, or a surrogate
  module _ (d : ℕ) (e : lead_length b ≡ 3) (i : within 0x80 c 0xBF ≡ true) (j : within 0x80 d 0xBF ≡ true)
      (low : 0x800 ≤ three_bits b c d) where
    allowed : (b ≡ 0xED → c ≤ 0x9F) → within (utf8_low b) c (utf8_high b) ≡ true
    unfolding utf8_low utf8_high
    allowed q =
        let b0 = within_low 0xE0 b 0xEF (in_three b h e) in
        let b1 = within_high 0xE0 b 0xEF (in_three b h e) in
        let c0 = within_low 0x80 c 0xBF i in
        let c1 = within_high 0x80 c 0xBF i in
        let d1 = within_high 0x80 d 0xBF j in
        split (eqb b 0xE0)
        (λ t.
        let z = eqb-true b 0xE0 t in
        rw (t, ne_eqb b 0xED (λ y. omega arith), ne_eqb b 0xF4 (λ y. omega arith)) (in_range 0xA0 c 0xBF (omega arith) c1))
        (λ t. split (eqb b 0xED)
        (λ s. let z = eqb-true b 0xED s in rw (t, ne_eqb b 0xF0 (λ y. omega arith), s) (in_range 0x80 c 0x9F c0 (q z)))
        (λ s. rw (t, ne_eqb b 0xF0 (λ y. omega arith), s, ne_eqb b 0xF4 (λ y. omega arith)) (in_range 0x80 c 0xBF c0 c1)))

    pub three_below : three_bits b c d < 0xD800 → utf8 (b ∷ c ∷ d ∷ xs) ≡ scalar 3 (three_bits b c d)
    three_below g = good_three d e (allowed (λ z. omega (arith, within_low 0x80 c 0xBF i))) j

    pub three_above : 0xDFFF < three_bits b c d → utf8 (b ∷ c ∷ d ∷ xs) ≡ scalar 3 (three_bits b c d)
    three_above g = good_three d e (allowed (λ z. absurd (omega (arith, within_high 0x80 c 0xBF i, within_high 0x80 d 0xBF j)))) j

  -- a first byte that leads nothing
  pub bad_first : 0x80 ≤ b → lead_length b ≡ 0 → utf8 (b ∷ c ∷ xs) ≡ bad 1
  bad_first l e = utf8_none b h (c ∷ xs) l (λ z. omega arith) (λ z. omega arith) (λ z. omega arith)

  bad_two : lead_length b ≡ 2 → within (utf8_low b) c (utf8_high b) ≡ false → utf8 (b ∷ c ∷ xs) ≡ bad 1
  unfolding utf8_low utf8_high
  bad_two e i =
      let b1 = within_high 0xC2 b 0xDF (in_two b h e) in
      let low = rw (ne_eqb b 0xE0 (λ z. omega arith), ne_eqb b 0xF0 (λ z. omega arith)) at i in
      let j = rw (ne_eqb b 0xED (λ z. omega arith), ne_eqb b 0xF4 (λ z. omega arith)) at low in
      utf8_two_lem b h (c ∷ xs) e ∙ rw j

  -- a second byte that does not follow, whatever the length
  pub bad_second : 0x80 ≤ b → within (utf8_low b) c (utf8_high b) ≡ false → utf8 (b ∷ c ∷ xs) ≡ bad 1
  bad_second l i =
      split (eqb (lead_length b) 2) (λ t. bad_two (eqb-true _ 2 t) i) (λ t.
      split (eqb (lead_length b) 3) (λ u. utf8_three_lem b h (c ∷ xs) (eqb-true _ 3 u) ∙ rw i) (λ u.
      split (eqb (lead_length b) 4) (λ v. utf8_four_lem b h (c ∷ xs) (eqb-true _ 4 v) ∙ rw i)
      (λ v. utf8_none b h (c ∷ xs) l (eqb-false _ 2 t) (eqb-false _ 3 u) (eqb-false _ 4 v))))

-- no mark is to be dropped
pub plain_utf8 : (t : Tables) (xs : List ℕ) → next t UTF-8 plain xs ≡ utf8 xs
unfolding next
plain_utf8 t xs = kept (utf8 xs)
  where
    kept : (a : Next) → unmarked false a ≡ a
    kept more = refl
    kept (item w s o) = refl

pub self_utf8 : (t : Tables) (b : ℕ) (ys : List ℕ) → b < 0x80 → next t UTF-8 plain (b ∷ ys) ≡ scalar 1 b
unfolding utf8
self_utf8 t b ys h = plain_utf8 t (b ∷ ys) ∙ rw (lt-ltb b 0x80 h)

-- no table is asked
pub any_tables : (t : Tables) → next t UTF-8 ≡ next no_tables UTF-8
unfolding next
any_tables t = λ i s xs. unmarked s.flag (utf8 xs)

-- a sequence in a run: one scalar, an error that is replaced, and what the code found of four bytes
module _ (m : ℕ) (xs : List ℕ) {k : ℕ} where
  pub gives_good : {r : ℕ} → utf8 xs ≡ scalar k r → Gives m (next no_tables UTF-8 plain xs) k plain r
  gives_good e = gives_scalar m (plain_utf8 no_tables xs ∙ e)

  pub gives_wrong : utf8 xs ≡ bad k → (m ≡ 1 → ⊥) → Gives m (next no_tables UTF-8 plain xs) k plain 0xFFFD
  gives_wrong e n = gives_bad m (plain_utf8 no_tables xs ∙ e) n

pub found_front : (q : Sequence) (chunk : List ℕ) (i : ℕ) → i + 4 ≤ length chunk → item_of q ≡ utf8 (front 4 (get_or chunk i 0) (get_or chunk (i + 1) 0) (get_or chunk (i + 2) 0) (get_or chunk (i + 3) 0)) →
    item_of q ≡ next no_tables UTF-8 plain (drop i chunk)
found_front q chunk i h e =
    e ∙ sym (plain_utf8 no_tables (front 4 (get_or chunk i 0) (get_or chunk (i + 1) 0) (get_or chunk (i + 2) 0) (get_or chunk (i + 3) 0))) ∙ front_four no_tables UTF-8 plain chunk i h
