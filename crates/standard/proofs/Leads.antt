-- The lead byte rule of UTF-8 (`specs/Leads.antt`) by one computed test over 256 bytes, and the sequences of UTF-8 by the length of their lead. Assumes nothing.
use mathlib.Core.Path.{◌≡◌, refl, sym, ◌∙◌}
use mathlib.Core.Bool.{Bool, true, false, ◌&&◌, ◌||◌, not}
use mathlib.Core.List.{List, ◌∷◌}
use Prim.Native.Nat.{ℕ, ◌≤◌, ◌<◌}
use native.Mathlib.Omega.{arith}
use lib.Count.{count_leading_zeros}
use lib.Dec.{eqb}
use borrow.Author.Tests.{not-true, le-ltb, eq-eqb, ne_eqb}
use Rattle.standard.specs.Base.{within}
use Rattle.standard.specs.Leads.{lead_length, how_many, how_many_lead, LeadRule}
use Rattle.standard.specs.Sequence.{await, bad}
use Rattle.standard.specs.Sequences.Utf8.{utf8, utf8_two, utf8_three, utf8_four}
use Rattle.standard.proofs.Tests.{and_left, and_right, within_low, above, not_ascii}
use Rattle.standard.proofs.Every.{upto, upto_at}

-- do two tests agree?
same : Bool → Bool → Bool
same true b = b
same false b = not b

agree : (a b : Bool) → same a b ≡ true → a ≡ b
unfolding same
agree true b e = sym e
agree false b e = sym (not-true b e)

-- the bytes that lead none
abbrev none : ℕ → Bool
none b = not (within 0xC2 b 0xDF || within 0xE0 b 0xEF || within 0xF0 b 0xF4)

-- a byte has this length exactly where it passes the test
fits : ℕ → (ℕ → Bool) → ℕ → Bool
fits length test b = same (eqb (lead_length b) length) (test b)

abbrev at_two : ℕ → Bool
at_two = fits 2 (λ b. within 0xC2 b 0xDF)

abbrev at_three : ℕ → Bool
at_three = fits 3 (λ b. within 0xE0 b 0xEF)

abbrev at_four : ℕ → Bool
at_four = fits 4 (λ b. within 0xF0 b 0xF4)

abbrev at_none : ℕ → Bool
at_none = fits 0 none

abbrev right : ℕ → Bool
right b = at_two b && at_three b && at_four b && at_none b

all_right : upto right 256 ≡ true
unfolding fits same lead_length count_leading_zeros
all_right = refl

exactly : (length : ℕ) (test : ℕ → Bool) (b : ℕ) → fits length test b ≡ true → eqb (lead_length b) length ≡ test b
unfolding fits
exactly length test b = agree (eqb (lead_length b) length) (test b)

module _ (b : ℕ) (h : b < 256) where
  all_four : at_two b && at_three b && at_four b && at_none b ≡ true
  all_four = upto_at right 256 all_right b h

  first_three : at_two b && at_three b && at_four b ≡ true
  first_three = and_left _ (at_none b) all_four

  first_two : at_two b && at_three b ≡ true
  first_two = and_left _ (at_four b) first_three

-- how many there are of each length
counts : (how_many_lead 2 ≡ 30) × (how_many_lead 3 ≡ 16) × (how_many_lead 4 ≡ 5) × (how_many_lead 0 ≡ 205)
unfolding lead_length count_leading_zeros how_many
counts = (refl, refl, refl, refl)

pub lead_rule : LeadRule
lead_rule = record {
  two = λ b h. exactly 2 _ b (and_left _ (at_three b) (first_two b h));
  three = λ b h. exactly 3 _ b (and_right (at_two b) _ (first_two b h));
  four = λ b h. exactly 4 _ b (and_right (at_two b && at_three b) _ (first_three b h));
  no_other = λ b h. exactly 0 none b (and_right (at_two b && at_three b && at_four b) _ (all_four b h));
  twos = counts.0;
  threes = counts.1;
  fours = counts.2;
  others = counts.3;
}

-- a lead, by its length
module _ (b : ℕ) (h : b < 256) where
  pub in_two : lead_length b ≡ 2 → within 0xC2 b 0xDF ≡ true
  in_two e = sym (lead_rule.two b h) ∙ eq-eqb (lead_length b) 2 e

  pub in_three : lead_length b ≡ 3 → within 0xE0 b 0xEF ≡ true
  in_three e = sym (lead_rule.three b h) ∙ eq-eqb (lead_length b) 3 e

  pub in_four : lead_length b ≡ 4 → within 0xF0 b 0xF4 ≡ true
  in_four e = sym (lead_rule.four b h) ∙ eq-eqb (lead_length b) 4 e

  -- the sequence that it leads
  module _ (xs : List ℕ) where
    pub utf8_two_lem : lead_length b ≡ 2 → utf8 (b ∷ xs) ≡ await xs (λ c xs. utf8_two b c)
    unfolding utf8
    utf8_two_lem e = rw (not_ascii 0xC2 b 0xDF (omega arith) (in_two e), in_two e)

    pub utf8_three_lem : lead_length b ≡ 3 → utf8 (b ∷ xs) ≡ await xs (λ c xs. utf8_three b c xs)
    unfolding utf8
    utf8_three_lem e = rw (not_ascii 0xE0 b 0xEF (omega arith) (in_three e), above 0xC2 b 0xDF (omega (arith, within_low 0xE0 b 0xEF (in_three e))), in_three e)

    pub utf8_four_lem : lead_length b ≡ 4 → utf8 (b ∷ xs) ≡ await xs (λ c xs. utf8_four b c xs)
    unfolding utf8
    utf8_four_lem e = rw (not_ascii 0xF0 b 0xF4 (omega arith) (in_four e), sym (lead_rule.two b h), sym (lead_rule.three b h), e, in_four e)

    pub utf8_none : 0x80 ≤ b → (lead_length b ≡ 2 → ⊥) → (lead_length b ≡ 3 → ⊥) → (lead_length b ≡ 4 → ⊥) → utf8 (b ∷ xs) ≡ bad 1
    unfolding utf8
    utf8_none l i j k = rw (le-ltb b 0x80 l, not_in 2 (lead_rule.two b h) i, not_in 3 (lead_rule.three b h) j, not_in 4 (lead_rule.four b h) k)
      where
        not_in : (n : ℕ) {t : Bool} → eqb (lead_length b) n ≡ t → (lead_length b ≡ n → ⊥) → t ≡ false
        not_in n e f = sym e ∙ ne_eqb (lead_length b) n f
