-- The lead bytes of UTF-8 by their leading one bits, and the statement that they are document 01's; `proofs/Leads.antt` proves it. Assumes nothing.
use Rattle.std.specs.Prelude.{◌≡◌, Bool, ◌||◌, not, ℕ, zero, suc, ◌+◌, ◌-◌, ◌<◌, eqb}
use Rattle.std.specs.Int.Count.{count_leading_zeros}
use Rattle.standard.specs.Base.{◌then◌else◌, within}

-- the number of leading one bits of a byte: the leading zeros of its complement
abbrev pub leading_ones : ℕ → ℕ
leading_ones b = count_leading_zeros 8 (0xFF - b)

-- The length of the sequence that a byte leads: its number of leading one bits.
-- 0 where it leads none: ASCII, and 80 to BF, whose one leading bit is no length; C0, C1 and F5 to FF, which never occur.
unfoldable pub lead_length : ℕ → ℕ
lead_length b = within 0xC2 b 0xF4 then leading_ones b else 0

-- how many numbers below n pass the test
unfoldable pub how_many : (ℕ → Bool) → ℕ → ℕ
how_many p zero = 0
how_many p (suc n) = (p n then 1 else 0) + how_many p n

abbrev pub how_many_lead : ℕ → ℕ
how_many_lead length = how_many (λ b. eqb (lead_length b) length) 256

-- Document 01, "UTF-8": leads C2-DF, E0-EF, F0-F4 with 1, 2, 3 bytes more. These have that length, and no other byte has one.
pub record LeadRule : Type 0 where
  pub two : (b : ℕ) → b < 256 → eqb (lead_length b) 2 ≡ within 0xC2 b 0xDF
  pub three : (b : ℕ) → b < 256 → eqb (lead_length b) 3 ≡ within 0xE0 b 0xEF
  pub four : (b : ℕ) → b < 256 → eqb (lead_length b) 4 ≡ within 0xF0 b 0xF4
  pub no_other : (b : ℕ) → b < 256 → eqb (lead_length b) 0 ≡ not (within 0xC2 b 0xDF || within 0xE0 b 0xEF || within 0xF0 b 0xF4)
  -- of 256 bytes 51 are leads
  pub twos : how_many_lead 2 ≡ 30
  pub threes : how_many_lead 3 ≡ 16
  pub fours : how_many_lead 4 ≡ 5
  pub others : how_many_lead 0 ≡ 205
