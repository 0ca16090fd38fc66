-- Document 01, "Index line": the grammar of a line. Assumes nothing.
use Rattle.std.specs.Prelude.{◌≡◌, Bool, true, ◌||◌, List, [], ◌∷◌, ◌++◌, ℕ, ◌+◌, ◌-◌, ◌*◌, ltb, eqb, length, replicate}
use Rattle.standard.specs.Base.{◌then◌else◌, within, every, mapped}

-- A decimal digit: 0-9.
abbrev pub decimal : ℕ → Bool
decimal b = within 0x30 b 0x39

-- A hexadecimal digit: 0-9 and A-F.
abbrev pub hexadecimal : ℕ → Bool
hexadecimal b = within 0x30 b 0x39 || within 0x41 b 0x46

-- The number that a digit stands for.
abbrev pub digit : ℕ → ℕ
digit b = ltb b 0x41 then b - 0x30 else b - 0x41 + 10

-- The number that digits stand for in a base, where those before them give n.
unfoldable pub value : ℕ → ℕ → List ℕ → ℕ
value base n [] = n
value base n (b ∷ bs) = value base (n * base + digit b) bs

-- What may stand behind the code point: the end, or a tab and anything.
abbrev pub ending : List ℕ → Bool
ending [] = true
ending (b ∷ bs) = eqb b 0x09

-- No entry: the empty line, and a line that starts with `#`.
pub data NoEntry : List ℕ → Type 0 where
  empty : NoEntry []
  comment : (bs : List ℕ) → NoEntry (0x23 ∷ bs)

-- An entry, pointer p and code point c: spaces or none, 1 to 7 decimal digits, a tab, `0x`, 4 to 6 hexadecimal digits, and the ending.
-- The code point is a scalar of at least 0x80.
pub record Entry (line : List ℕ) (p c : ℕ) : Type 0 where
  pub spaces : ℕ
  pub pointer : List ℕ
  pub code : List ℕ
  pub rest : List ℕ
  pub parts : line ≡ replicate spaces 0x20 ++ (pointer ++ (0x09 ∷ 0x30 ∷ 0x78 ∷ (code ++ rest)))
  pub decimals : every decimal pointer ≡ true
  pub one_to_seven : within 1 (length pointer) 7 ≡ true
  pub hexadecimals : every hexadecimal code ≡ true
  pub four_to_six : within 4 (length code) 6 ≡ true
  pub closes : ending rest ≡ true
  pub pointer_value : value 10 0 pointer ≡ p
  pub code_value : value 16 0 code ≡ c
  pub is_mapped : mapped c ≡ true
