-- What is proved of the program: read through buffers, any input gives what document 01 says of the whole. Assumes nothing.
use Rattle.std.specs.Prelude.{◌≡◌, List, [], ◌∷◌, ◌++◌, ℕ, ◌≤◌, ◌<◌, length}
use Rattle.standard.specs.Text.{bytes}
use Rattle.standard.specs.Encodings.{no_tables}
use Rattle.decoder.specs.Calls.{feed_refusal}
use Rattle.showtext.specs.Output.{after_line, printed}
use Rattle.showtext.specs.Program.{Shown, program, by_step}

-- Buffers joined.
unfoldable pub joined : List (List ℕ) → List ℕ
joined [] = []
joined (b ∷ bs) = b ++ joined bs

-- Each has at most 4,096 bytes.
unfoldable pub Small : List (List ℕ) → Type 0
Small [] = Unit
Small (b ∷ bs) = (length b ≤ 4096) × Small bs

-- Each buffer but the last has `full` bytes, and the last one has fewer.
unfoldable pub Filled : ℕ → List ℕ → List (List ℕ) → Type 0
Filled full b [] = length b < full
Filled full b (c ∷ bs) = (length b ≡ full) × Filled full c bs

-- An input that the steps print as a whole, through a buffer of `full` bytes and a room of so many cells.
pub record Whole (full room : ℕ) (input : List ℕ) : Type 0 where
  pub low : 256 ≤ full
  pub high : full ≤ 4096
  pub cells : 4099 ≤ room
  pub bytes : length (after_line input) ≤ 4294967295

-- The text that the steps print of an input, however long: it is cut into buffers of `full` bytes, of which only the last has fewer, and
-- behind them stands the empty one of the last step.
pub record Stepped (full : ℕ) (room out input text : List ℕ) : Type 0 where
  pub first : List ℕ
  pub rest : List (List ℕ)
  pub filled : Filled full first rest
  pub whole : first ++ joined rest ≡ input
  pub steps : (s : Shown) → by_step full 0 s room out (first ∷ rest ++ ([] ∷ [])) ≡ text

-- For every room of at least 4,099 cells, every out, and all buffers of which the first has at least 256 bytes or is the whole input,
-- with no more bytes behind the first line than a decoder takes.
pub record Prints : Type 0 where
  pub whole :
      (room out first : List ℕ) (bs : List (List ℕ)) →
      4099 ≤ length room →
      (length first < 256 → bs ≡ []) →
      Small (first ∷ bs) →
      length (after_line (first ++ joined bs)) ≤ 4294967295 →
      program room out first bs ≡ printed (first ++ joined bs)
  -- the steps, through a buffer that is filled before each
  pub steps :
      (full : ℕ) (s : Shown) (room out first : List ℕ) (bs : List (List ℕ)) →
      4099 ≤ length room →
      256 ≤ full →
      full ≤ 4096 →
      Filled full first bs →
      length (after_line (first ++ joined bs)) ≤ 4294967295 →
      by_step full 0 s room out (first ∷ bs ++ ([] ∷ [])) ≡ printed (first ++ joined bs)
  -- of a longer input: a buffer that the decoder does not take any more gives the last line
  pub too_much :
      (full : ℕ) (s : Shown) (room out b : List ℕ) (bs : List (List ℕ)) →
      feed_refusal s.decoder no_tables b room ≡ 14 →
      by_step full 1 s room out (b ∷ bs) ≡ bytes "refused\t14\n"
  -- document 01's example, and a missing table with an empty rest
  pub example :
      printed (bytes " Latin1\n" ++ (0x80 ∷ 0x09 ∷ 0x41 ∷ [])) ≡
      bytes "encoding\twindows-1252\n0\tU+20AC\n1\tU+0009\n2\tU+0041\nend\t3\n"
  pub missing : printed (bytes "big5") ≡ bytes "refused\t4\n"
