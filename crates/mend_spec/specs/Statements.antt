-- What is proved of the program: read through buffers, any input and index file give what document 02 says of the whole. Assumes nothing.
use Rattle.std.specs.Prelude.{◌≡◌, true, List, [], ◌∷◌, ◌++◌, ℕ, ◌+◌, ◌*◌, ◌≤◌, ◌<◌, length, replicate}
use Rattle.std.proofs.Math.Option.{Option, none}
use Rattle.standard.specs.Text.{bytes}
use Rattle.standard.specs.Encodings.{family, Tables, fits, lent}
use Rattle.decoder.specs.Calls.{opening}
use Rattle.replacements_spec.specs.Statements.{Piece, joined}
use Rattle.mend_spec.specs.Mended.{Streams, mended_text, mended}
use Rattle.mend_spec.specs.Program.{text_by, program}

-- Rooms of three cells more than the buffer, spans of two cells for each, and buffers that may be fed.
unfoldable pub Roomy : List Piece → List ℕ → List ℕ → Type 0
Roomy [] room spans = (3 ≤ length room) × (6 ≤ length spans)
Roomy (p ∷ ps) room spans =
    (length p.chunk ≤ 65536) × (length p.chunk + 3 ≤ length p.room) × (2 * (length p.chunk + 3) ≤ length p.spans) ×
    Roomy ps room spans

pub record Mends : Type 0 where
  -- whatever the buffers, and however long the text
  pub text : (t : Tables) (e : ℕ) (ps : List Piece) (room spans : List ℕ) → e ≤ 39 → fits (family e) t ≡ true → Roomy ps room spans →
      text_by t (opening e 0 0).decoder ps room spans ≡ mended_text t e (joined ps)
  -- the whole program, for any input and index file: the first buffer has at least 256 bytes, or is the whole input
  pub whole : (file : Option (List ℕ)) (first : Piece) (ps : List Piece) (room spans : List ℕ) → (length first.chunk < 256 → ps ≡ []) →
      Roomy (first ∷ ps) room spans → program file first ps room spans ≡ mended file (first.chunk ++ joined ps)
  -- document 02's example in Shift_JIS, with no cell mapped and with all
  pub example : ◌≡◌ {A = Streams} (mended_text (lent (replicate 11280 0) []) 34 (0x41 ∷ 0x82 ∷ 0x22 ∷ []))
      (record { output = 0x41 ∷ 0xEF ∷ 0xBF ∷ 0xBD ∷ 0x22 ∷ []; report = bytes "1\t1\tU+FFFD\n" })
  pub example_mapped : ◌≡◌ {A = Streams} (mended_text (lent (replicate 11280 0x3042) []) 34 (0x41 ∷ 0x82 ∷ 0x22 ∷ []))
      (record { output = 0x41 ∷ 0xEF ∷ 0xBF ∷ 0xBD ∷ 0x22 ∷ []; report = bytes "1\t1\tU+FFFD\n" })
  -- the refusals before the text: an unknown label, encodings that are not taken, a file that cannot be opened
  pub unknown : ◌≡◌ {A = Streams} (mended none (bytes "none\nA")) (record { output = []; report = bytes "refused\t1\n" })
  pub not_taken : ◌≡◌ {A = Streams} (mended none (bytes "big5\nA")) (record { output = []; report = bytes "refused\t4\n" })
  pub replacement : ◌≡◌ {A = Streams} (mended none (bytes "replacement\nA")) (record { output = []; report = bytes "refused\t9\n" })
  pub no_file : ◌≡◌ {A = Streams} (mended none (bytes "sjis\nA")) (record { output = []; report = bytes "refused\t4\n" })
  -- windows-1252 opens no file
  pub built_in : ◌≡◌ {A = Streams} (mended none (bytes "latin1\n" ++ 0x80 ∷ [])) (record { output = 0xE2 ∷ 0x82 ∷ 0xAC ∷ []; report = [] })
