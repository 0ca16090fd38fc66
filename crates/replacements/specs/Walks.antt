-- What the functions within the calls answer. A wrong line here would break a proof. Assumes nothing.
use Rattle.std.specs.Prelude.{◌≡◌, Bool, false, ◌||◌, List, [], ◌∷◌, ◌++◌, ℕ, ◌+◌, ◌*◌, ◌≤◌, eqb, length, take, drop}
use Rattle.standard.specs.Encodings.{Tables, family}
use Rattle.standard.specs.Sequence.{shift}
use Rattle.standard.specs.Items.{span, Read, shown}
use Rattle.standard.specs.Next.{next}
use Rattle.standard.specs.Decode.{decode}
pub use Rattle.sequences.specs.Code.{is_error}
use Rattle.sequences.specs.Code.{out_of}
use Rattle.sequences.specs.declared.Sequence.{Sequence}
use Rattle.decoder.specs.Calls.{feed_refusal, read_on, finish_refusal}
use Rattle.decoder.specs.declared.Decoder.{Decoder}
use Rattle.replacements_spec.specs.Replaced.{Replaced, replaced, cells}
use Rattle.replacements.specs.declared.Walked.{Walked}

-- Is U+FFFD among some scalars?
unfoldable pub replacing : List ℕ → Bool
replacing [] = false
replacing (c ∷ cs) = eqb c 0xFFFD || replacing cs

-- One replaced sequence.
abbrev pub at : ℕ → ℕ → Replaced
at place width = record { place = place; width = width }

-- The replaced sequence that a sequence is, if it is an error: none, or one.
abbrev pub noted : ℕ → Sequence → List Replaced
noted place q = replaced place (span q.width (out_of q.out) ∷ [])

-- What is read by encoding e from a shift on.
abbrev pub read_by : Tables → ℕ → ℕ → ℕ → List ℕ → Read
read_by t e state flag xs = decode (next t (family e)) (shift state (eqb flag 1)) xs

-- A walk over the sequences behind `mark` bytes of xs, `from` bytes standing before xs.
pub record Walks (t : Tables) (e state flag from mark : ℕ) (xs spans : List ℕ) (r : Walked) (after : List ℕ) : Type 0 where
  pub count : r.count ≡ length (replaced (from + mark) (read_by t e state flag (drop mark xs)).items)
  pub told : after ≡ cells (replaced (from + mark) (read_by t e state flag (drop mark xs)).items) ++ drop (2 * r.count) spans
  pub leaves : shift r.state (eqb r.flag 1) ≡ (read_by t e state flag (drop mark xs)).shift
  pub rest : drop r.at xs ≡ (read_by t e state flag (drop mark xs)).rest
  pub inside : r.at ≤ length xs

-- Replaced sequences told behind n others; the rest of the spans is as it was.
pub record Adds (spans : List ℕ) (n : ℕ) (rs : List Replaced) (next : ℕ) (after : List ℕ) : Type 0 where
  pub count : next ≡ n + length rs
  pub told : after ≡ take (2 * n) spans ++ (cells rs ++ drop (2 * (n + length rs)) spans)

-- A feed that is accepted, with the scalars that it wrote, and spans with room for all.
pub record Fed (d : Decoder) (t : Tables) (chunk spans scalars : List ℕ) : Type 0 where
  pub accepted : (room : List ℕ) × (feed_refusal d t chunk room ≡ 0)
  pub space : 2 * (length chunk + d.held) ≤ length spans
  pub wrote : (d.mode ≡ 1 → ⊥) → scalars ≡ shown (read_on d t chunk).items

-- A finish that is accepted, and spans with room for all.
pub record Finished (d : Decoder) (t : Tables) (spans : List ℕ) : Type 0 where
  pub accepted : (room : List ℕ) × (finish_refusal d t room ≡ 0)
  pub space : 2 * d.held ≤ length spans
