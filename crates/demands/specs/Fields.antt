-- Document 02, Ask 13, "after the next tab all is well": for the encodings of demand 3's first part, in replacing mode, the mark kept, the
-- same tables throughout. A byte below 0x30 parts an input: what stands behind it is read as if nothing had stood before. Assumes nothing.
use Rattle.std.specs.Prelude.{◌≡◌, List, [], ◌∷◌, ◌++◌, ℕ, ◌+◌, length, replicate}
use Rattle.std.proofs.Math.Option.{Option, some, none}
use Rattle.standard.specs.Base.{Bytes, line_feeds}
use Rattle.standard.specs.Encodings.{family, Tables}
use Rattle.standard.specs.Machine.{replacement, Ran}
use Rattle.standard.specs.Standard.{standard, SoFar, standard_so_far}
use Rattle.decoder.specs.Record.{holding, new_spot}
use Rattle.demands.specs.Histories.{Call, feed, after, start}
use Rattle.demands.specs.Statements.{Piece, joined, cutting, account, Accepts, AllFeeds}
use Rattle.demands.specs.Samples.{gives}

-- What an accepted cutting of some bytes hands out, from a fresh decoder through its finish: replacing mode 0, rule 1 keep.
abbrev pub handed_by : Tables → ℕ → List Piece → List ℕ → List ℕ
handed_by t e ps last = (account (start e 0 1) (cutting t ps last)).handed

-- What 000's machine puts out for a part of the input, and then for the rest, joined.
abbrev pub behind : Option SoFar → Option Ran → Option (List ℕ)
behind none r = none
behind (some x) none = none
behind (some x) (some r) = some (x.output ++ r.output)

abbrev pub output_of : Option Ran → Option (List ℕ)
output_of none = none
output_of (some r) = some r.output

-- Of an input that a byte b parts, xs before it and ys behind it. The calls cs feed all up to and with that byte, in any way, refused
-- calls among them, and do not finish.
pub record Fields (t : Tables) (e : ℕ) (xs : List ℕ) (b : ℕ) (ys : List ℕ) : Type 0 where
  -- what the whole gives is what the part gives without a finish, followed by what a fresh decoder gives for the rest, however all is cut
  pub by_calls : (cs : List Call) → AllFeeds t cs → (after (start e 0 1) cs).taken ≡ xs ++ b ∷ [] →
      (ps qs : List Piece) (last last' : List ℕ) → joined ps ≡ xs ++ b ∷ ys → joined qs ≡ ys →
      Accepts t (start e 0 1) ps last → Accepts t (start e 0 1) qs last' →
      handed_by t e ps last ≡ (after (start e 0 1) cs).handed ++ handed_by t e qs last'
  -- the decoder after the part is a new one but for its totals
  pub as_new : (cs : List Call) → AllFeeds t cs → (after (start e 0 1) cs).taken ≡ xs ++ b ∷ [] →
      (after (start e 0 1) cs).decoder ≡ holding e 0 (length xs + 1) (line_feeds (after (start e 0 1) cs).handed) (new_spot e 1) []
  -- the same of 000's machine
  pub by_standard : Bytes (xs ++ b ∷ ys) →
      output_of (standard t (family e) replacement (xs ++ b ∷ ys)) ≡
      behind (standard_so_far t (family e) (xs ++ b ∷ [])) (standard t (family e) replacement ys)

-- Two inputs that agree from a line feed on, cut in any way: the same characters from there on, behind a line feed.
pub record SameLines (t : Tables) (e : ℕ) (xs xs' ys : List ℕ) : Type 0 where
  pub fronts : (ps ps' : List Piece) (last last' : List ℕ) → joined ps ≡ xs ++ 0x0A ∷ ys → joined ps' ≡ xs' ++ 0x0A ∷ ys →
      Accepts t (start e 0 1) ps last → Accepts t (start e 0 1) ps' last' →
      (cs : List ℕ) × (cs' : List ℕ) × (rest : List ℕ) ×
      (handed_by t e ps last ≡ cs ++ 0x0A ∷ rest) × (handed_by t e ps' last' ≡ cs' ++ 0x0A ∷ rest)

-- The limit of it: a byte 0x30 to 0x39 parts nothing. gb18030 with no cell mapped and one range, from pointer 0 and U+0080 on: the bytes
-- 81 30 81 30 are one character. The part 81 30 gives nothing, since it is held, and a fresh decoder gives U+FFFD for the rest.
abbrev pub one_range : Tables
one_range = record { first = replicate 23940 0; second = 0 ∷ 0x80 ∷ [] }

abbrev pub half : List ℕ
half = 0x81 ∷ 0x30 ∷ []

pub record DigitsSwallowed : Type 0 where
  pub whole : gives 30 1 one_range (half ++ half) (0x80 ∷ [])
  pub part : (after (start 30 0 1) (feed half one_range (replicate 5 0) ∷ [])).handed ≡ []
  pub rest : gives 30 1 one_range half (0xFFFD ∷ [])
  pub not_parted : Fields one_range 30 (0x81 ∷ []) 0x30 half → ⊥
