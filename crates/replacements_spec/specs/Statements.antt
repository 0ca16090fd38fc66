-- What is proved of the replaced sequences that calls tell: any cutting tells those of the whole input, and they and the text share the
-- bytes out. Assumes nothing.
use Rattle.std.specs.Prelude.{◌≡◌, ◌↔◌, ◌&&◌, List, [], ◌∷◌, ◌++◌, ℕ, suc, ◌+◌, ◌*◌, ◌≤◌, ◌<◌, ltb, leb, length, take, replicate}
use Rattle.standard.specs.Base.{◌then◌else◌}
use Rattle.standard.specs.Encodings.{Tables, lent}
use Rattle.standard.specs.Sequence.{Out, text, error}
use Rattle.standard.specs.Items.{Item, span}
use Rattle.standard.specs.Choice.{everything_from}
use Rattle.decoder.specs.Record.{new_spot}
use Rattle.decoder.specs.declared.Decoder.{Decoder}
use Rattle.demands.specs.Histories.{start}
use Rattle.demands.specs.Statements.{cutting, reports}
use Rattle.demands.specs.Statements.{Piece as Feed, joined as joined_feeds, Accepts as AcceptsFeeds}
use Rattle.replacements_spec.specs.Replaced.{Replaced, replaced, cells}
use Rattle.replacements_spec.specs.Calls.{Handed, feed_tell_refusal, feed_telling, finish_tell_refusal, finish_telling}

-- A chunk, with the room and the spans that are lent for it, and the chunks joined.
pub record Piece : Type 0 where
  pub chunk : List ℕ
  pub room : List ℕ
  pub spans : List ℕ

unfoldable pub joined : List Piece → List ℕ
joined [] = []
joined (p ∷ ps) = p.chunk ++ joined ps

-- What a call tells: two cells for each replaced sequence, at the front of the spans.
abbrev pub told : Handed → List ℕ
told h = take (2 * h.answer.count) h.spans

abbrev pub fed : Tables → Decoder → Piece → Handed
fed t d p = feed_telling d t p.chunk p.room p.spans

-- What feeds with the tables t, and then a finish, tell in all.
unfoldable pub told_by : Tables → Decoder → List Piece → List ℕ → List ℕ → List ℕ
told_by t d [] room spans = told (finish_telling d t room spans)
told_by t d (p ∷ ps) room spans = told (fed t d p) ++ told_by t (fed t d p).answer.answer.decoder ps room spans

-- Every call is accepted.
unfoldable pub Accepts : Tables → Decoder → List Piece → List ℕ → List ℕ → Type 0
Accepts t d [] room spans = finish_tell_refusal d t room spans ≡ 0
Accepts t d (p ∷ ps) room spans =
    (feed_tell_refusal d t p.chunk p.room p.spans ≡ 0) × Accepts t (fed t d p).answer.answer.decoder ps room spans

-- The items that have byte i among theirs, where n bytes stand before them; how many replaced sequences cover byte i.
unfoldable pub owners : ℕ → ℕ → List Item → List Out
owners i n [] = []
owners i n (span w o ∷ is) = leb n i && ltb i (n + w) then o ∷ owners i (n + w) is else owners i (n + w) is

unfoldable pub covering : ℕ → List Replaced → ℕ
covering i [] = 0
covering i (r ∷ rs) = leb r.place i && ltb i (r.place + r.width) then suc (covering i rs) else covering i rs

abbrev pub one_if_error : Out → ℕ
one_if_error (text cs) = 0
one_if_error error = 1

-- One item has byte i: an error, and then one replaced sequence covers it, or text (a rightly read sequence, a shift sequence, a dropped
-- or eaten mark), and then none does.
pub record Owned (i : ℕ) (is : List Item) (rs : List Replaced) : Type 0 where
  pub owner : Out
  pub one : owners i 0 is ≡ owner ∷ []
  pub covered : covering i rs ≡ one_if_error owner

-- Each begins where the one before it ends, or later, has a byte or more, and the last ends within m bytes.
unfoldable pub Rising : ℕ → List Replaced → ℕ → Type 0
Rising n [] m = n ≤ m
Rising n (r ∷ rs) m = (n ≤ r.place) × (1 ≤ r.width) × Rising (r.place + r.width) rs m

-- The items of a whole input, and the replaced sequences among them.
abbrev pub items_of : Tables → ℕ → ℕ → List ℕ → List Item
items_of t e rule xs = everything_from t e (new_spot e rule) xs

abbrev pub replaced_in : Tables → ℕ → ℕ → List ℕ → List Replaced
replaced_in t e rule xs = replaced 0 (items_of t e rule xs)

-- Of a decoder opened in replacing mode with a mark rule, and tables t at each call.
pub record Tells (t : Tables) (e rule : ℕ) : Type 0 where
  -- any bytes, cut anywhere into accepted feeds, and finished: the replaced sequences of the whole are told
  pub any_cutting : (ps : List Piece) (room spans : List ℕ) → Accepts t (start e 0 rule).decoder ps room spans →
      told_by t (start e 0 rule).decoder ps room spans ≡ cells (replaced_in t e rule (joined ps))
  -- every byte is covered by exactly one of them, or is part of one item that is text
  pub each_byte : (xs : List ℕ) (i : ℕ) → i < length xs → Owned i (items_of t e rule xs) (replaced_in t e rule xs)
  pub rising : (xs : List ℕ) → Rising 0 (replaced_in t e rule xs) (length xs)
  -- none is told exactly where refusing mode reports nothing, however the bytes are cut there
  pub none_right : (ps : List Feed) (last : List ℕ) → AcceptsFeeds t (start e 1 rule) ps last →
      (replaced_in t e rule (joined_feeds ps) ≡ []) ↔ (reports (start e 1 rule) (cutting t ps last) ≡ [])
  -- and the first one's place is the place that is reported there
  pub first_place : (ps : List Feed) (last : List ℕ) → AcceptsFeeds t (start e 1 rule) ps last →
      (r : Replaced) (rs : List Replaced) → replaced_in t e rule (joined_feeds ps) ≡ r ∷ rs →
      (handed : ℕ) × (line : ℕ) ×
      (reports (start e 1 rule) (cutting t ps last) ≡ record { handed = handed; place = r.place; line = line } ∷ [])

-- Document 02's example in Shift_JIS, whatever the cells; adjacent errors stay apart; a text U+FFFD is not told; the byte that follows
-- a broken lead is put back, and not given up.
abbrev pub shift_jis : ℕ → Tables
shift_jis c = lent (replicate 11280 c) []

abbrev pub at : ℕ → ℕ → Replaced
at place width = record { place = place; width = width }

pub record TellsSamples : Type 0 where
  pub example : replaced_in (shift_jis 0) 34 0 (0x41 ∷ 0x82 ∷ 0x22 ∷ []) ≡ at 1 1 ∷ []
  pub example_mapped : replaced_in (shift_jis 0x3042) 34 0 (0x41 ∷ 0x82 ∷ 0x22 ∷ []) ≡ at 1 1 ∷ []
  pub adjacent : replaced_in (lent [] []) 0 0 (0xE2 ∷ 0x82 ∷ 0xFF ∷ []) ≡ at 0 2 ∷ at 2 1 ∷ []
  pub text_fffd : replaced_in (lent [] []) 0 0 (0xEF ∷ 0xBF ∷ 0xBD ∷ []) ≡ []
  pub cell_fffd : replaced_in (shift_jis 0xFFFD) 34 0 (0x82 ∷ 0xA0 ∷ []) ≡ []
  pub two_shifts : replaced_in (shift_jis 0) 33 0 (0x1B ∷ 0x28 ∷ 0x42 ∷ 0x1B ∷ 0x28 ∷ 0x42 ∷ []) ≡ at 3 3 ∷ []
  pub utf_16 : replaced_in (lent [] []) 38 0 (0x3D ∷ 0xD8 ∷ 0x41 ∷ 0x00 ∷ 0x3D ∷ 0xD8 ∷ 0x41 ∷ []) ≡ at 0 2 ∷ at 4 3 ∷ []
  pub eaten_mark : replaced_in (lent [] []) 21 2 (0xEF ∷ 0xBB ∷ 0xBF ∷ 0xFF ∷ []) ≡ at 3 1 ∷ []
