-- The laws of line feeds: where an encoding keeps separators, those handed out are the bytes 0A read; and none comes at the end of input.
-- `proofs/LineFeeds.antt` proves them. Assumes nothing.
use Rattle.std.specs.Prelude.{◌≡◌, List, ◌++◌, ℕ, ◌-◌, length, take}
use Rattle.standard.specs.Base.{line_feeds}
use Rattle.standard.specs.Encodings.{Tables, Family}
use Rattle.standard.specs.Sequence.{Shift, more}
use Rattle.standard.specs.Next.{next}
use Rattle.standard.specs.Decode.{decode, ending, shown, before, reach}

-- Where separators are kept, of a chunk read behind the bytes held:
pub record LineFeeds (t : Tables) (f : Family) (s : Shift) (held chunk : List ℕ) : Type 0 where
  pub none_held : line_feeds held ≡ 0
  -- all that is read gives the line feeds of the chunk
  pub whole : line_feeds (shown (decode (next t f) s (held ++ chunk)).items) ≡ line_feeds chunk
  -- what stands before the first error gives those of the chunk up to there
  pub up_to_error : let is = (decode (next t f) s (held ++ chunk)).items in
      line_feeds (before is) ≡ line_feeds (take (reach is - length held) chunk)

-- In every encoding: the end of input gives no line feed for the bytes held.
abbrev pub NoneAtEnd : Type 0
NoneAtEnd = (t : Tables) (f : Family) (s : Shift) (held : List ℕ) → next t f s held ≡ more → line_feeds (shown (ending t f s held)) ≡ 0
