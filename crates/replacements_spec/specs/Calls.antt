-- Document 02, Ask 12: what a feed and a finish leave that also tell what was replaced. Assumes nothing.
use Rattle.std.specs.Prelude.{◌≡◌, List, [], ◌++◌, ℕ, ◌+◌, ◌-◌, ◌*◌, ltb, eqb, length, drop}
use Rattle.standard.specs.Base.{◌then◌else◌}
use Rattle.standard.specs.Encodings.{Tables}
use Rattle.standard.specs.Items.{Item}
use Rattle.decoder.specs.Calls.{Outcome, refuse, feed_refusal, read_on, feeding, finish_refusal, read_end, finishing}
use Rattle.decoder.specs.declared.Decoder.{Decoder}
use Rattle.replacements_spec.specs.Replaced.{Replaced, replaced, cells}
use Rattle.replacements_spec.specs.declared.Replacing.{Replacing}

-- What such a call leaves: its answer, every cell of the room, and every cell of the lent spans.
pub record Handed : Type 0 where
  pub answer : Replacing
  pub room : List ℕ
  pub spans : List ℕ

-- This answer, room and spans are what a call is to leave.
pub record Leaves (h : Handed) (r : Replacing) (room spans : List ℕ) : Type 0 where
  pub answer : r ≡ h.answer
  pub scalars : room ≡ h.room
  pub told : spans ≡ h.spans

-- The outcome of the feed or finish, with the replaced sequences at the front of the spans.
abbrev pub telling : Outcome → List Replaced → List ℕ → Handed
telling o rs spans = record {
  answer = record { answer = o.answer; count = length rs };
  room = o.room;
  spans = cells rs ++ drop (2 * length rs) spans;
}

-- A refused call leaves everything as it was.
abbrev pub untold : ℕ → Decoder → List ℕ → List ℕ → Handed
untold n d room spans = telling (refuse n d room) [] spans

-- In refusing mode nothing is replaced.
abbrev pub replaced_by : ℕ → ℕ → List Item → List Replaced
replaced_by m n is = eqb m 1 then [] else replaced n is

-- 7, behind the refusals of the feed or finish: fewer than two cells for each of n bytes.
abbrev pub spans_refusal : ℕ → ℕ → List ℕ → ℕ
spans_refusal refusal n spans = eqb refusal 0 then (ltb (length spans) (2 * n) then 7 else 0) else refusal

-- The feed: every byte of the chunk and every byte held may be a sequence of its own.
unfoldable pub feed_tell_refusal : Decoder → Tables → List ℕ → List ℕ → List ℕ → ℕ
feed_tell_refusal d t chunk room spans = spans_refusal (feed_refusal d t chunk room) (length chunk + d.held) spans

-- The bytes held are the last of those taken: the first sequence that is read begins there.
unfoldable pub feed_telling : Decoder → Tables → List ℕ → List ℕ → List ℕ → Handed
feed_telling d t chunk room spans =
    eqb (feed_tell_refusal d t chunk room spans) 0 then
    telling (feeding d t chunk room) (replaced_by d.mode (d.taken - d.held) (read_on d t chunk).items) spans else
    untold (feed_tell_refusal d t chunk room spans) d room spans

-- The finish.
unfoldable pub finish_tell_refusal : Decoder → Tables → List ℕ → List ℕ → ℕ
finish_tell_refusal d t room spans = spans_refusal (finish_refusal d t room) d.held spans

unfoldable pub finish_telling : Decoder → Tables → List ℕ → List ℕ → Handed
finish_telling d t room spans =
    eqb (finish_tell_refusal d t room spans) 0 then
    telling (finishing d t room) (replaced_by d.mode (d.taken - d.held) (read_end d t)) spans else
    untold (finish_tell_refusal d t room spans) d room spans
