-- Demand 2 for cut input, demand 3 and refusal 5, as statements about every list of calls. Assumes nothing.
use Rattle.std.specs.Prelude.{◌≡◌, Bool, true, false, ◌&&◌, List, [], ◌∷◌, ◌++◌, ℕ, ◌+◌, ◌-◌, ◌≤◌, T, eqb, length, drop}
use Rattle.std.proofs.Math.Option.{Option, some, none}
use Rattle.standard.specs.Base.{◌then◌else◌, Bytes, separators, line_feeds, scalars}
use Rattle.standard.specs.Encodings.{family, traits, Tables, fits}
use Rattle.standard.specs.Machine.{replacement, fatal, Ran}
use Rattle.standard.specs.Standard.{standard, is_error, drop_mark, standard_place, SoFar, standard_so_far}
use Rattle.standard.specs.Sniffing.{Mark, mark, marks, sniff, waits}
use Rattle.decoder.specs.Record.{held_of, bit, closed}
use Rattle.decoder.specs.Valid.{valid}
use Rattle.decoder.specs.Calls.{feed_refusal, feeding, finish_refusal, finishing}
use Rattle.demands.specs.Histories.{Call, feed, finish, History, noted, outcome, after_one, after, accepted_calls, start, has_ended, Reachable}
use Rattle.decoder.specs.declared.Decoder.{Decoder}
use Rattle.decoder.specs.declared.Answer.{Answer}

-- A chunk, with the room that is lent for it; the chunks joined; their feeds, all with the tables t, and then a finish.
pub record Piece : Type 0 where
  pub chunk : List ℕ
  pub room : List ℕ

unfoldable pub joined : List Piece → List ℕ
joined [] = []
joined (p ∷ ps) = p.chunk ++ joined ps

unfoldable pub cutting : Tables → List Piece → List ℕ → List Call
cutting t [] last = finish t last ∷ []
cutting t (p ∷ ps) last = feed p.chunk t p.room ∷ cutting t ps last

-- The reports 11 of a list of calls: for each, how many characters were handed out before the error, its place and its line.
pub record Report : Type 0 where
  pub handed : ℕ
  pub place : ℕ
  pub line : ℕ

abbrev pub reported : History → Answer → Report
reported h a = record { handed = length h.handed; place = a.place; line = a.line }

unfoldable pub reports : History → List Call → List Report
reports h [] = []
reports h (c ∷ cs) =
    let h' = after_one h c in
    let a = (outcome h c).answer in
    eqb a.refusal 11 then reported h' a ∷ reports h' cs else reports h' cs

-- What demand 2 compares. An accepted feed takes the whole chunk, so that the bytes taken at a report 11 depend on the cutting:
-- records are compared without them (`all_taken` and `Demand3.taken_total` say how many they are).
abbrev pub untaken : Decoder → Decoder
untaken d = record {
  taken = 0;
  lines = d.lines;
  encoding = d.encoding;
  mode = d.mode;
  stage = d.stage;
  state = d.state;
  flag = d.flag;
  held = d.held;
  first = d.first;
  second = d.second;
  third = d.third;
  ended = d.ended;
}

pub record Account : Type 0 where
  pub handed : List ℕ
  pub reports : List Report
  pub decoder : Decoder

unfoldable pub account : History → List Call → Account
account h cs = record { handed = (after h cs).handed; reports = reports h cs; decoder = untaken (after h cs).decoder }

-- Every call is accepted, up to the report 11 if there is one.
unfoldable pub Accepts : Tables → History → List Piece → List ℕ → Type 0
Accepts t h [] last = finish_refusal h.decoder t last ≡ 0
Accepts t h (p ∷ ps) last =
    let o = feeding h.decoder t p.chunk p.room in
    (feed_refusal h.decoder t p.chunk p.room ≡ 0) × (eqb o.answer.refusal 11 ≡ false → Accepts t (noted h p.chunk o) ps last)

-- Rooms of three cells more than the chunk, three for the finish, and chunks that may be fed.
unfoldable pub Roomy : List Piece → List ℕ → Type 0
Roomy [] last = 3 ≤ length last
Roomy (p ∷ ps) last = (length p.chunk ≤ 65536) × (length p.chunk + 3 ≤ length p.room) × Roomy ps last

-- feeds only, all with the tables t
unfoldable pub AllFeeds : Tables → List Call → Type 0
AllFeeds t [] = Unit
AllFeeds t (feed chunk t' room ∷ cs) = (t' ≡ t) × AllFeeds t cs
AllFeeds t (finish t' room ∷ cs) = ⊥

-- The encoding that reads, and the bytes of the mark before what it reads: by rule 2 as 000's "decode" has them, else the label's and none.
abbrev pub mark_by : ℕ → ℕ → List ℕ → Mark
mark_by e rule xs = eqb rule 2 then sniff marks e xs else mark [] e

-- The account of a whole input by 000's `run` alone: mode 1 is "fatal"; the mark dropped by the rule; a report where `run` returned error,
-- behind the longest front that it reads without one, in the line that its output has come to.
abbrev pub drops : ℕ → ℕ → Bool
drops e rule = (traits (family e)).mark && eqb rule 0

abbrev pub account_of : ℕ → ℕ → Bool → ℕ → Option Ran → Option Account
account_of e m mark place none = none
account_of e m mark place (some r) =
    let out = mark then drop_mark r.output else r.output in
    let here : Report = record { handed = length out; place = place; line = 1 + line_feeds out } in
    some (record { handed = out; reports = is_error r.result then here ∷ [] else []; decoder = closed e m 0 (line_feeds out) })

unfoldable pub standard_account : Tables → ℕ → ℕ → ℕ → List ℕ → Option Account
standard_account t e m rule xs =
    let k = mark_by e rule xs in
    let f = family k.encoding in
    let w = length k.bytes in
    account_of e m (drops e rule) (w + standard_place t f (drop w xs)) (standard t f (eqb m 1 then fatal else replacement) (drop w xs))

-- the same before the end of the input, and the bytes held alone
abbrev pub unmarked : Bool → Option SoFar → Option SoFar
unmarked mark none = none
unmarked mark (some x) = some (record { output = mark then drop_mark x.output else x.output; held = x.held })

-- by rule 2 nothing is put out and all is held while a mark is still possible
abbrev pub standard_before : Tables → ℕ → ℕ → List ℕ → Option SoFar
standard_before t e rule xs =
    let k = mark_by e rule xs in
    eqb rule 2 && waits marks xs then some (record { output = []; held = xs }) else
    standard_so_far t (family k.encoding) (drop (length k.bytes) xs)

abbrev pub held_in : Option SoFar → Option (List ℕ)
held_in none = none
held_in (some x) = some x.held

-- the history of an accepted opening and some calls, as an account before the end: the characters handed out, and the bytes held
abbrev pub so_far : History → SoFar
so_far h = record { output = h.handed; held = held_of h.decoder }

-- Demand 2, for an accepted opening of encoding e in mode m with a mark rule, and tables t at each call.
pub record Demand2 (t : Tables) (e m rule : ℕ) : Type 0 where
  -- any bytes, cut anywhere into accepted feeds, and finished: what 000's machine gives for the whole
  pub as_standard : (ps : List Piece) (last : List ℕ) →
      Bytes (joined ps) → Accepts t (start e m rule) ps last →
      some (account (start e m rule) (cutting t ps last)) ≡ standard_account t e m rule (joined ps)
  -- and what any other cutting gives
  pub any_cutting : (ps qs : List Piece) (last last' : List ℕ) → joined ps ≡ joined qs →
      Accepts t (start e m rule) ps last → Accepts t (start e m rule) qs last' →
      account (start e m rule) (cutting t ps last) ≡ account (start e m rule) (cutting t qs last')
  -- and with refused calls anywhere among them, of any chunks, tables and rooms
  pub refused_among : (cs : List Call) (ps : List Piece) (last : List ℕ) →
      accepted_calls (start e m rule) cs ≡ accepted_calls (start e m rule) (cutting t ps last) →
      Bytes (joined ps) → Accepts t (start e m rule) ps last →
      some (account (start e m rule) cs) ≡ standard_account t e m rule (joined ps)
  -- without a report everything is taken, however it was cut
  pub all_taken : (ps : List Piece) (last : List ℕ) → Accepts t (start e m rule) ps last →
      reports (start e m rule) (cutting t ps last) ≡ [] →
      (after (start e m rule) (cutting t ps last)).decoder.taken ≡ length (joined ps)
  -- the calls are accepted where the tables fit, the rooms have three cells more, and there are not too many bytes
  pub rooms_suffice : (ps : List Piece) (last : List ℕ) →
      fits (family e) t ≡ true → length (joined ps) ≤ 4294967295 → Roomy ps last → Accepts t (start e m rule) ps last
  -- before the finish, too, refused feeds among them
  pub so_far_lem : (cs : List Call) → AllFeeds t cs →
      let h = after (start e m rule) cs in Bytes h.taken → h.decoder.ended ≡ 0 →
      some (so_far h) ≡ unmarked (drops e rule) (standard_before t e rule h.taken)

-- Refused calls change nothing: left out of any list of calls, on any record, the history and the account are the same.
pub record RefusedNothing (h : History) (cs : List Call) : Type 0 where
  pub same_history : after h (accepted_calls h cs) ≡ after h cs
  pub same_account : account h (accepted_calls h cs) ≡ account h cs

-- Demand 3, for every opening, refused or not, and every list of calls, refused or not, of any tables, chunks and rooms,
-- that leads to the history h.
pub record Demand3 (e m rule : ℕ) (calls : List Call) (h : History) : Type 0 where
  -- in replacing mode, where the encoding that reads keeps them
  pub separators_kept : m ≡ 0 → T (traits (family (mark_by e rule h.taken).encoding)).separators →
      separators h.handed ≡ separators h.taken
  pub counted : length h.handed + length (held_of h.decoder) ≤ length h.taken
  pub three : length (held_of h.decoder) ≤ 3
  pub number : h.decoder.held ≡ length (held_of h.decoder)
  -- the bytes held are the last of those taken, and those that 000's variables hold, whatever tables t it has
  pub last : held_of h.decoder ≡ drop (length h.taken - length (held_of h.decoder)) h.taken
  pub unfinished : (t : Tables) → Bytes h.taken → has_ended e m rule calls ≡ false →
      some (held_of h.decoder) ≡ held_in (standard_before t e rule h.taken)
  pub none_after_end : has_ended e m rule calls ≡ true → held_of h.decoder ≡ []
  pub ended : h.decoder.ended ≡ bit (has_ended e m rule calls)
  pub feed_room : (t : Tables) (chunk room : List ℕ) → length chunk + 3 ≤ length room → feed_refusal h.decoder t chunk room ≡ 7 → ⊥
  pub finish_room : (t : Tables) (room : List ℕ) → 3 ≤ length room → finish_refusal h.decoder t room ≡ 7 → ⊥
  -- both totals are counts over the whole history
  pub taken_total : h.decoder.taken ≡ length h.taken
  pub lines_total : h.decoder.lines ≡ line_feeds h.handed
  pub only_scalars : Bytes h.taken → T (scalars h.handed)

-- No call writes past the room: whatever the record and what is lent, the room keeps its length.
pub record RoomKept (d : Decoder) : Type 0 where
  pub fed : (t : Tables) (chunk room : List ℕ) → length (feeding d t chunk room).room ≡ length room
  pub finished : (t : Tables) (room : List ℕ) → length (finishing d t room).room ≡ length room

-- Refusal 5 is given exactly when no calls leave the record. (A record's fields are bytes, and the bytes taken a number of 32 bits.)
pub record Refusal5 (d : Decoder) : Type 0 where
  pub reachable_valid : Reachable d → valid d ≡ true
  pub valid_reachable : Bytes (d.first ∷ d.second ∷ d.third ∷ []) → d.taken ≤ 4294967295 → valid d ≡ true → Reachable d
