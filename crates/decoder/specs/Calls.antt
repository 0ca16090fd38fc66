-- Documents 01 and 02 (Asks 1, 2): what opening, feed and finish answer: refusal, scalars written, place and line of an error, the decoder
-- and the room afterwards. Assumes nothing.
use Rattle.std.specs.Prelude.{◌&&◌, ◌||◌, not, List, ◌++◌, ℕ, ◌+◌, ◌-◌, ltb, eqb, length, drop}
use Rattle.standard.specs.Base.{◌then◌else◌, line_feeds}
use Rattle.standard.specs.Encodings.{family, Tables, fits}
use Rattle.standard.specs.Items.{Item, shown, broken, before, reach}
use Rattle.standard.specs.Choice.{Parsed, read_from, end_from}
use Rattle.decoder.specs.Record.{spot_of, held_of, holding, new, closed}
use Rattle.decoder.specs.Valid.{valid}
use Rattle.decoder.specs.declared.Decoder.{Decoder}
use Rattle.decoder.specs.declared.Answer.{Answer}

-- Opening: 2, 3. Mode 0 replacing, 1 refusing; rule 0 drop, 1 keep, 2 choose.
unfoldable pub open_refusal : ℕ → ℕ → ℕ → ℕ
open_refusal e m rule =
    ltb 39 e then 2 else
    ltb 1 m || ltb 2 rule then 3 else 0

unfoldable pub opening : ℕ → ℕ → ℕ → Answer
opening e m rule =
    eqb (open_refusal e m rule) 0 then record { written = 0; place = 0; line = 0; refusal = 0; decoder = new e m rule } else
    record { written = 0; place = 0; line = 0; refusal = open_refusal e m rule; decoder = closed 0 0 0 0 }

-- What a call leaves: its answer, and every cell of the room.
pub record Outcome : Type 0 where
  pub answer : Answer
  pub room : List ℕ

-- A refused call leaves everything as it was.
abbrev pub refuse : ℕ → Decoder → List ℕ → Outcome
refuse n d room = record { answer = record { written = 0; place = 0; line = 0; refusal = n; decoder = d }; room = room }

-- An accepted call writes at the front of the room.
abbrev pub write : List ℕ → Decoder → List ℕ → Outcome
write cs d room = record {
  answer = record { written = length cs; place = 0; line = 0; refusal = 0; decoder = d };
  room = cs ++ drop (length cs) room;
}

-- Report 11 writes what stands before the error, and tells the error's place and line.
abbrev pub report : ℕ → ℕ → List ℕ → Decoder → List ℕ → Outcome
report place line cs d room = record {
  answer = record { written = length cs; place = place; line = line; refusal = 11; decoder = d };
  room = cs ++ drop (length cs) room;
}

-- In refusing mode an error is report 11, and the decoder has ended. Else all is written.
-- start: the bytes taken before those of the items. n: the bytes taken after this call. l: the line feeds handed out before it.
abbrev pub hand_out : ℕ → ℕ → ℕ → ℕ → ℕ → List Item → (ℕ → Decoder) → List ℕ → Outcome
hand_out e m start n l is d room =
    let l' = l + line_feeds (before is) in
    eqb m 1 && broken is then report (start + reach is) (1 + l') (before is) (closed e m n l') room else
    write (shown is) (d (l + line_feeds (shown is))) room

abbrev pub hand_out_read : ℕ → ℕ → ℕ → ℕ → ℕ → Parsed → List ℕ → Outcome
hand_out_read e m start n l r room = hand_out e m start n l r.items (λ l'. holding e m n l' r.spot r.rest) room

-- Feed: 5, 6, 4, 8, 14, 7, then 11. The tables are the label's, whatever a mark chose.
unfoldable pub feed_refusal : Decoder → Tables → List ℕ → List ℕ → ℕ
feed_refusal d t chunk room =
    not (valid d) then 5 else
    eqb d.ended 1 then 6 else
    not (fits (family d.encoding) t) then 4 else
    ltb 65536 (length chunk) then 8 else
    ltb 4294967295 (d.taken + length chunk) then 14 else
    ltb (length room) (length chunk + d.held) then 7 else 0

-- what is read: the bytes held and then the chunk, from the record's spot; the bytes held are the last of those taken
abbrev pub read_on : Decoder → Tables → List ℕ → Parsed
read_on d t chunk = read_from t d.encoding (spot_of d) (held_of d ++ chunk)

unfoldable pub feeding : Decoder → Tables → List ℕ → List ℕ → Outcome
feeding d t chunk room =
    eqb (feed_refusal d t chunk room) 0 then
    hand_out_read d.encoding d.mode (d.taken - d.held) (d.taken + length chunk) d.lines (read_on d t chunk) room else
    refuse (feed_refusal d t chunk room) d room

-- Finish: 5, 6, 4, 7, then 11. It looks at the tables only while the choice is still to come.
unfoldable pub finish_refusal : Decoder → Tables → List ℕ → ℕ
finish_refusal d t room =
    not (valid d) then 5 else
    eqb d.ended 1 then 6 else
    eqb d.stage 1 && not (fits (family d.encoding) t) then 4 else
    ltb (length room) d.held then 7 else 0

-- what the end of input gives for the bytes held
abbrev pub read_end : Decoder → Tables → List Item
read_end d t = end_from t d.encoding (spot_of d) (held_of d)

unfoldable pub finishing : Decoder → Tables → List ℕ → Outcome
finishing d t room =
    eqb (finish_refusal d t room) 0 then
    hand_out d.encoding d.mode (d.taken - d.held) d.taken d.lines (read_end d t)
    (closed d.encoding d.mode d.taken) room else
    refuse (finish_refusal d t room) d room
