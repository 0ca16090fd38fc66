-- The test behind refusal 5: proved to hold exactly of the records that calls leave. Assumes nothing.
use Rattle.std.specs.Prelude.{Bool, ◌&&◌, ◌||◌, not, ℕ, ◌+◌, ◌-◌, ◌*◌, ◌%◌, ltb, leb, eqb}
use Rattle.standard.specs.Base.{◌then◌else◌}
use Rattle.standard.specs.Encodings.{Family, UTF-8, single-byte, windows-1252, GB18030, Big5, EUC-JP, ISO-2022-JP, Shift-JIS, EUC-KR, Replacement, UTF-16BE, UTF-16LE, x-user-defined, family}
use Rattle.standard.specs.Sequence.{Shift}
use Rattle.standard.specs.Choice.{reader, Spot}
pub use Rattle.standard.specs.Choice.{is_more, is_waiting, mark_width}
unfoldable pub use Rattle.standard.specs.Choice.{rests}
use Rattle.decoder.specs.Record.{spot_of, held_of}
use Rattle.decoder.specs.declared.Decoder.{Decoder}

-- The shifts that a decoder can come to, with c bytes in whole sequences and l line feeds handed out.
-- Most encodings have no shift, and a line feed takes a byte.
abbrev pub unshifted : Shift → ℕ → ℕ → Bool
unshifted s c l = eqb s.state 0 && not s.flag && leb l c

-- UTF-8: a mark is still to be dropped where nothing was read.
abbrev pub marking : Shift → ℕ → ℕ → Bool
marking s c l = eqb s.state 0 && (s.flag then eqb c 0 && eqb l 0 else leb l c)

-- UTF-16: two bytes for a line feed, and an even number in all.
abbrev pub paired : Shift → ℕ → ℕ → Bool
paired s c l = eqb s.state 0 && eqb (c % 2) 0 && (s.flag then eqb c 0 && eqb l 0 else leb (2 * l) c)

-- replacement: the error of the first byte ends a decoder in refusing mode; no line feeds
abbrev pub replaced : ℕ → Shift → ℕ → ℕ → Bool
replaced m s c l = eqb s.state 0 && eqb l 0 && (s.flag then eqb m 0 && ltb 0 c else eqb c 0)

-- ISO-2022-JP: the bytes without a line feed that it takes to come to a shift: an escape, and a byte or two that lower the flag.
-- In Roman that byte may be a line feed, so that four bytes are needed in all.
unfoldable pub iso_cost : ℕ → Shift → ℕ
iso_cost m s =
    s.flag then 3 else
    eqb s.state 0 then 0 else
    eqb s.state 1 then 3 else
    eqb s.state 2 then 4 else
    eqb m 0 then 4 else 5

unfoldable pub iso_least : Shift → ℕ
iso_least s = s.flag then 0 else eqb s.state 1 then 4 else 0

abbrev pub escaping : ℕ → Shift → ℕ → ℕ → Bool
escaping m s c l = leb s.state 3 && leb (l + iso_cost m s) c && leb (iso_least s) c

unfoldable pub possible : Family → ℕ → Shift → ℕ → ℕ → Bool
possible UTF-8 m s c l = marking s c l
possible single-byte m s c l = unshifted s c l
possible windows-1252 m s c l = unshifted s c l
possible GB18030 m s c l = unshifted s c l
possible Big5 m s c l = unshifted s c l
possible EUC-JP m s c l = unshifted s c l
possible ISO-2022-JP m s c l = escaping m s c l
possible Shift-JIS m s c l = unshifted s c l
possible EUC-KR m s c l = unshifted s c l
possible Replacement m s c l = replaced m s c l
possible UTF-16BE m s c l = paired s c l
possible UTF-16LE m s c l = paired s c l
possible x-user-defined m s c l = unshifted s c l

-- The same of a spot: while the choice is to come nothing was read; behind a mark its bytes count, and no other mark is dropped.
unfoldable pub possible_at : ℕ → ℕ → Spot → ℕ → ℕ → Bool
possible_at e m p c l =
    eqb p.stage 0 then possible (family e) m p.shift c l else
    eqb p.stage 1 then eqb p.shift.state 0 && not p.shift.flag && eqb c 0 && eqb l 0 else
    leb p.stage 4 && not p.shift.flag && leb (mark_width p.stage) c &&
    possible (family (reader e p.stage)) m p.shift (c - mark_width p.stage) l

-- The totals of a decoder that has ended: the label's encoding read, or, where that gives more line feeds, UTF-8 behind its mark.
unfoldable pub ended_totals : Family → ℕ → ℕ → Bool
ended_totals UTF-8 n l = leb l n
ended_totals single-byte n l = leb l n
ended_totals windows-1252 n l = leb l n
ended_totals GB18030 n l = leb l n
ended_totals Big5 n l = leb l n
ended_totals EUC-JP n l = leb l n
ended_totals ISO-2022-JP n l = leb l n
ended_totals Shift-JIS n l = leb l n
ended_totals EUC-KR n l = leb l n
ended_totals Replacement n l = eqb l 0 || leb (l + 3) n
ended_totals UTF-16BE n l = leb (2 * l) n || leb (l + 3) n
ended_totals UTF-16LE n l = leb (2 * l) n || leb (l + 3) n
ended_totals x-user-defined n l = leb l n

-- The bytes that are not in use are 0.
unfoldable pub unused : Decoder → Bool
unused d = (ltb 2 d.held || eqb d.third 0) && (ltb 1 d.held || eqb d.second 0) && (ltb 0 d.held || eqb d.first 0)

-- An ended record has nothing else in use than its totals; another stands at a possible spot with the bytes of a started mark or
-- sequence, the last of those taken.
unfoldable pub valid_rest : Decoder → Bool
valid_rest d =
    eqb d.ended 1 then
    eqb d.held 0 && eqb d.stage 0 && eqb d.state 0 && eqb d.flag 0 &&
    ended_totals (family d.encoding) d.taken d.lines else
    leb d.held d.taken && possible_at d.encoding d.mode (spot_of d) (d.taken - d.held) d.lines &&
    rests d.encoding (spot_of d) (held_of d)

unfoldable pub valid : Decoder → Bool
valid d = leb d.encoding 39 && leb d.mode 1 && leb d.flag 1 && leb d.held 3 && leb d.ended 1 && unused d && valid_rest d
