-- The writers by encoding number: 000's encoders, run by the same machine as the decoders, and the decoder that reads each.
-- Assumes nothing.
use Rattle.std.specs.Prelude.{Bool, true, false, ◌&&◌, List, [], ℕ, ◌+◌, ◌*◌, leb, eqb, length}
use Rattle.std.proofs.Math.Option.{Option, some, none}
use Rattle.standard.specs.Base.{◌then◌else◌}
use Rattle.standard.specs.Encodings.{Family, Tables, lent, fits}
use Rattle.standard.specs.Indexes.{windows1252}
use Rattle.standard.specs.Machine.{Token, token, end_of-stream, Result, finished, Step, return, Mode, Ran, run, stream}
use Rattle.standard.specs.Search.{Lookup, searching}
use Rattle.standard.specs.Encoders.Utf8.{utf8_encode}
use Rattle.standard.specs.Encoders.SingleByte.{single_byte_encode}
use Rattle.standard.specs.Encoders.UserDefined.{user_defined_encode}
use Rattle.standard.specs.Encoders.Gb18030.{gb18030_encode}
use Rattle.standard.specs.Encoders.Big5.{big5_encode}
use Rattle.standard.specs.Encoders.EucJp.{euc_jp_encode}
use Rattle.standard.specs.Encoders.Iso2022Jp.{State, state_of, iso2022_jp_handler}
use Rattle.standard.specs.Encoders.ShiftJis.{shift_jis_encode}
use Rattle.standard.specs.Encoders.EucKr.{euc_kr_encode}

pub data Writer : Type 0 where
  utf-8 single-byte windows-1252 gbk gb18030 big5 euc-jp iso-2022-jp shift-jis euc-kr x-user-defined : Writer

-- The numbers that have a writer; the others have none (refusal 9).
unfoldable pub writer_of : ℕ → Option Writer
writer_of e =
    eqb e 0 then some utf-8 else
    eqb e 21 then some windows-1252 else
    leb e 28 then some single-byte else
    eqb e 29 then some gbk else
    eqb e 30 then some gb18030 else
    eqb e 31 then some big5 else
    eqb e 32 then some euc-jp else
    eqb e 33 then some iso-2022-jp else
    eqb e 34 then some shift-jis else
    eqb e 35 then some euc-kr else
    eqb e 39 then some x-user-defined else
    none

-- How a writer writes: by an encoder that has no variables, given without its step 1; or by ISO-2022-JP's, with its look-up and its
-- katakana table.
pub data Coding : Type 0 where
  stateless : (ℕ → Result) → Coding
  switching : Lookup → List ℕ → Coding

-- with a look-up in the first table that is lent, and with the second table
abbrev pub coding : Writer → Lookup → List ℕ → Coding
coding utf-8 look second = stateless utf8_encode
coding single-byte look second = stateless (single_byte_encode look)
coding windows-1252 look second = stateless (single_byte_encode (searching windows1252))
coding gbk look second = stateless (gb18030_encode true look second)
coding gb18030 look second = stateless (gb18030_encode false look second)
coding big5 look second = stateless (big5_encode look)
coding euc-jp look second = stateless (euc_jp_encode look)
coding iso-2022-jp look second = switching look second
coding shift-jis look second = stateless (shift_jis_encode look)
coding euc-kr look second = stateless (euc_kr_encode look)
coding x-user-defined look second = stateless user_defined_encode

-- step 1 of each encoder without variables, and the others
unfoldable pub encode_handler : (ℕ → Result) → Unit {0} → Token → Step (Unit {0})
encode_handler encode v end_of-stream = return finished v
encode_handler encode v (token c) = return (encode c) v

-- The states that a coding has, as numbers: 0 is the first. Without variables there is no other.
abbrev pub has_state : Coding → ℕ → Bool
has_state (stateless encode) s = eqb s 0
has_state (switching look katakana) s = leb s 2

-- An encoder: its variables, their values in each state, and its handler.
pub record Encoder : Type 1 where
  pub Variables : Type 0
  pub at : ℕ → Variables
  pub handler : Variables → Token → Step Variables

abbrev pub encoder : Coding → Encoder
encoder (stateless encode) = record { Variables = Unit {0}; at = λ s. tt; handler = encode_handler encode }
encoder (switching look katakana) = record { Variables = State; at = state_of; handler = iso2022_jp_handler look katakana }

-- An encoder run on all the scalars, from a state: 000's `run`. The fuel is enough, since the theorems equate this with `some`.
unfoldable pub standard_encode : Encoder → Mode → ℕ → List ℕ → Option Ran
standard_encode e m s cs = run e.handler m (2 * length cs + 2) (e.at s) (stream cs) []

-- the decoder that reads a writer's bytes
abbrev pub reader : Writer → Family
reader utf-8 = Family.UTF-8
reader single-byte = Family.single-byte
reader windows-1252 = Family.windows-1252
reader gbk = Family.GB18030
reader gb18030 = Family.GB18030
reader big5 = Family.Big5
reader euc-jp = Family.EUC-JP
reader iso-2022-jp = Family.ISO-2022-JP
reader shift-jis = Family.Shift-JIS
reader euc-kr = Family.EUC-KR
reader x-user-defined = Family.x-user-defined

-- (02) Is a writer lent the 63 cells of index ISO-2022-JP katakana as its second table, which its reader is not lent?
abbrev pub lent_katakana : Writer → Bool
lent_katakana utf-8 = false
lent_katakana single-byte = false
lent_katakana windows-1252 = false
lent_katakana gbk = false
lent_katakana gb18030 = false
lent_katakana big5 = false
lent_katakana euc-jp = false
lent_katakana iso-2022-jp = true
lent_katakana shift-jis = false
lent_katakana euc-kr = false
lent_katakana x-user-defined = false

-- the tables for reading what is written with these
abbrev pub reader_tables : Writer → Tables → Tables
reader_tables w t = lent_katakana w then lent t.first [] else t

-- Refusal 4 of a writer: its tables are those of its reader, and the katakana cells.
abbrev pub writer_fits : Writer → Tables → Bool
writer_fits w t =
    lent_katakana w then fits (reader w) (lent t.first []) && eqb (length t.second) 63 else
    fits (reader w) t
