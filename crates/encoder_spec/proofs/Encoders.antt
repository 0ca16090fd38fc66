-- What an encoder without variables answers. Assumes nothing.
use mathlib.Core.Bool.{Bool, true, false, ◌||◌, ◌&&◌}
use mathlib.Core.List.{List, [], ◌∷◌}
use mathlib.Core.Option.{Option, some, none}
use Prim.Native.Nat.{ℕ, ◌+◌}
use lib.Dec.{leb, eqb}
use Rattle.standard.specs.Base.{within}
use Rattle.standard.specs.Indexes.{windows1252, ranges_code_point, ranges_pointer}
use Rattle.standard.specs.Machine.{Result, tokens, error_with}
use Rattle.standard.specs.Handlers.{ascii}
use Rattle.standard.specs.Layouts.{Layout, two_bytes, gb18030_layout, big5_layout, euc_jp_layout, shift_jis_layout, euc_kr_layout}
use Rattle.standard.specs.Search.{none_over, first, Lookup, searching}
use Rattle.standard.specs.Encoders.Utf8.{utf8_encode}
use Rattle.standard.specs.Encoders.SingleByte.{or_error_with, single_byte_encode}
use Rattle.standard.specs.Encoders.UserDefined.{user_defined_encode}
use Rattle.standard.specs.Encoders.Pairs.{pair_or, minus}
use Rattle.standard.specs.Encoders.Gb18030.{four_bytes, gives_back, four_or_error_with, gb18030_encode}
use Rattle.standard.specs.Encoders.Big5.{big5_over, big5_side, big5_encode}
use Rattle.standard.specs.Encoders.EucJp.{jis0208_over, euc_jp_encode}
use Rattle.standard.specs.Encoders.ShiftJis.{shift_jis_over, shift_jis_encode}
use Rattle.standard.specs.Encoders.EucKr.{euc_kr_encode}
use Rattle.standard.specs.Writers.{Writer, utf-8, single-byte, windows-1252, gbk, gb18030, big5, euc-jp, iso-2022-jp}
use Rattle.standard.specs.Writers.{shift-jis, euc-kr, x-user-defined, Coding, stateless, switching, coding}
use Rattle.standard.proofs.Tests.{choose}

-- It answers with bytes, or with an error that names a code point.
pub data Answer : Result → Type 0 where
  bytes : (bs : List ℕ) → Answer (tokens bs)
  fault : (n : ℕ) → Answer (error_with n)

by_byte : (o : Option ℕ) (c : ℕ) → Answer (or_error_with o c)
by_byte none c = fault c
by_byte (some p) c = bytes ((p + 0x80) ∷ [])

by_pair : (y : Layout) (o : Option ℕ) {other : Result} → Answer other → Answer (pair_or y o other)
by_pair y none a = a
by_pair y (some p) a = bytes (two_bytes y p)

by_four : (ranges : List ℕ) (o : Option ℕ) (c : ℕ) → Answer (four_or_error_with ranges o c)
by_four ranges none c = fault c
by_four ranges (some p) c = choose Answer (gives_back (ranges_code_point ranges p) c) (λ _. bytes (four_bytes p)) (λ _. fault c)

utf8_answer : (c : ℕ) → Answer (utf8_encode c)
unfolding utf8_encode
utf8_answer c =
    choose Answer (ascii c) (λ _. bytes _) (λ _.
    choose Answer (leb c 0x7FF) (λ _. bytes _) (λ _.
    choose Answer (leb c 0xFFFF) (λ _. bytes _) (λ _. bytes _)))

user_defined-answer : (c : ℕ) → Answer (user_defined_encode c)
unfolding user_defined_encode
user_defined-answer c = choose Answer (ascii c) (λ _. bytes _) (λ _. choose Answer (within 0xF780 c 0xF7FF) (λ _. bytes _) (λ _. fault c))

module _ (look : Lookup) (c : ℕ) where
  single_byte-answer : Answer (single_byte_encode look c)
  unfolding single_byte_encode
  single_byte-answer = choose Answer (ascii c) (λ _. bytes _) (λ _. by_byte (look first none_over c) c)

  euc_jp-answer : Answer (euc_jp_encode look c)
  unfolding euc_jp_encode
  euc_jp-answer =
      choose Answer (ascii c) (λ _. bytes _) (λ _.
      choose Answer (eqb c 0xA5) (λ _. bytes _) (λ _.
      choose Answer (eqb c 0x203E) (λ _. bytes _) (λ _.
      choose Answer (within 0xFF61 c 0xFF9F) (λ _. bytes _) (λ _.
      by_pair euc_jp_layout (look first jis0208_over (minus c)) (fault (minus c))))))

  shift_jis-answer : Answer (shift_jis_encode look c)
  unfolding shift_jis_encode
  shift_jis-answer =
      choose Answer (ascii c || eqb c 0x80) (λ _. bytes _) (λ _.
      choose Answer (eqb c 0xA5) (λ _. bytes _) (λ _.
      choose Answer (eqb c 0x203E) (λ _. bytes _) (λ _.
      choose Answer (within 0xFF61 c 0xFF9F) (λ _. bytes _) (λ _.
      by_pair shift_jis_layout (look first shift_jis_over (minus c)) (fault (minus c))))))

  gb18030_answer : (is_gbk : Bool) (ranges : List ℕ) → Answer (gb18030_encode is_gbk look ranges c)
  unfolding gb18030_encode
  gb18030_answer is_gbk ranges =
      choose Answer (ascii c) (λ _. bytes _) (λ _.
      choose Answer (eqb c 0xE5E5) (λ _. fault c) (λ _.
      choose Answer (is_gbk && eqb c 0x20AC) (λ _. bytes _) (λ _. by_pair gb18030_layout (look first none_over c) (
      choose Answer is_gbk (λ _. fault c) (λ _. by_four ranges (ranges_pointer ranges c) c)))))

  big5_answer : Answer (big5_encode look c)
  unfolding big5_encode
  big5_answer = choose Answer (ascii c) (λ _. bytes _) (λ _. by_pair big5_layout (look (big5_side c) big5_over c) (fault c))

  euc_kr-answer : Answer (euc_kr_encode look c)
  unfolding euc_kr_encode
  euc_kr-answer = choose Answer (ascii c) (λ _. bytes _) (λ _. by_pair euc_kr_layout (look first none_over c) (fault c))

-- The codings of the writers: by encoders that answer so, and ISO-2022-JP's.
pub data Answers : Coding → Type 0 where
  answering : {encode : ℕ → Result} → ((c : ℕ) → Answer (encode c)) → Answers (stateless encode)
  switches : (look : Lookup) (katakana : List ℕ) → Answers (switching look katakana)

pub answers : (w : Writer) (look : Lookup) (second : List ℕ) → Answers (coding w look second)
answers utf-8 look second = answering utf8_answer
answers single-byte look second = answering (single_byte-answer look)
answers windows-1252 look second = answering (single_byte-answer (searching windows1252))
answers gbk look second = answering (λ c. gb18030_answer look c true second)
answers gb18030 look second = answering (λ c. gb18030_answer look c false second)
answers big5 look second = answering (big5_answer look)
answers euc-jp look second = answering (euc_jp-answer look)
answers iso-2022-jp look second = switches look second
answers shift-jis look second = answering (shift_jis-answer look)
answers euc-kr look second = answering (euc_kr-answer look)
answers x-user-defined look second = answering user_defined-answer
