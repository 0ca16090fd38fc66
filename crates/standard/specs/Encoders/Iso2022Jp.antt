-- 000, 12.2.2: the encoder of ISO-2022-JP, a handler with a state, with the numbers of 000's steps; (02) stands where document 02 changes
-- one. Assumes nothing.
use Rattle.std.specs.Prelude.{Bool, true, false, not, ◌&&◌, ◌||◌, List, [], ◌∷◌, ℕ, ◌-◌, eqb}
use Rattle.std.proofs.Math.Option.{Option, some, none}
use Rattle.standard.specs.Base.{◌then◌else◌, within}
use Rattle.standard.specs.Indexes.{index_code_point}
use Rattle.standard.specs.Machine.{Token, token, end_of-stream, finished, tokens, error_with, Step, return, prepend}
use Rattle.standard.specs.Handlers.{ascii}
use Rattle.standard.specs.Layouts.{two_bytes, iso2022_jp_layout}
use Rattle.standard.specs.Search.{first, Lookup}
use Rattle.standard.specs.Encoders.EucJp.{jis0208_over}

-- "ISO-2022-JP encoder state"; 02 calls the third two-byte.
pub data State : Type 0 where
  ASCII Roman jis0208 : State

-- the writer's number of each: 0, 1, 2
abbrev pub state_of : ℕ → State
state_of s = eqb s 0 then ASCII else eqb s 1 then Roman else jis0208

abbrev pub is_ascii : State → Bool
is_ascii ASCII = true
is_ascii Roman = false
is_ascii jis0208 = false

abbrev pub is_roman : State → Bool
is_roman ASCII = false
is_roman Roman = true
is_roman jis0208 = false

abbrev pub is_jis0208 : State → Bool
is_jis0208 ASCII = false
is_jis0208 Roman = false
is_jis0208 jis0208 = true

-- the three bytes that lead to a state
abbrev pub escape : State → List ℕ
escape ASCII = 0x1B ∷ 0x28 ∷ 0x42 ∷ []
escape Roman = 0x1B ∷ 0x28 ∷ 0x4A ∷ []
escape jis0208 = 0x1B ∷ 0x24 ∷ 0x42 ∷ []

-- "prepend code point to stream, set the state, and return three bytes"
abbrev pub switch : State → Token → Step State
switch v x = prepend (x ∷ []) (return (tokens (escape v)) v)

-- U+000E, U+000F, U+001B
abbrev pub control : ℕ → Bool
control c = eqb c 0x0E || eqb c 0x0F || eqb c 0x1B

-- U+005C, U+007E
abbrev pub roman_lacks : ℕ → Bool
roman_lacks c = eqb c 0x5C || eqb c 0x7E

-- 8, 9. (02) Once for a scalar: what they give is only looked up and named in an error. An unmapped katakana cell gives null.
abbrev pub changed : List ℕ → ℕ → Option ℕ
changed katakana c =
    eqb c 0x2212 then some 0xFF0D else
    within 0xFF61 c 0xFF9F then index_code_point katakana (c - 0xFF61) else
    some c

-- 10. (02) Pointers from 8,836 are passed over. `index`: the look-up in index jis0208
abbrev pub changed_pointer : Lookup → Option ℕ → Option ℕ
changed_pointer index none = none
changed_pointer index (some d) = index first jis0208_over d

-- what an error names: (02) the scalar where the katakana cell is unmapped
abbrev pub changed_name : Option ℕ → ℕ → ℕ
changed_name none c = c
changed_name (some d) c = d

-- 11 to 15, with the name n and the pointer. (02) An unwritable scalar in the two-byte state first returns to ASCII. (02) The scalar is
-- prepended as it came, so that 8 and 9 give the same again.
abbrev pub by_pointer : State → ℕ → ℕ → Option ℕ → Step State
by_pointer v c n none = is_jis0208 v then switch ASCII (token c) else return (error_with n) v  -- 11
by_pointer v c n (some p) =
    is_jis0208 v then return (tokens (two_bytes iso2022_jp_layout p)) v else  -- 13 to 15
    switch jis0208 (token c)  -- 12

-- `katakana`: index ISO-2022-JP katakana
unfoldable pub iso2022_jp_handler : Lookup → List ℕ → State → Token → Step State
iso2022_jp_handler index katakana v end_of-stream =
    not (is_ascii v) then switch ASCII end_of-stream else  -- 1
    return finished v  -- 2
iso2022_jp_handler index katakana v (token c) =
    not (is_jis0208 v) && control c then return (error_with 0xFFFD) v else  -- 3
    is_ascii v && ascii c then return (tokens (c ∷ [])) v else  -- 4
    is_roman v && (ascii c && not (roman_lacks c)) then return (tokens (c ∷ [])) v else  -- 5.1
    is_roman v && eqb c 0xA5 then return (tokens (0x5C ∷ [])) v else  -- 5.2
    is_roman v && eqb c 0x203E then return (tokens (0x7E ∷ [])) v else  -- 5.3
    ascii c then switch ASCII (token c) else  -- 6
    eqb c 0xA5 || eqb c 0x203E then switch Roman (token c) else  -- 7
    by_pointer v c (changed_name (changed katakana c) c) (changed_pointer index (changed katakana c))  -- 8 to 15
