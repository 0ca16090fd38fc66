-- One scalar in a state, as code and proofs see it: its bytes, an escape sequence in front where the state changes, and the state after it.
-- `WritingIsStandard` in `encoder_spec` says that a writing so is what 000's encoders give. Assumes nothing.
use Rattle.std.specs.Prelude.{◌&&◌, ◌||◌, not, List, [], ◌∷◌, ◌++◌, ℕ, eqb}
use Rattle.std.proofs.Math.Option.{Option, some, none}
use Rattle.standard.specs.Base.{◌then◌else◌}
use Rattle.standard.specs.Machine.{Result, finished, continue, tokens, error, error_with}
use Rattle.standard.specs.Handlers.{ascii}
use Rattle.standard.specs.Layouts.{iso2022_jp_layout}
use Rattle.standard.specs.Search.{first, Lookup}
use Rattle.standard.specs.Encoders.Pairs.{pair_or_error_with}
use Rattle.standard.specs.Encoders.EucJp.{jis0208_over}
use Rattle.standard.specs.Encoders.Iso2022Jp.{state_of, escape, control, roman_lacks, changed}
use Rattle.standard.specs.Writers.{Coding, stateless, switching}

-- One scalar: its bytes, the state after it, and the code point that an error names where it is unwritable. An unwritable scalar may have
-- bytes too: a return to ASCII.
pub record One : Type 0 where
  pub bytes : List ℕ
  pub state : ℕ
  pub named : Option ℕ

abbrev pub wrote : List ℕ → ℕ → One
wrote bs s = record { bytes = bs; state = s; named = none }

abbrev pub cannot : List ℕ → ℕ → ℕ → One
cannot bs n s = record { bytes = bs; state = s; named = some n }

-- The way from one state to another: an escape sequence, or nothing.
abbrev pub shift_to : ℕ → ℕ → List ℕ
shift_to s s' = eqb s s' then [] else escape (state_of s')

-- A finish returns to ASCII.
abbrev pub finish_bytes : ℕ → List ℕ
finish_bytes s = shift_to s 0

-- What an encoder answers, written in a state, with some bytes in front: bytes, or an error that names a code point (no encoder answers
-- otherwise).
abbrev pub answered : List ℕ → ℕ → Result → One
answered es s (tokens bs) = wrote (es ++ bs) s
answered es s (error_with n) = cannot es n s
answered es s finished = cannot es 0 s
answered es s continue = cannot es 0 s
answered es s error = cannot es 0 s

-- by an encoder without variables: the state stays
abbrev pub plainly : ℕ → Result → One
plainly s r = answered [] s r

-- ISO-2022-JP: the bytes of a scalar in the state that it is written in, by what is looked up for it;
abbrev pub changed_pair : Lookup → Option ℕ → ℕ → Result
changed_pair index none c = error_with c
changed_pair index (some d) c = pair_or_error_with iso2022_jp_layout (index first jis0208_over d) d

unfoldable pub iso2022_jp_encode : Lookup → List ℕ → ℕ → Result
iso2022_jp_encode index katakana c =
    control c then error_with 0xFFFD else
    ascii c then tokens (c ∷ []) else
    eqb c 0xA5 then tokens (0x5C ∷ []) else
    eqb c 0x203E then tokens (0x7E ∷ []) else
    changed_pair index (changed katakana c) c

-- and that state, from the state s: Roman has ASCII but for two, and an error leaves the two-byte state
abbrev pub written_in : ℕ → ℕ → ℕ
written_in s c =
    ascii c then (eqb s 1 && not (roman_lacks c) then 1 else 0) else
    eqb c 0xA5 || eqb c 0x203E then 1 else 2

abbrev pub state_for : ℕ → ℕ → Result → ℕ
state_for s c (tokens bs) = written_in s c
state_for s c (error_with n) = eqb s 2 then 0 else s
state_for s c finished = s
state_for s c continue = s
state_for s c error = s

-- one scalar, by a writer's coding
abbrev pub encode_one : Coding → ℕ → ℕ → One
encode_one (stateless encode) s c = plainly s (encode c)
encode_one (switching index katakana) s c =
    let r = iso2022_jp_encode index katakana c in
    answered (shift_to s (state_for s c r)) (state_for s c r) r
