-- 000, 12.3.2: the encoder of Shift_JIS, with the numbers of 000's steps; (02) stands where document 02 changes one. Assumes nothing.
use Rattle.std.specs.Prelude.{◌||◌, [], ◌∷◌, ℕ, ◌+◌, ◌-◌, eqb}
use Rattle.standard.specs.Base.{◌then◌else◌, within}
use Rattle.standard.specs.Machine.{Result, tokens}
use Rattle.standard.specs.Handlers.{ascii}
use Rattle.standard.specs.Layouts.{shift_jis_layout}
use Rattle.standard.specs.Search.{PassedOver, pass_over, first, Lookup}
use Rattle.standard.specs.Encoders.Pairs.{pair_or_error_with, minus}

-- The index Shift_JIS pointer passes over 8272 to 8835; (02) up to 10,715, the end of the user rows.
abbrev pub shift_jis_over : PassedOver
shift_jis_over = pass_over 8272 10715

-- `jis0208`: the look-up in index jis0208
unfoldable pub shift_jis_encode : Lookup → ℕ → Result
shift_jis_encode jis0208 c =
    ascii c || eqb c 0x80 then tokens (c ∷ []) else  -- 2
    eqb c 0xA5 then tokens (0x5C ∷ []) else  -- 3
    eqb c 0x203E then tokens (0x7E ∷ []) else  -- 4
    within 0xFF61 c 0xFF9F then tokens ((c - 0xFF61 + 0xA1) ∷ []) else  -- 5
    pair_or_error_with shift_jis_layout (jis0208 first shift_jis_over (minus c)) (minus c)  -- 6 to 13
