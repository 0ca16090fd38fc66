-- 000, 12.1.2: the encoder of EUC-JP, with the numbers of 000's steps; (02) stands where document 02 changes one. Assumes nothing.
use Rattle.std.specs.Prelude.{[], ◌∷◌, ℕ, ◌+◌, ◌-◌, eqb}
use Rattle.standard.specs.Base.{◌then◌else◌, within}
use Rattle.standard.specs.Machine.{Result, tokens}
use Rattle.standard.specs.Handlers.{ascii}
use Rattle.standard.specs.Layouts.{euc_jp_layout}
use Rattle.standard.specs.Search.{PassedOver, pass_over, first, Lookup}
use Rattle.standard.specs.Encoders.Pairs.{pair_or_error_with, minus}

-- (02) Of the 11,280 cells of jis0208 everything from 8,836 is passed over.
abbrev pub jis0208_over : PassedOver
jis0208_over = pass_over 8836 11279

-- `jis0208`: the look-up in index jis0208
unfoldable pub euc_jp_encode : Lookup → ℕ → Result
euc_jp_encode jis0208 c =
    ascii c then tokens (c ∷ []) else  -- 2
    eqb c 0xA5 then tokens (0x5C ∷ []) else  -- 3
    eqb c 0x203E then tokens (0x7E ∷ []) else  -- 4
    within 0xFF61 c 0xFF9F then tokens (0x8E ∷ (c - 0xFF61 + 0xA1) ∷ []) else  -- 5
    pair_or_error_with euc_jp_layout (jis0208 first jis0208_over (minus c)) (minus c)  -- 6 to 11
