-- 000, 11.1.2: the encoder of Big5, with the numbers of 000's steps, and the index Big5 pointer of section 5. Assumes nothing.
use Rattle.std.specs.Prelude.{◌||◌, [], ◌∷◌, ℕ, eqb}
use Rattle.standard.specs.Base.{◌then◌else◌}
use Rattle.standard.specs.Machine.{Result, tokens}
use Rattle.standard.specs.Handlers.{ascii}
use Rattle.standard.specs.Layouts.{big5_layout}
use Rattle.standard.specs.Search.{PassedOver, pass_over, Side, first, last, Lookup}
use Rattle.standard.specs.Encoders.Pairs.{pair_or_error_with}

-- The index Big5 pointer, step 1: all pointers less than (0xA1 - 0x81) × 157, which is 5,024, are passed over.
abbrev pub big5_over : PassedOver
big5_over = pass_over 0 5023

-- its steps 2 and 3: the last pointer for six code points, otherwise the first
abbrev pub big5_side : ℕ → Side
big5_side c = eqb c 0x2550 || eqb c 0x255E || eqb c 0x2561 || eqb c 0x256A || eqb c 0x5341 || eqb c 0x5345 then last else first

-- `index`: the look-up in index Big5
unfoldable pub big5_encode : Lookup → ℕ → Result
big5_encode index c =
    ascii c then tokens (c ∷ []) else  -- 2
    pair_or_error_with big5_layout (index (big5_side c) big5_over c) c  -- 3 to 8
