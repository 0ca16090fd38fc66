-- 000, 14.5.2: the encoder of x-user-defined, with the numbers of 000's steps. Assumes nothing.
use Rattle.std.specs.Prelude.{[], ◌∷◌, ℕ, ◌+◌, ◌-◌}
use Rattle.standard.specs.Base.{◌then◌else◌, within}
use Rattle.standard.specs.Machine.{Result, tokens, error_with}
use Rattle.standard.specs.Handlers.{ascii}

unfoldable pub user_defined_encode : ℕ → Result
user_defined_encode c =
    ascii c then tokens (c ∷ []) else  -- 2
    within 0xF780 c 0xF7FF then tokens ((c - 0xF780 + 0x80) ∷ []) else  -- 3
    error_with c  -- 4
