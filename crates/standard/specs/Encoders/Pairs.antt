-- What the encoders that write two bytes share. Assumes nothing.
use Rattle.std.proofs.Math.Option.{Option, some, none}
use Rattle.std.specs.Prelude.{ℕ, eqb}
use Rattle.standard.specs.Base.{◌then◌else◌}
use Rattle.standard.specs.Machine.{Result, tokens, error_with}
use Rattle.standard.specs.Layouts.{Layout, two_bytes}

-- two bytes by the layout, or where pointer is null something else
abbrev pub pair_or : Layout → Option ℕ → Result → Result
pair_or y none other = other
pair_or y (some p) other = tokens (two_bytes y p)

-- "If pointer is null, return error with code point."
abbrev pub pair_or_error_with : Layout → Option ℕ → ℕ → Result
pair_or_error_with y pointer c = pair_or y pointer (error_with c)

-- Shift_JIS and EUC-JP: "If code point is U+2212, set it to U+FF0D." It is looked up and named in an error so.
abbrev pub minus : ℕ → ℕ
minus c = eqb c 0x2212 then 0xFF0D else c
