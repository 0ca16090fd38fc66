-- 000, 9.2: the encoder of the single-byte encodings, with the numbers of 000's steps. Assumes nothing.
use Rattle.std.specs.Prelude.{[], ◌∷◌, ℕ, ◌+◌}
use Rattle.std.proofs.Math.Option.{Option, some, none}
use Rattle.standard.specs.Base.{◌then◌else◌}
use Rattle.standard.specs.Machine.{Result, tokens, error_with}
use Rattle.standard.specs.Handlers.{ascii}
use Rattle.standard.specs.Search.{none_over, first, Lookup}

-- a byte from a pointer, or an error that names the code point
abbrev pub or_error_with : Option ℕ → ℕ → Result
or_error_with (some p) c = tokens ((p + 0x80) ∷ [])
or_error_with none c = error_with c

-- `index`: the look-up in index single-byte
unfoldable pub single_byte_encode : Lookup → ℕ → Result
single_byte_encode index c =
    ascii c then tokens (c ∷ []) else  -- 2
    or_error_with (index first none_over c) c  -- 3 to 5
