-- Text in UTF-8: the bytes of 000's encoder. Assumes nothing.
use Rattle.std.specs.Prelude.{List, [], ◌∷◌, ◌++◌, ℕ, leb}
use Rattle.standard.specs.Base.{◌then◌else◌}
use Rattle.standard.specs.Machine.{Result, finished, continue, tokens, error, error_with}
use Rattle.standard.specs.Encoders.Utf8.{utf8_encode}

-- The bytes that a handler's result gives.
abbrev pub bytes_in : Result → List ℕ
bytes_in (tokens bs) = bs
bytes_in finished = []
bytes_in continue = []
bytes_in error = []
bytes_in (error_with c) = []

-- The bytes of a scalar; a number above 0x10FFFF, which no decoder hands out, has none.
abbrev pub utf8_one : ℕ → List ℕ
utf8_one c = leb c 0x10FFFF then bytes_in (utf8_encode c) else []

unfoldable pub utf8 : List ℕ → List ℕ
utf8 [] = []
utf8 (c ∷ cs) = utf8_one c ++ utf8 cs
