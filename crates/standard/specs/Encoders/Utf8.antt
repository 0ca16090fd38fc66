-- 000, 8.1.2: the encoder of UTF-8, with the numbers of 000's steps. Step 1, end-of-stream, is `encode_handler`'s. Assumes nothing.
use Rattle.std.specs.Prelude.{List, [], ◌∷◌, ℕ, zero, suc, ◌+◌, ◌*◌, ◌/◌, ◌%◌, ◌^◌, leb}
use Rattle.standard.specs.Base.{◌then◌else◌}
use Rattle.standard.specs.Machine.{Result, tokens}
use Rattle.standard.specs.Handlers.{ascii}

-- step 5, `0x80 | (temp & 0x3F)` for each place from count - 1 down to 0
unfoldable pub utf8_following : ℕ → ℕ → List ℕ
utf8_following zero c = []
utf8_following (suc count) c = (0x80 + c / 2 ^ (6 * count) % 0x40) ∷ utf8_following count c

-- steps 4 to 6
unfoldable pub utf8_bytes : ℕ → ℕ → ℕ → List ℕ
utf8_bytes count offset c = (c / 2 ^ (6 * count) + offset) ∷ utf8_following count c

unfoldable pub utf8_encode : ℕ → Result
utf8_encode c =
    ascii c then tokens (c ∷ []) else  -- 2
    leb c 0x7FF then tokens (utf8_bytes 1 0xC0 c) else  -- 3
    leb c 0xFFFF then tokens (utf8_bytes 2 0xE0 c) else
    tokens (utf8_bytes 3 0xF0 c)
