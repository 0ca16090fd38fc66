-- 000, 10.2.2: the encoder of gb18030, and with `is_gbk` that of GBK (10.1.2), with the numbers of 000's steps; (02) stands where document
-- 02 changes one. Assumes nothing.
use Rattle.std.specs.Prelude.{Bool, false, ◌&&◌, List, [], ◌∷◌, ℕ, ◌+◌, ◌/◌, ◌%◌, eqb}
use Rattle.std.proofs.Math.Option.{Option, some, none}
use Rattle.standard.specs.Base.{◌then◌else◌}
use Rattle.standard.specs.Indexes.{ranges_code_point, ranges_pointer}
use Rattle.standard.specs.Machine.{Result, tokens, error_with}
use Rattle.standard.specs.Handlers.{ascii}
use Rattle.standard.specs.Layouts.{gb18030_layout}
use Rattle.standard.specs.Search.{none_over, first, Lookup}
use Rattle.standard.specs.Encoders.Pairs.{pair_or}

-- 9 to 15: 10 × 126 × 10 is 12,600, and 10 × 126 is 1,260
abbrev pub four_bytes : ℕ → List ℕ
four_bytes p = (p / 12600 + 0x81) ∷ (p % 12600 / 1260 + 0x30) ∷ (p % 12600 % 1260 / 10 + 0x81) ∷ (p % 12600 % 1260 % 10 + 0x30) ∷ []

-- Is what is read the scalar?
abbrev pub gives_back : Option ℕ → ℕ → Bool
gives_back none c = false
gives_back (some d) c = eqb d c

-- (02) An error where there is no pointer, or the four-byte reading of it does not give the scalar back.
abbrev pub four_or_error_with : List ℕ → Option ℕ → ℕ → Result
four_or_error_with ranges none c = error_with c
four_or_error_with ranges (some p) c = gives_back (ranges_code_point ranges p) c then tokens (four_bytes p) else error_with c

-- `index`: the look-up in index gb18030
unfoldable pub gb18030_encode : Bool → Lookup → List ℕ → ℕ → Result
gb18030_encode is_gbk index ranges c =
    ascii c then tokens (c ∷ []) else  -- 2
    eqb c 0xE5E5 then error_with c else  -- 3
    is_gbk && eqb c 0x20AC then tokens (0x80 ∷ []) else  -- 4
    pair_or gb18030_layout (index first none_over c) ( -- 5, 6
    is_gbk then error_with c else  -- 7
    four_or_error_with ranges (ranges_pointer ranges c) c)  -- 8 to 15
