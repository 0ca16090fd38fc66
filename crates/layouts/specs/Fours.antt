-- The pointer of gb18030's four bytes, with a number for none. Contracts of functions inside the library cite this. Assumes nothing.
use Rattle.std.specs.Prelude.{◌&&◌, ℕ}
use Rattle.standard.specs.Base.{◌then◌else◌, within}
use Rattle.standard.specs.Sequences.Gb18030.{gb18030_four_pointer}

-- no pointer: above all that the ranges have
abbrev pub no_four : ℕ
no_four = 1237576

unfoldable pub four_pointer : ℕ → ℕ → ℕ → ℕ → ℕ
four_pointer b c d e = within 0x81 b 0xFE && within 0x30 c 0x39 && within 0x81 d 0xFE && within 0x30 e 0x39 then gb18030_four_pointer b c d e else no_four
