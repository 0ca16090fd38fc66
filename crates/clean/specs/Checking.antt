-- Document 02, Ask 10: is a list clean? Decoded whole in refusing mode, by rule drop, finish included. Assumes nothing.
use Rattle.std.specs.Prelude.{not, List, ℕ, ◌+◌, ltb, eqb, length}
use Rattle.standard.specs.Base.{◌then◌else◌, line_feeds}
use Rattle.standard.specs.Encodings.{family, Tables, fits}
use Rattle.standard.specs.Items.{Item, broken, before, reach}
use Rattle.standard.specs.Decode.{everything}
use Rattle.decoder.specs.Record.{new_shift}
use Rattle.clean.specs.declared.Checked.{Checked}

-- 2, 4, 8
unfoldable pub check_refusal : ℕ → Tables → List ℕ → ℕ
check_refusal e t xs =
    ltb 39 e then 2 else
    not (fits (family e) t) then 4 else
    ltb 65536 (length xs) then 8 else 0

-- The answers: refused, clean, and an error with its place and line.
abbrev pub refuse : ℕ → Checked
refuse n = record { place = 0; line = 0; refusal = n; clean = 0 }

abbrev pub clean : Checked
clean = record { place = 0; line = 0; refusal = 0; clean = 1 }

abbrev pub faulty : ℕ → ℕ → Checked
faulty place line = record { place = place; line = line; refusal = 0; clean = 0 }

-- the answer by the sequences of the whole
abbrev pub judge : List Item → Checked
judge is = broken is then faulty (reach is) (1 + line_feeds (before is)) else clean

unfoldable pub checking : ℕ → Tables → List ℕ → Checked
checking e t xs =
    eqb (check_refusal e t xs) 0 then judge (everything t (family e) (new_shift e 0) xs) else
    refuse (check_refusal e t xs)
