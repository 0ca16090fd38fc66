-- 000's "BOM sniff", and the encoding with which its "decode" reads: the mark's, or else the given one. Assumes nothing.
use Rattle.std.specs.Prelude.{Bool, true, false, ◌&&◌, ◌||◌, List, [], ◌∷◌, ℕ, ltb, eqb, length}
use Rattle.standard.specs.Base.{◌then◌else◌}

-- Bytes at the front of a stream that are read and left out, and the number of the encoding that reads what follows.
pub record Mark : Type 0 where
  pub bytes : List ℕ
  pub encoding : ℕ

abbrev pub mark : List ℕ → ℕ → Mark
mark xs e = record { bytes = xs; encoding = e }

-- The table of "BOM sniff": UTF-8, UTF-16BE, UTF-16LE.
abbrev pub marks : List Mark
marks = mark (0xEF ∷ 0xBB ∷ 0xBF ∷ []) 0 ∷ mark (0xFE ∷ 0xFF ∷ []) 37 ∷ mark (0xFF ∷ 0xFE ∷ []) 38 ∷ []

-- Does a stream start with some bytes?
unfoldable pub starts_with : List ℕ → List ℕ → Bool
starts_with xs [] = true
starts_with [] (b ∷ bs) = false
starts_with (x ∷ xs) (b ∷ bs) = eqb x b && starts_with xs bs

-- The first row of a table with whose bytes the stream starts; without one nothing is left out, and encoding e reads.
unfoldable pub sniff : List Mark → ℕ → List ℕ → Mark
sniff [] e xs = mark [] e
sniff (r ∷ rs) e xs = starts_with xs r.bytes then r else sniff rs e xs

-- Is a stream the front of a mark, but not the whole of it?
unfoldable pub waits : List Mark → List ℕ → Bool
waits [] xs = false
waits (r ∷ rs) xs = (starts_with r.bytes xs && ltb (length xs) (length r.bytes)) || waits rs xs
