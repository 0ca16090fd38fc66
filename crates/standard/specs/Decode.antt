-- Decoding: sequence after sequence, and what the end of input gives. Assumes nothing.
use Rattle.std.specs.Prelude.{List, [], ◌∷◌, ◌++◌, ℕ, zero, suc, length, drop}
use Rattle.standard.specs.Encodings.{Tables, Family, ISO-2022-JP, UTF-8, single-byte, windows-1252, GB18030, Big5, EUC-JP, Shift-JIS, EUC-KR, Replacement, UTF-16BE, UTF-16LE, x-user-defined}
use Rattle.standard.specs.Sequence.{Shift, Out, error, Next, more, item}
use Rattle.standard.specs.Next.{next}
pub use Rattle.standard.specs.Items.{Item, span, Read, given}
unfoldable pub use Rattle.standard.specs.Items.{shown, broken, before, widths, reach}

abbrev pub put : ℕ → Out → Read → Read
put w o r = record { items = span w o ∷ r.items; shift = r.shift; rest = r.rest }

-- Sequence after sequence, at most `fuel` times.
unfoldable pub reads : (Shift → List ℕ → Next) → ℕ → Shift → List ℕ → Read
reads f zero s xs = record { items = []; shift = s; rest = xs }
reads f (suc fuel) s xs = elim (f s xs) [
  | more ↦ record { items = []; shift = s; rest = xs }
  | item w s' o ↦ put w o (reads f fuel s' (drop w xs))
]

unfoldable pub decode : (Shift → List ℕ → Next) → Shift → List ℕ → Read
decode f s xs = reads f (length xs) s xs

-- What the end of input gives for the bytes held: one error; but in ISO-2022-JP 1B goes alone, and the byte after it is read for itself.
unfoldable pub one_error : List ℕ → List Item
one_error [] = []
one_error (b ∷ xs) = span (suc (length xs)) error ∷ []

abbrev pub last_out : Next → Out
last_out more = error
last_out (item w s o) = o

unfoldable pub iso_end : Tables → Shift → List ℕ → List Item
iso_end t s [] = []
iso_end t s (b ∷ []) = span 1 error ∷ []
iso_end t s (b ∷ c ∷ xs) = span 1 error ∷ span (suc (length xs)) (last_out (next t ISO-2022-JP s (c ∷ []))) ∷ []

unfoldable pub ending : Tables → Family → Shift → List ℕ → List Item
ending t UTF-8 s xs = one_error xs
ending t single-byte s xs = one_error xs
ending t windows-1252 s xs = one_error xs
ending t GB18030 s xs = one_error xs
ending t Big5 s xs = one_error xs
ending t EUC-JP s xs = one_error xs
ending t ISO-2022-JP s xs = iso_end t s xs
ending t Shift-JIS s xs = one_error xs
ending t EUC-KR s xs = one_error xs
ending t Replacement s xs = one_error xs
ending t UTF-16BE s xs = one_error xs
ending t UTF-16LE s xs = one_error xs
ending t x-user-defined s xs = one_error xs

-- Everything that a whole input gives, from a shift: what its sequences give, and what the end gives.
unfoldable pub everything : Tables → Family → Shift → List ℕ → List Item
everything t f s xs =
    let r = decode (next t f) s xs in
    r.items ++ ending t f r.shift r.rest
