-- Loading as the code does it, a byte at a time: of a started line at most 1,025 bytes are kept. Contracts cite these; that they come to
-- `loading` is proved. Assumes nothing.
use Rattle.std.specs.Prelude.{◌≡◌, List, [], ◌∷◌, ◌++◌, ℕ, ◌≤◌, ◌<◌, ltb, eqb, length, take, Ok, Err}
use Rattle.std.specs.declared.result.Result.{Result}
use Rattle.standard.specs.Base.{◌then◌else◌}
use Rattle.index_spec.specs.IndexCall.{index_line}
use Rattle.index_loading.specs.Loading.{Loaded}
use Rattle.index_loading.specs.declared.Loading.{Loading}

-- Where loading stands: the bytes kept of the started line, the table, and a refusal number or 0.
pub record Place : Type 0 where
  pub line : List ℕ
  pub table : List ℕ
  pub refusal : ℕ

-- The started line is closed.
abbrev pub close : Place → Place
close p = let o = index_line p.line p.table in record { line = []; table = o.table; refusal = o.answer.refusal }

-- One byte more: the end of the line, or a byte that is kept where fewer than 1,025 are. Nothing is done behind a line at fault.
unfoldable pub on_byte : Place → ℕ → Place
on_byte p b =
    eqb p.refusal 0 then (
    eqb b 0x0A then close p else
    ltb (length p.line) 1025 then record { line = p.line ++ b ∷ []; table = p.table; refusal = 0 } else p) else p

unfoldable pub on_bytes : Place → List ℕ → Place
on_bytes p [] = p
on_bytes p (b ∷ bs) = on_bytes (on_byte p b) bs

-- The end of the file.
unfoldable pub on_end : Place → Place
on_end p = eqb p.refusal 0 then close p else p

abbrev pub loaded_at : Place → Loaded
loaded_at p = record { refusal = p.refusal; table = p.table }

-- The code's place: so many bytes at the front of the kept ones.
abbrev pub placed : Loading → List ℕ → List ℕ → Place
placed s kept table = record { line = take s.length kept; table = table; refusal = s.refusal }

-- A place with n bytes kept.
abbrev pub at : ℕ → ℕ → Loading
at n refusal = record { length = n; refusal = refusal }

-- Where loading stands once a step of the code is done: the bytes that are kept, or the refusal number of a line at fault.
abbrev pub told : Result ℕ ℕ → Loading
told (Ok n) = at n 0
told (Err r) = at 0 r

-- This is where loading is to stand.
pub record Stands (p : Place) (s : Loading) (kept table : List ℕ) : Type 0 where
  pub few : s.length ≤ 1025
  pub stands : placed s kept table ≡ p

-- More than 1,025 bytes are never kept.
abbrev pub most : Loading → Loading
most s = at (ltb 1025 s.length then 1025 else s.length) s.refusal

-- A call by which loading goes on, in a room for 1,025 bytes of a line; in a smaller one it is refused with 7, and nothing is altered.
pub record GoesOn (kept table : List ℕ) (s : Loading) (f : Place → Place) (r : Loading) (kept' table' : List ℕ) : Type 0 where
  pub goes : 1025 ≤ length kept → Stands (f (placed (most s) kept table)) r kept' table'
  pub short : length kept < 1025 → (r ≡ at s.length 7) × (kept' ≡ kept) × (table' ≡ table)
