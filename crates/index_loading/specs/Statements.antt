-- What is proved of loading: in parts of any lengths it comes to what the whole file gives, line by line. Assumes nothing.
use Rattle.std.specs.Prelude.{◌≡◌, List, [], ◌∷◌, ◌++◌, ℕ}
use Rattle.standard.specs.Text.{bytes}
use Rattle.index_loading.specs.Loading.{Loaded, loading}
use Rattle.index_loading.specs.Steps.{Place, on_bytes, on_end, loaded_at}

-- Before the first byte, and after some parts of a file.
abbrev pub fresh : List ℕ → Place
fresh table = record { line = []; table = table; refusal = 0 }

unfoldable pub joined : List (List ℕ) → List ℕ
joined [] = []
joined (b ∷ bs) = b ++ joined bs

unfoldable pub after_parts : Place → List (List ℕ) → Place
after_parts p [] = p
after_parts p (b ∷ bs) = after_parts (on_bytes p b) bs

-- A table of three cells, all free, and what a file makes of it.
abbrev pub three : List ℕ
three = 0 ∷ 0 ∷ 0 ∷ []

abbrev pub loads : List ℕ → ℕ → List ℕ → Type 0
loads file refusal table = ◌≡◌ {A = Loaded} (loading three file) (record { refusal = refusal; table = table })

pub record Loads : Type 0 where
  pub any_parts : (table : List ℕ) (parts : List (List ℕ)) → loaded_at (on_end (after_parts (fresh table) parts)) ≡ loading table (joined parts)
  -- the last line needs no line feed; empty lines make no entry
  pub last_line : loads (bytes "\n0\t0x00E9\n2\t0x3042") 0 (0xE9 ∷ 0 ∷ 0x3042 ∷ [])
  -- the first line at fault decides: a bad one, a pointer used twice
  pub bad : loads (bytes "1 0x00E9\n0\t0x00E9\n") 12 three
  pub twice : loads (bytes "0\t0x00E9\n0\t0x00E9\nx") 13 (0xE9 ∷ 0 ∷ 0 ∷ [])
