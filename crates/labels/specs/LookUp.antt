-- How the code looks labels up. Contracts of private functions cite these; no promise of a public call rests on them. Assumes nothing.
use Rattle.std.specs.Prelude.{List, map, ℕ, length, Option, Some, None, bytes_eq, find, option_map}
use Rattle.std.specs.Borrow.{Bor}
use Rattle.std.specs.Char.{to_ascii_lowercase}
use Rattle.std.specs.List.{slice_get}
use Rattle.std.proofs.Math.Option as math
use Rattle.std.proofs.Math.Option.{some, none}

-- Labels of one length, each with its encoding's number.
abbrev pub Group : Type 0
Group = List (Bor (List ℕ) × ℕ)

-- The encoding that a group gives for a label whose letters are folded.
abbrev pub seek : List ℕ → Group → Option ℕ
seek l group = option_map (λ (r : Bor (List ℕ) × ℕ). r.1) (find (λ (r : Bor (List ℕ) × ℕ). bytes_eq l (map to_ascii_lowercase r.0.now)) group)

-- The same of a group that may not be there.
abbrev pub seek_in : List ℕ → Option (Bor Group) → Option ℕ
seek_in l None = None
seek_in l (Some group) = seek l group.now

-- The encoding that groups by length give: those of n bytes at place n.
unfoldable pub look_up : List ℕ → List (Bor Group) → Option ℕ
look_up l groups = seek_in l (slice_get groups (length l))

-- The encoding that the definition finds, as the code has it.
abbrev pub number : math.Option ℕ → Option ℕ
number none = None
number (some e) = Some e
