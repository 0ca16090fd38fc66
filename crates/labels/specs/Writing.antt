-- Writing a name to the front of a room. Assumes nothing.
use Rattle.std.specs.Prelude.{List, ◌++◌, ℕ, ltb, length, drop, Option, Some, None}
use Rattle.standard.specs.Base.{◌then◌else◌}
use Rattle.labels_spec.specs.Labels.{Naming, unnamed}

-- 2 where there is no name; 7 where the room is smaller than it; else the name at the front of the room.
abbrev pub written : Option (List ℕ) → List ℕ → Naming
written None room = unnamed 2 room
written (Some name) room =
    ltb (length room) (length name) then unnamed 7 room else
    record { answer = record { length = length name; refusal = 0 }; room = name ++ drop (length name) room }
