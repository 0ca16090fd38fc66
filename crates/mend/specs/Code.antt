-- What functions within a step answer. A wrong line here would break a proof. Assumes nothing.
use Rattle.std.specs.Prelude.{◌≡◌, List, ℕ, ◌*◌, ◌≤◌, length}
use Rattle.replacements_spec.specs.Calls.{Handed}
use Rattle.replacements_spec.specs.declared.Replacing.{Replacing}
use Rattle.mend.specs.declared.Rooms.{Rooms}

-- A call's answer, with the room and the spans that it leaves.
abbrev pub handed : Replacing → List ℕ → List ℕ → Handed
handed a room spans = record { answer = a; room = room; spans = spans }

-- What a call told lies in its rooms.
pub record Told (a : Replacing) (room spans : List ℕ) : Type 0 where
  pub written : a.answer.written ≤ length room
  pub count : 2 * a.count ≤ length spans

-- The rooms of a step are as long as their type says, which a caller does not know of rooms that a call has written.
pub record Sized (rooms : Rooms) : Type 0 where
  pub room : length rooms.room ≡ 4099
  pub spans : length rooms.spans ≡ 8198
  pub out : length rooms.out ≡ 16396
  pub report : length rooms.report ≡ 262368
