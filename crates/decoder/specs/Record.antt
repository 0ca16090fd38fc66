-- The decoder's record: what it says, and the three records that calls leave: a new one, one that holds bytes, and one that has ended. Assumes nothing.
use Rattle.std.specs.Prelude.{Bool, true, false, ◌&&◌, List, [], ◌∷◌, ℕ, eqb, length, get_or, take}
use Rattle.standard.specs.Encodings.{family, traits}
use Rattle.standard.specs.Sequence.{Shift, shift}
use Rattle.standard.specs.Choice.{Spot, spot}
use Rattle.decoder.specs.declared.Decoder.{Decoder}

-- 1 for yes, 0 for no
abbrev pub bit : Bool → ℕ
bit true = 1
bit false = 0

-- The record read: its shift, the spot where reading stands, and the bytes held.
abbrev pub shift_of : Decoder → Shift
shift_of d = shift d.state (eqb d.flag 1)

abbrev pub spot_of : Decoder → Spot
spot_of d = spot d.stage (shift_of d)

abbrev pub held_of : Decoder → List ℕ
held_of d = take d.held (d.first ∷ d.second ∷ d.third ∷ [])

-- The record of encoding e and mode m, after n bytes and l line feeds, that stands at a spot and holds some bytes, at most three.
abbrev pub holding : ℕ → ℕ → ℕ → ℕ → Spot → List ℕ → Decoder
holding e m n l p xs = record {
  taken = n;
  lines = l;
  encoding = e;
  mode = m;
  stage = p.stage;
  state = p.shift.state;
  flag = bit p.shift.flag;
  held = length xs;
  first = get_or xs 0 0;
  second = get_or xs 1 0;
  third = get_or xs 2 0;
  ended = 0;
}

-- A new record has taken nothing and holds nothing. Its shift says whether a mark at the front is to be dropped, its stage whether one
-- is to choose: rule 0 drop, 1 keep, 2 choose.
abbrev pub new_shift : ℕ → ℕ → Shift
new_shift e rule = shift 0 ((traits (family e)).mark && eqb rule 0)

abbrev pub new_spot : ℕ → ℕ → Spot
new_spot e rule = spot (bit (eqb rule 2)) (new_shift e rule)

abbrev pub new : ℕ → ℕ → ℕ → Decoder
new e m rule = holding e m 0 0 (new_spot e rule) []

-- The record that has ended: its totals stay.
abbrev pub closed : ℕ → ℕ → ℕ → ℕ → Decoder
closed e m n l = record {
  taken = n;
  lines = l;
  encoding = e;
  mode = m;
  stage = 0;
  state = 0;
  flag = 0;
  held = 0;
  first = 0;
  second = 0;
  third = 0;
  ended = 1;
}
