-- The ranges of gb18030, pairs of a pointer and a code point, by a column: their pointers or, back, their code points. Contracts of
-- functions inside the library cite this. Assumes nothing.
use Rattle.std.specs.Prelude.{Bool, true, false, List, [], ◌∷◌, ℕ, ◌+◌, ◌-◌, ◌*◌, ◌/◌, ◌≤◌, ◌<◌, leb, length, get_or}
use Rattle.standard.specs.Base.{◌then◌else◌}
use Rattle.standard.specs.Indexes.{Range}

-- The number of pair k.
abbrev pub number : Bool → List ℕ → ℕ → ℕ
number false ranges k = get_or ranges (k * 2) 0
number true ranges k = get_or ranges (k * 2 + 1) 0

pub record Ascending (back : Bool) (ranges : List ℕ) : Type 0 where
  pub short : length ranges ≤ 65536
  pub order : (k : ℕ) → k + 1 < length ranges / 2 → number back ranges k ≤ number back ranges (k + 1)

-- Is a pair not above x, and its other number plus the difference.
abbrev pub not_above : Bool → ℕ → Range → Bool
not_above false x r = leb r.offset x
not_above true x r = leb r.code_point x

abbrev pub total : Bool → ℕ → Range → ℕ
total false x r = r.code_point + (x - r.offset)
total true x r = r.offset + (x - r.code_point)

-- one pair more, with the answer so far
abbrev pub onward : Bool → ℕ → ℕ → ℕ → ℕ → ℕ
onward back p c x found =
    not_above back x (record { offset = p; code_point = c }) then total back x (record { offset = p; code_point = c }) else found

-- the last pair in list order that is not above x
unfoldable pub last_sum : Bool → List ℕ → ℕ → ℕ → ℕ
last_sum back [] x found = found
last_sum back (p ∷ []) x found = found
last_sum back (p ∷ c ∷ ranges) x found = last_sum back ranges x (onward back p c x found)

-- The pair that decides, of those in order: not above x, or the first, and all behind it are above x.
pub record Decides (back : Bool) (ranges : List ℕ) (x k : ℕ) : Type 0 where
  pub inside : k < length ranges / 2
  pub reached : 0 < k → number back ranges k ≤ x
  pub behind : (i : ℕ) → k < i → i < length ranges / 2 → x < number back ranges i
