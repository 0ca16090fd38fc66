-- 02, Ask 8: an index beside a table, of twice its length: a head for each bucket of code points, then a link from each pointer to the next
-- of its bucket. A link is 0 or a pointer plus 1. Assumes nothing.
use Rattle.std.specs.Prelude.{◌≡◌, Bool, true, false, ◌&&◌, not, List, [], ◌∷◌, ℕ, zero, suc, ◌+◌, ◌-◌, ◌/◌, ◌%◌, ◌≤◌, ◌<◌, ltb, leb, eqb, length, get_or, set}
use Rattle.std.proofs.Math.Option.{Option, some}
use Rattle.standard.specs.Base.{◌then◌else◌, mapped}
use Rattle.standard.specs.Search.{PassedOver, passed, Side, first, last, search, Lookup}

-- Has an index of m cells the length for a table of n? A table of 2^32 cells or more has no index: a link would not fit a cell.
unfoldable pub fits : ℕ → ℕ → Bool
fits n m = ltb n 0x100000000 && eqb m (n + n)

-- The bucket of a code point in a table of n cells: its upper part.
unfoldable pub bucket : ℕ → ℕ → ℕ
bucket n c = c / 2 % n

-- Does the cell at a pointer count as mapped, and belong to a bucket?
unfoldable pub member : List ℕ → ℕ → ℕ → Bool
member table b p = mapped (get_or table p 0) && eqb (bucket (length table) (get_or table p 0)) b

-- A link to the least pointer from p on that passes a test; 0 where there is none.
pub record Least (P : ℕ → Bool) (p l : ℕ) : Type 0 where
  pub leads : (q : ℕ) → l ≡ suc q → (p ≤ q) × (P q ≡ true)
  pub least : (q : ℕ) → p ≤ q → P q ≡ true → (0 < l) × (l ≤ suc q)

-- The true index of a table, cell by cell.
pub record True (table index : List ℕ) : Type 0 where
  pub size : length index ≡ length table + length table
  pub heads : (b : ℕ) → b < length table → Least (member table b) 0 (get_or index b 0)
  pub nexts : (p : ℕ) → p < length table → mapped (get_or table p 0) ≡ true →
      Least (member table (bucket (length table) (get_or table p 0))) (suc p) (get_or index (length table + p) 0)
  pub others : (p : ℕ) → p < length table → mapped (get_or table p 0) ≡ false → get_or index (length table + p) 0 ≡ 0

-- Its cells, computed. A link to the first of k pointers from p on that passes a test; the link from a pointer; each cell.
unfoldable pub seek : (ℕ → Bool) → ℕ → ℕ → ℕ
seek P p zero = 0
seek P p (suc k) = P p then suc p else seek P (suc p) k

unfoldable pub next_of : List ℕ → ℕ → ℕ
next_of table p =
    mapped (get_or table p 0) then seek (member table (bucket (length table) (get_or table p 0))) (suc p) (length table - suc p) else 0

unfoldable pub cell_of : List ℕ → ℕ → ℕ
cell_of table i = ltb i (length table) then seek (member table i) 0 (length table) else next_of table (i - length table)

-- f p, f (p + 1) and so on: k numbers
unfoldable pub tabulate : (ℕ → ℕ) → ℕ → ℕ → List ℕ
tabulate f p zero = []
tabulate f p (suc k) = f p ∷ tabulate f (suc p) k

unfoldable pub build : List ℕ → List ℕ
build table = tabulate (cell_of table) 0 (length table + length table)

-- An entry put in. Where the link to pointer p is to stand: along the bucket while links rise and stay at or below p, k links at the most.
unfoldable pub place : List ℕ → ℕ → ℕ → ℕ → ℕ → ℕ → ℕ
place index n p zero low at = at
place index n p (suc k) low at =
    ltb low (get_or index at 0) && leb (get_or index at 0) p then place index n p k (get_or index at 0) (n + (get_or index at 0 - 1)) else at

-- The link found there goes behind p, and one to p stands in its place.
unfoldable pub linked : List ℕ → ℕ → ℕ → ℕ → List ℕ
linked index n p at = set (set index (n + p) (get_or index at 0)) at (suc p)

unfoldable pub insert : ℕ → List ℕ → ℕ → ℕ → List ℕ
insert n index p c = linked index n p (place index n p p 0 (bucket n c))

-- A pointer that is searched, and whose cell counts as mapped and is the code point.
unfoldable pub hit : PassedOver → List ℕ → ℕ → ℕ → Bool
hit over table c p = not (passed over p) && (mapped (get_or table p 0) && eqb (get_or table p 0) c)

-- A walk along k links at the most, while they lead into the table: a link to the first pointer that passes a test. 0: none was met.
unfoldable pub walk_first : (ℕ → Bool) → List ℕ → ℕ → ℕ → ℕ → ℕ
walk_first P index n zero link = 0
walk_first P index n (suc k) link =
    ltb 0 link && leb link n then (P (link - 1) then link else walk_first P index n k (get_or index (n + (link - 1)) 0)) else 0

-- .. to the last, where the links end; `best` is the last that was met.
unfoldable pub walk_last : (ℕ → Bool) → List ℕ → ℕ → ℕ → ℕ → ℕ → ℕ
walk_last P index n zero link best = 0
walk_last P index n (suc k) link best =
    ltb 0 link && leb link n then walk_last P index n k (get_or index (n + (link - 1)) 0) (P (link - 1) then link else best) else best

-- Along a code point's bucket, 64 links at the most: more than any bucket of a published table has.
unfoldable pub walk : List ℕ → List ℕ → Side → PassedOver → ℕ → ℕ
walk table index first over c = walk_first (hit over table c) index (length table) 64 (get_or index (bucket (length table) c) 0)
walk table index last over c = walk_last (hit over table c) index (length table) 64 (get_or index (bucket (length table) c) 0) 0

-- the pointer that a link leads to, or another answer where it is 0
abbrev pub or_else : ℕ → Option ℕ → Option ℕ
or_else zero other = other
or_else (suc p) other = some p

-- The look-up by an index of any cells. One of the wrong length is not read; where no pointer is met the table is searched.
unfoldable pub look_up : List ℕ → List ℕ → Lookup
look_up table index side over c =
    or_else (fits (length table) (length index) then walk table index side over c else 0) (search side over table c)
