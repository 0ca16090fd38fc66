-- What parts of the code answer. Contracts of functions inside the library cite this. Assumes nothing.
use Rattle.std.specs.Prelude.{List, ℕ, suc, ◌+◌, get_or, set, Option, Some, None, Ok, Err}
use Rattle.std.specs.declared.result.Result.{Result}
use Rattle.standard.specs.Base.{◌then◌else◌, mapped}
use Rattle.standard.specs.Search.{Side, first, last}
use Rattle.reverse_index_spec.specs.ReverseIndex.{bucket}
use Rattle.reverse_index.specs.declared.Refusal.{Refusal}
use Rattle.reverse_index.specs.declared.Refusal.TheVariants.{UnknownEncoding, TableLength, IndexLength}
use Rattle.reverse_index.specs.declared.walks.Side.{Side as Wanted}
use Rattle.reverse_index.specs.declared.walks.Side.TheVariants.{First, Last}

-- An index with pointer p, its cell c, in front of its bucket; a cell that does not count as mapped has link 0.
unfoldable pub chained : ℕ → ℕ → ℕ → List ℕ → List ℕ
chained n p c index = mapped c then set (set index (n + p) (get_or index (bucket n c) 0)) (bucket n c) (suc p) else set index (n + p) 0

-- The link to a pointer; 0 for none.
abbrev pub link_of : Option ℕ → ℕ
link_of None = 0
link_of (Some p) = suc p

-- The standard's word for the side that is wanted.
abbrev pub side_of : Wanted → Side
side_of First = first
side_of Last = last

-- The refusal number of building, or 0.
abbrev pub number_of : Result (Unit {0}) Refusal → ℕ
number_of (Ok u) = 0
number_of (Err UnknownEncoding) = 2
number_of (Err TableLength) = 4
number_of (Err IndexLength) = 15
