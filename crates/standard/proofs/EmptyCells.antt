-- Laws of empty cells, which are 0. A search passes over them, however many stand in front of others or behind them. Assumes nothing.
use mathlib.Core.Path.{◌≡◌, refl, ap, fun_ext, ◌∙◌}
use mathlib.Core.Bool.{Bool, true, false, ◌&&◌, not}
use mathlib.Core.List.{List, [], ◌∷◌, ◌++◌}
use mathlib.Core.Option.{Option, some, none}
use Prim.Native.Nat.{ℕ, zero, suc, ◌+◌, ◌-◌}
use native.Mathlib.Omega.{arith}
use lib.ListN.{length, get_or, replicate}
use Rattle.standard.specs.Base.{◌then◌else◌}
use Rattle.standard.specs.Search.{PassedOver, passed, Side, first, last, either, here, search_from, search, searching, Lookup}
use Rattle.standard.specs.Encoders.Samples.{table}

pub empty_cell : (n k : ℕ) → ◌≡◌ {A = ℕ} (get_or (replicate n 0) k 0) 0
empty_cell zero k = refl
empty_cell (suc n) zero = refl
empty_cell (suc n) (suc k) = empty_cell n k

-- An empty cell has no answer, and leaves that of the cells behind it.
empty_here : (over : PassedOver) (c p : ℕ) → here over c p 0 ≡ none
empty_here over c p = go (not (passed over p))
  where
    go : (b : Bool) → (b && false then some p else none) ≡ none
    go true = refl
    go false = refl

behind_none : (side : Side) (o : Option ℕ) → either side none o ≡ o
behind_none first o = refl
behind_none last (some p) = refl
behind_none last none = refl

module _ (side : Side) (over : PassedOver) (c : ℕ) where
  past_empty : (p : ℕ) (index : List ℕ) → search_from side over p (0 ∷ index) c ≡ search_from side over (suc p) index c
  unfolding search_from
  past_empty p index = rw (empty_here over c p) (behind_none side (search_from side over (suc p) index c))

  empty_front : (n p : ℕ) (index : List ℕ) → search_from side over p (replicate n 0 ++ index) c ≡ search_from side over (p + n) index c
  empty_front zero p index = ap (λ q. search_from side over q index c) (omega arith)
  empty_front (suc n) p index =
      past_empty p (replicate n 0 ++ index) ∙ empty_front n (suc p) index ∙ ap (λ q. search_from side over q index c) (omega arith)

  none_empty : (n p : ℕ) → search_from side over p (replicate n 0) c ≡ none
  unfolding search_from
  none_empty zero p = refl
  none_empty (suc n) p = past_empty p (replicate n 0) ∙ none_empty n (suc p)

  empty_back : (n p : ℕ) (cells : List ℕ) → search_from side over p (cells ++ replicate n 0) c ≡ search_from side over p cells c
  unfolding search_from
  empty_back n p [] = none_empty n p
  empty_back n p (x ∷ cells) = ap (either side (here over c p x)) (empty_back n (suc p) cells)

  in_front : (p : ℕ) (cells : List ℕ) → search side over (replicate p 0 ++ cells) c ≡ search_from side over p cells c
  in_front p cells = empty_front p 0 cells ∙ ap (λ q. search_from side over q cells c) (omega arith)

-- A look-up in some cells from a pointer on.
abbrev pub cells_from : ℕ → List ℕ → Lookup
cells_from p cells side over c = search_from side over p cells c

-- So a look-up in a table of the samples is one in its cells alone.
pub by_front : (p : ℕ) (cells : List ℕ) → searching (replicate p 0 ++ cells) ≡ cells_from p cells
by_front p cells = fun_ext (λ side. fun_ext (λ over. fun_ext (λ c. in_front side over c p cells)))

pub by_table_lem : (n p : ℕ) (cells : List ℕ) → searching (table n p cells) ≡ cells_from p cells
by_table_lem n p cells = let k = n - (p + length cells) in
    by_front p (cells ++ replicate k 0) ∙ fun_ext (λ side. fun_ext (λ over. fun_ext (λ c. empty_back side over c k p cells)))
