use mathlib.Core.Path.{◌≡◌, sym, subst, refl}
use mathlib.Core.Bool.{true, false}
use lib.Dec.{T}
use native.Mathlib.Omega.{arith}
use Rattle.pair_runs.proofs.Layouts.{none_held_lem}
use Rattle.pair_runs.proofs.pairs.text.Goals as goal

-- ranges that are not searched
unsearched : {A : Type 0} → false ≡ true → A
unsearched q = absurd (subst T (sym q) tt)

pub items-requires : goal.items-requires
items-requires c = let pre = c.requires in (omega arith, (omega arith, pre.0, pre.1, tt, unsearched, pre.2))

pub lay_out-requires : goal.lay_out-requires
lay_out-requires c = (c.requires.0, none_held_lem _ refl)

pub items-requires-then-chunk-from : goal.items-requires-then-chunk-from
items-requires-then-chunk-from c =
    let pre = c.requires in
    (omega arith, (omega arith, pre.0, pre.1, c.lay_out.ensures, unsearched, pre.2))
