use mathlib.Core.Path.{◌≡◌, ap, ◌∙◌}
use mathlib.Core.List.{[], ◌∷◌}
use Prim.Native.Nat.{ℕ}
use lib.ListN.{length-append}
use native.Mathlib.Omega.{arith}
use Rattle.std.proofs.Common.{Iter}
use Rattle.std.proofs.lemmas.Slice.Zip.{zip_turn}
use Rattle.std.specs.declared.iter.Zip.{Zip}
use Rattle.std.specs.Slice.Iter.{iter_rest}
use Rattle.std.specs.Iterator.Adapters.{zip_first, zip_second}
use Rattle.pair_writers.proofs.Filling.{row_on}
use Rattle.pair_writers.proofs.slots.fill_row.Goals as goal

-- the turn's cell and trail are those at one place of the row and of the trails
pub loop-c-preserved : goal.loop-c-preserved
loop-c-preserved c =
    let inv = c.loop-c.invariant in
    let begun = c.into_iter-c-iterator.ensures.into_iter_gives in
    let cells = ap (λ (z : Zip (Iter ℕ) (Iter ℕ)). iter_rest (zip_first z)) begun ∙
    ap (λ (i : Iter ℕ). iter_rest i) c.zip-c-items.ensures.first ∙ c.iter.ensures.rest in
    let trails : iter_rest (zip_second c.zip-c-items.result) ≡ c.args.trails.now = c.zip-c-items.ensures.second.0 in
    let turn = zip_turn _ _ c.loop-c.yielded c.into_iter-c-iterator.result c.loop-c.c-iterator c.next.new.self c.next.result
    cells (ap (λ (z : Zip (Iter ℕ) (Iter ℕ)). iter_rest (zip_second z)) begun ∙ trails)
    c.loop-c.yielded_by (c.in-Some.c, c.in-Some.trail) c.in-Some.is c.next.ensures.steps in (
      c.enter.auto.slots ∙ inv.0,
      λ e r f. row_on _ _ c.args.at c.args.width _ _ _ _ _ _ (omega (arith, c.requires.0)) turn.0 turn.2 turn.3 r (inv.1 e r f)
          _ _ (length-append c.loop-c.yielded ((c.in-Some.c, c.in-Some.trail) ∷ [])) c.enter.ensures,
    )
