use mathlib.Core.Path.{◌≡◌, refl, sym, ap, ◌∙◌}
use mathlib.Core.Bool.{true}
use Prim.Native.Nat.{ℕ, ◌-◌, ◌+◌, ◌<◌}
use lib.ListN.{length, get_or}
use native.Mathlib.Omega.{arith}
use Rattle.standard.proofs.Tests.{fails, holds}
use Rattle.std.proofs.lemmas.Bool.{not_from_true, not_from_false}
use Rattle.reverse_index_spec.specs.ReverseIndex.{fits, hit}
use Rattle.reverse_index_spec.proofs.Building.{fits_facts}
use Rattle.reverse_index.proofs.Turns.{starts, turns_end, turn_low, turn_high, turn_first, turn_last, turn_on, by_walk, walk_none, walk_unfit}
use Rattle.reverse_index.proofs.walks.walk.Goals as goal
use Rattle.reverse_index.proofs.walks.walk.Goals.{Else-not-fits, then-n-eq0-via-then-n-eq0, then-n-eq0-via-else-n-eq0+then-not-fits, then-hits+in-Last, else-hits}

fitted : (c : Else-not-fits) → fits (length c.args.table.now) (length c.args.index.now) ≡ true
fitted c = holds c.fits.ensures (not_from_true _ c.if-not-fits.false)

facts : (c : Else-not-fits) → (length c.args.table.now < 0x100000000) × (length c.args.index.now ≡ length c.args.table.now + length c.args.table.now)
facts c = fits_facts _ _ (fitted c)

pub returns-then-n-eq0 : goal.returns-then-n-eq0
returns-then-n-eq0 c = elim c.then-n-eq0.branch [
  | then-n-eq0-via-then-n-eq0 w ↦ walk_none _ _ c.args.side _ _ w.if-n-eq0.true
  | then-n-eq0-via-else-n-eq0+then-not-fits w ↦ walk_unfit _ _ c.args.side _ _ (fails w.fits.ensures (not_from_false _ w.if-not-fits.true))
]

pub bucket-requires : goal.bucket-requires
bucket-requires c = omega (arith, c.if-n-eq0.false, facts c)

pub bounds-index-bucket : goal.bounds-index-bucket
bounds-index-bucket c = omega (arith, c.bucket.ensures.1, facts (goal.at.bounds-index-bucket c).Else-not-fits)

pub loop-turn-init : goal.loop-turn-init
loop-turn-init c = record {
  same = starts _ _ _ _ _ (ap (λ (b : ℕ). get_or c.args.index.now b 0) c.bucket.ensures.0) c.args.side;
  first = λ e. refl;
  size = (facts (goal.at.loop-turn-init c).Else-not-fits).1;
}

pub returns-in_default : goal.returns-in_default
returns-in_default c =
    let inv = c.loop-turn.invariant in
    by_walk _ _ (fitted (goal.at.returns-in_default c).Else-not-fits)
    (turn_low _ _ _ _ _ (omega arith) c.args.side _ inv.first (sym c.in_default.ensures) ∙ inv.same)

pub returns-then-n-p : goal.returns-then-n-p
returns-then-n-p c =
    let inv = c.loop-turn.invariant in
    by_walk _ _ (fitted (goal.at.returns-then-n-p c).Else-not-fits)
    (turn_high _ _ _ _ _ (omega arith) c.args.side _ inv.first (omega (arith, c.in-Some.ensures)) ∙ inv.same)

pub returns-in-First : goal.returns-in-First
unfolding hit
returns-in-First c =
    by_walk _ _ (fitted (goal.at.returns-in-First c).Else-not-fits)
    (turn_first _ _ _ _ _ (omega arith) _ c.in-Some.ensures c.if-n-p.false c.args.side _ c.in-First.is (sym c.hits.ensures ∙ c.if-hits.true) ∙
    c.loop-turn.invariant.same)

pub bounds-index-n : goal.bounds-index-n
bounds-index-n c = omega (arith, c.loop-turn.invariant.size)

pub loop-turn-preserved : goal.loop-turn-preserved
unfolding hit
loop-turn-preserved c =
    let inv = c.loop-turn.invariant in
    let z : 64 - (c.loop-turn._turn + 1) ≡ 64 - c.loop-turn._turn - 1 = omega arith in
    elim c.if-hits.branch [
      | then-hits+in-Last w ↦ record {
        same = rw (z, w.found-is) (turn_last _ _ _ _ _ (omega arith) _ c.in-Some.ensures c.if-n-p.false c.args.side _ w.in-Last.is (sym c.hits.ensures ∙ w.if-hits.true)) ∙ inv.same;
        first = λ e. cc;
        size = inv.size;
      }
      | else-hits w ↦ record {
        same = rw (z, w.found-is) (turn_on _ _ _ _ _ (omega arith) _ c.in-Some.ensures c.if-n-p.false c.args.side _ (sym c.hits.ensures ∙ w.if-hits.false)) ∙ inv.same;
        first = λ e. w.found-is ∙ inv.first e;
        size = inv.size;
      }
    ]

pub returns : goal.returns
returns c =
    by_walk _ _ (fitted (goal.at.returns c).Else-not-fits)
    (turns_end _ _ _ _ _ c.args.side c.loop-turn.found (omega (arith, c.loop-turn-test.false)) ∙ c.loop-turn.invariant.same)
