use mathlib.Core.Path.{refl}
use mathlib.Core.List.{List}
use Prim.Native.Nat.{ℕ}
use Rattle.standard.specs.Machine.{reference}
use Rattle.standard.specs.Ones.{shift_to}
use Rattle.pair_writers.specs.Pairs.{bytes_of}
use Rattle.encoder.proofs.Counting.{counted_start, counted_stop, counted_end, counted_both, here_bytes, here_reference, here_stop}
use Rattle.encoder.proofs.Ones.{pair_bytes, pair_named}
use native.Mathlib.Omega.{arith}
use Rattle.encoder.proofs.pairs.count_by.Goals as goal
use Rattle.encoder.proofs.pairs.count_by.Goals.{After-state_for-to, in-Unwritable-2, in_default}

-- the way to the next state, and what is written of the scalar behind it
abbrev way : After-state_for-to → List ℕ
way c = shift_to c.loop-c.s c.state_for-to.result

pub loop-c-init : goal.loop-c-init
loop-c-init c = (counted_start _ _ _ _, c.requires.1, refl)

pub returns-in-Unwritable : goal.returns-in-Unwritable
returns-in-Unwritable c =
    let named = pair_named c.one_by-one.result _ _ _ _ _ c.one_by-one.ensures.0 _ c.state_for-to.ensures _ c.in-Unwritable.is in
    counted_stop _ _ _ _ _ _ _ c.loop-c.invariant.0 (here_stop _ _ _ _ _ c.loop-c-test.true named c.if-mode-eq1.true) _ c.size-n.ensures.0

-- a reference to the code point that the error names, or bytes
pub loop-c-preserved : goal.loop-c-preserved
loop-c-preserved c = (
  elim c.match-one.branch [
    | in-Unwritable-2 w ↦
        let named = pair_named c.one_by-one.result _ _ _ _ _ c.one_by-one.ensures.0 _ c.state_for-to.ensures _ w.in-Unwritable-2.is in
        rw w.n-is (counted_both _ _ _ _ _ _ _ c.loop-c.invariant.0 _ (way (goal.at.loop-c-preserved c).After-state_for-to) (reference w.in-Unwritable-2.named)
        (here_reference _ _ _ _ _ c.loop-c-test.true named w.if-mode-eq1.false) _ _ c.size-n.ensures.0 w.size-n-in-Unwritable-2.ensures.0
        (omega (arith, c.size-n.ensures.1, w.size-n-in-Unwritable-2.ensures.2)))
    | in_default w ↦
        let wrote = pair_bytes c.one_by-one.result _ _ _ _ _ c.one_by-one.ensures.0 _ c.state_for-to.ensures w.in_default.not-Unwritable in
        rw w.n-is (counted_both _ _ _ _ _ _ _ c.loop-c.invariant.0 _ (way (goal.at.loop-c-preserved c).After-state_for-to) (bytes_of c.one_by-one.result)
        (here_bytes _ _ _ _ _ c.loop-c-test.true wrote) _ _ c.size-n.ensures.0 w.size-n-in_default.ensures.0
        (omega (arith, c.size-n.ensures.1, w.size-n-in_default.ensures.1)))
  ],
  c.one_by-one.ensures.1,
  omega (arith, c.one_by-one.auto, c.loop-c.invariant.2),
)

pub returns : goal.returns
returns c = counted_end _ _ _ _ _ _ _ c.loop-c.invariant.0 c.loop-c-test.false
