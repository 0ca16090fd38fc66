use mathlib.Core.Path.{refl}
use mathlib.Core.List.{[], ◌∷◌}
use Prim.Native.Nat.{◌≤◌}
use native.Mathlib.Omega.{arith}
use lib.ListN.{get_or}
use Rattle.standard.specs.Machine.{reference}
use Rattle.encoder.specs.WriterCode.{encoder_of}
use Rattle.encoder.proofs.Counting.{counted_start, counted_here, counted_end, counted_on, here_bytes, here_reference, here_stop}
use Rattle.encoder.proofs.Counting.{told_byte, told_none, scalar_at}
use Rattle.encoder.proofs.one_byte.count_by.Goals as goal
use Rattle.encoder.proofs.one_byte.count_by.Goals.{In-loop-c, in-Some, in-None-2}

pub loop-c-init : goal.loop-c-init
loop-c-init c = counted_start _ _ _ _

pub overflow_add-n : goal.overflow_add-n
overflow_add-n c =
    record { fits = omega (arith, c.loop-c.invariant.bound, c.requires.2, c.loop-c-test.true) }

-- the scalar of a reference
small : (c : In-loop-c) → get_or c.args.scalars.now c.loop-c.c-index 0 ≤ 0x10FFFF
small c = scalar_at c.args.scalars.now c.loop-c.c-index c.requires.1 c.loop-c-test.true

pub overflow_add-n-in-None-2 : goal.overflow_add-n-in-None-2
overflow_add-n-in-None-2 c =
    record { fits = omega (arith, c.loop-c.invariant.bound, c.size-n.ensures.1, small (goal.at.overflow_add-n-in-None-2 c).In-loop-c, c.requires.2, c.loop-c-test.true) }

pub returns-in-None : goal.returns-in-None
returns-in-None c =
    counted_here _ _ _ _ _ _ _ c.loop-c.invariant
    (here_stop _ _ _ _ _ c.loop-c-test.true (told_none (encoder_of _ _) _ c.in-None.ensures) c.if-mode-eq1.true)

-- a byte, or a reference
pub loop-c-preserved : goal.loop-c-preserved
loop-c-preserved c =
    let c-index = c.loop-c.c-index in
    elim c.match-byte_of.branch [
      | in-Some w ↦ rw w.n-is (counted_on _ _ _ _ _ _ _ c.loop-c.invariant 0 (w.in-Some.field-0 ∷ [])
          (here_bytes _ _ _ _ _ c.loop-c-test.true (told_byte (encoder_of _ _) _ _ w.in-Some.ensures)) 1 refl (omega arith))
      | in-None-2 w ↦ rw w.n-is (counted_on _ _ _ _ _ _ _ c.loop-c.invariant 0 (reference (get_or c.args.scalars.now c.loop-c.c-index 0))
          (here_reference _ _ _ _ _ c.loop-c-test.true (told_none (encoder_of _ _) _ w.in-None-2.ensures) w.if-mode-eq1.false)
          w.size-n.result w.size-n.ensures.0 (omega (arith, w.size-n.ensures.1, small (goal.at.loop-c-preserved c).In-loop-c)))
    ]

pub returns : goal.returns
returns c = counted_end _ _ _ _ _ _ _ c.loop-c.invariant c.loop-c-test.false
