use mathlib.Core.List.{List, [], ◌∷◌}
use Prim.Native.Nat.{ℕ}
use native.Mathlib.Omega.{arith}
use lib.ListN.{get_or}
use Rattle.standard.specs.Machine.{reference}
use Rattle.encoder.specs.WriterCode.{encoder_of}
use Rattle.encoder.proofs.Counting.{running_start, running_end, running_here, running_room, running_on}
use Rattle.encoder.proofs.Counting.{here_bytes, here_reference, here_stop, told_byte, told_none}
use Rattle.encoder.proofs.one_byte.write_by.Goals as goal
use Rattle.encoder.proofs.one_byte.write_by.Goals.{In-loop-i, in-Some, in-None-2}

-- the reference that is written of the scalar
abbrev refers : In-loop-i → List ℕ
refers c = reference (get_or c.args.scalars.now c.loop-i.i 0)

pub loop-i-init : goal.loop-i-init
loop-i-init c = running_start _ _ _ _ _

pub bounds-room-o : goal.bounds-room-o
bounds-room-o c =
    let here = here_bytes _ _ _ _ _ c.loop-i-test.true (told_byte (encoder_of _ _) _ _ c.in-Some.ensures) in
    omega (arith, running_room _ _ _ _ _ _ _ _ _ c.loop-i.invariant 0 (c.in-Some.b ∷ []) here c.requires.1)

pub returns-in-None : goal.returns-in-None
returns-in-None c =
    running_here _ _ _ _ _ _ _ _ _ c.loop-i.invariant
    (here_stop _ _ _ _ _ c.loop-i-test.true (told_none (encoder_of _ _) _ c.in-None.ensures) c.if-mode-eq1.true)

pub put-o-requires : goal.put-o-requires
put-o-requires c =
    let here = here_reference _ _ _ _ _ c.loop-i-test.true (told_none (encoder_of _ _) _ c.in-None-2.ensures) c.if-mode-eq1.false in
    running_room _ _ _ _ _ _ _ _ _ c.loop-i.invariant 0 (refers (goal.at.put-o-requires c).In-loop-i) here c.requires.1

-- a byte, or a reference
pub loop-i-preserved : goal.loop-i-preserved
loop-i-preserved c =
    elim c.match-byte_of.branch [
      | in-Some w ↦
          let here = here_bytes _ _ _ _ _ c.loop-i-test.true (told_byte (encoder_of _ _) _ _ w.in-Some.ensures) in
          running_on _ _ _ _ _ _ _ _ _ c.loop-i.invariant 0 (w.in-Some.b ∷ []) here c.requires.1 _ _ w.o-is w.room-is
      | in-None-2 w ↦
          let here = here_reference _ _ _ _ _ c.loop-i-test.true (told_none (encoder_of _ _) _ w.in-None-2.ensures) w.if-mode-eq1.false in
          rw (w.o-is, w.room-is) (running_on _ _ _ _ _ _ _ _ _ c.loop-i.invariant 0 (refers (goal.at.loop-i-preserved c).In-loop-i) here c.requires.1
          _ _ w.put-o.ensures.0 w.put-o.ensures.1)
    ]

pub returns : goal.returns
returns c = running_end _ _ _ _ _ _ _ _ _ c.loop-i.invariant c.loop-i-test.false
