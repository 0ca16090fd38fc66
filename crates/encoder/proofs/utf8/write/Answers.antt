use mathlib.Core.List.{List}
use Rattle.encoder.proofs.Counting.{Here, running_start, running_end, running_room, running_on, here_bytes, told_bytes, scalar_at}
use Rattle.encoder.proofs.Scalars.{utf8_tokens}
use Rattle.encoder.specs.WriterCode.{utf8_of, plain}
use Rattle.standard.specs.Encoders.Utf8.{utf8_encode}
use lib.ListN.{get_or}
use Prim.Native.Nat.{ℕ}
use Rattle.encoder.proofs.utf8.write.Goals as goal
use Rattle.encoder.proofs.utf8.write.Goals.{In-loop-c}

abbrev bytes : In-loop-c → List ℕ
bytes c = utf8_of (get_or c.args.scalars.now c.loop-c.c-index 0)

bytes_here : (c : In-loop-c) → Here (plain utf8_encode) 0 c.args.scalars.now 0 c.loop-c.c-index 0 (bytes c)
bytes_here c = here_bytes _ _ _ _ _ c.loop-c-test.true (told_bytes utf8_encode _ (utf8_tokens _))

pub loop-c-init : goal.loop-c-init
loop-c-init c = running_start _ _ _ _ _

pub put-o-requires : goal.put-o-requires
put-o-requires c =
    let at-loop = c.loop-c in
    (running_room _ _ _ _ _ _ _ _ _ at-loop.invariant 0 (bytes (goal.at.put-o-requires c).In-loop-c) (bytes_here (goal.at.put-o-requires c).In-loop-c) c.requires.1, scalar_at _ at-loop.c-index c.requires.0 c.loop-c-test.true)

pub loop-c-preserved : goal.loop-c-preserved
loop-c-preserved c =
    running_on _ _ _ _ _ _ _ _ _ c.loop-c.invariant 0 (bytes (goal.at.loop-c-preserved c).In-loop-c) (bytes_here (goal.at.loop-c-preserved c).In-loop-c) c.requires.1 _ _ c.put-o.ensures.0 c.put-o.ensures.1

pub returns : goal.returns
returns c =
    let at-loop = c.loop-c in
    let at-loop-test = c.loop-c-test in
    running_end _ _ _ _ _ _ _ _ _ at-loop.invariant at-loop-test.false
