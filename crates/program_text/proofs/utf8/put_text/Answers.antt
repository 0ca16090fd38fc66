use Rattle.std.proofs.Common.{take, arith}
use Rattle.std.proofs.lemmas.List.{length-take}
use Rattle.program_text.specs.Utf8.{utf8}
use Rattle.program_text.proofs.Texts.{nothing}
use Rattle.program_text.proofs.Utf8Texts.{utf8_few, put_scalar}
use Rattle.program_text.proofs.utf8.put_text.Goals as goal

pub loop-c-init : goal.loop-c-init
unfolding utf8
loop-c-init c = nothing

pub put_one-at-requires : goal.put_one-at-requires
put_one-at-requires c =
    let l = c.loop-c in
    omega (arith, utf8_few (take l.c-index c.args.scalars.now), length-take l.c-index c.args.scalars.now, l.invariant.behind)

pub loop-c-preserved : goal.loop-c-preserved
loop-c-preserved c = let l = c.loop-c in put_scalar c.args.scalars.now l.c-index (omega arith) l.invariant c.put_one-at.ensures
