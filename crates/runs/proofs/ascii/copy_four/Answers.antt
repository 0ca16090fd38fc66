use Rattle.std.proofs.Common.{arith}
use Rattle.runs.proofs.Stretches.{copied_four}
use Rattle.runs.proofs.ascii.copy_four.Goals as goal

pub returns : goal.returns
returns c =
    let args = c.args in
    rw (c.from.ensures, c.from-2.ensures, c.from-3.ensures, c.from-4.ensures)
    (copied_four args.chunk.now args.at args.o args.room.now c.requires.1 (omega (arith, c.requires.0)) c.requires.2)
