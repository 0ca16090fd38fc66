use Rattle.std.proofs.Common.{◌+◌, ◌≡◌, arith}
use Rattle.runs.proofs.Stretches.{copying_start, copying_on, copied_one}
use Rattle.runs.proofs.ascii.copy_bytes.Goals as goal

pub loop-k-init : goal.loop-k-init
loop-k-init c = copying_start c.requires.0

pub loop-k-preserved : goal.loop-k-preserved
loop-k-preserved c =
    let args = c.args in
    let k = c.loop-k.k in
    let one = copied_one args.chunk.now (args.from + k) (args.place + k) c.loop-k.room (omega arith) (c.requires.2 k (omega arith)) (omega arith) in
    rw c.from.ensures (copying_on c.loop-k.invariant one)

pub returns : goal.returns
returns c = let all : c.loop-k.k ≡ c.args.n = omega arith in rw all at c.loop-k.invariant.copied
