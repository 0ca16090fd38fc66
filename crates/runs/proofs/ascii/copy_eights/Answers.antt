use Rattle.std.proofs.Common.{◌+◌, ◌-◌, ◌*◌, ◌/◌, ◌≡◌, length, arith}
use Rattle.runs.proofs.Stretches.{copying_start, copying_on, copying_ready, begins_on}
use Rattle.runs.proofs.ascii.copy_eights.Goals as goal

pub loop-j-init : goal.loop-j-init
loop-j-init c = copying_start c.requires.0

pub copy_eight-c-requires : goal.copy_eight-c-requires
copy_eight-c-requires c = (copying_ready c.loop-j.invariant, omega arith)

pub returns-then-c-lt8 : goal.returns-then-c-lt8
returns-then-c-lt8 c =
    let eight = c.copy_eight-c.ensures in
    ((copying_on c.loop-j.invariant eight.0).copied, begins_on c.args.chunk.now c.args.from (c.loop-j.j * 8) eight.1)

pub loop-j-preserved : goal.loop-j-preserved
loop-j-preserved c =
    let j = c.loop-j.j in
    let all : j * 8 + c.copy_eight-c.result ≡ (j + 1) * 8 = omega (arith, c.copy_eight-c.ensures.2) in
    rw all at (copying_on c.loop-j.invariant c.copy_eight-c.ensures.0)

pub returns : goal.returns
returns c =
    let all : c.loop-j.j ≡ (length c.args.chunk.now - c.args.from) / 8 = omega arith in
    (rw all at c.loop-j.invariant.copied, λ l q. omega arith)
