use Rattle.std.proofs.Common.{◌+◌, ◌-◌, ◌*◌, ◌/◌, ◌≡◌, length, refl, arith}
use Rattle.line_feeds.proofs.Parts.{Counted, none_yet, part_more, at_most}
use Rattle.runs.proofs.Stretches.{copying_start, copying_on, copying_ready}
use Rattle.runs.proofs.ascii.count_blocks.Goals as goal

-- the line feeds with a block more
block : (c : goal.After-in_block-lines) →
    Counted c.args.chunk.now c.args.from (c.loop-j.j * 192 + 192) (c.loop-j.lines + c.in_block-lines.result)
block c = part_more (c.args.from + c.loop-j.j * 192) 192 refl c.loop-j.invariant.1 c.in_block-lines.ensures

pub loop-j-init : goal.loop-j-init
loop-j-init c = (copying_start c.requires, none_yet)

pub copy_block-requires : goal.copy_block-requires
copy_block-requires c = (copying_ready c.loop-j.invariant.0, omega arith)

pub overflow_add-lines : goal.overflow_add-lines
overflow_add-lines c = omega (arith, at_most (block c))

pub loop-j-preserved : goal.loop-j-preserved
loop-j-preserved c =
    let j = c.loop-j.j in
    let all : j * 192 + 192 ≡ (j + 1) * 192 = omega arith in
    let copied = rw c.if-not-copy_block.false at c.copy_block.ensures in
    (rw all at (copying_on c.loop-j.invariant.0 copied), rw all at (block c))

pub returns : goal.returns
returns c =
    let all : c.loop-j.j ≡ (length c.args.chunk.now - c.args.from) / 192 = omega arith in
    (rw all at c.loop-j.invariant.0.copied, rw all at c.loop-j.invariant.1.is)
