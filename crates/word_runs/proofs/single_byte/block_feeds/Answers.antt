use Rattle.std.proofs.Common.{◌+◌, refl, arith}
use Rattle.line_feeds.proofs.Parts.{Counted, part_more, at_most}
use Rattle.word_runs.proofs.single_byte.block_feeds.Goals as goal

-- the line feeds of both blocks
both : (c : goal.After-in_block-2) → Counted c.args.chunk.now c.args.at 384 (c.in_block.result + c.in_block-2.result)
both c = part_more (c.args.at + 192) 192 refl (record { is = c.in_block.ensures }) c.in_block-2.ensures

pub overflow_add-result : goal.overflow_add-result
overflow_add-result c = omega (arith, at_most (both c))

pub returns : goal.returns
returns c = (both c).is
