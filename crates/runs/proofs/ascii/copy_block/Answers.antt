use Rattle.runs.proofs.Stretches.{copied_none, part_low}
use Rattle.runs.proofs.ascii.copy_block.Goals as goal

pub returns-then-joined-ge128 : goal.returns-then-joined-ge128
returns-then-joined-ge128 c = copied_none

pub copy_bytes-requires : goal.copy_bytes-requires
copy_bytes-requires c = (c.requires.0, c.requires.1, part_low c.args.chunk.now c.args.from 192 c.requires.1 c.joined.ensures c.if-joined-ge128.false)
