use Rattle.word_runs.proofs.utf_16.oriented_blocks.Goals as goal

pub returns-then-be : goal.returns-then-be
returns-then-be g c = rw c.if-be.true c.blocks-then-be.ensures

pub returns-else-be : goal.returns-else-be
returns-else-be g c = rw c.if-be.false c.blocks-else-be.ensures
