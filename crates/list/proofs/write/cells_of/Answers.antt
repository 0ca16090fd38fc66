use Rattle.list.proofs.Cells.{name_length}
use Rattle.list.proofs.write.cells_of.Goals as goal

pub returns : goal.returns
returns c = rw (name_length c.args.line.chars.now c.name.result.now c.name.ensures)
