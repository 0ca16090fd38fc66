-- `first_fits`: the test of the length. Assumes nothing.
use Rattle.index.proofs.first_fits.Goals as goal

pub returns : goal.returns
returns c = rw c.first_cells.ensures
