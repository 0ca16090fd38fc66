use Rattle.encoder.proofs.pairs.run.Goals as goal

pub returns-in-33 : goal.returns-in-33
returns-in-33 c = rw c.in-33.is c.run_by.ensures
