use Rattle.labels.proofs.Ends.{start_is}
use Rattle.labels.proofs.front.Goals as goal

pub returns-clause-value : goal.returns-clause-value
returns-clause-value c = start_is c.args.s.now c.trim_ascii_start.result.now c.trim_ascii_start.ensures.value
