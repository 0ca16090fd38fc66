use Rattle.std.proofs.Common.{rules}
use Rattle.line_feeds.proofs.Elements.{counted}
use Rattle.word_runs.proofs.utf_16.one.Goals as goal

pub returns : goal.returns
returns c = rw counted (search rules)
