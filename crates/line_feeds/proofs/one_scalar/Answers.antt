use Rattle.std.proofs.Common.{rules}
use Rattle.line_feeds.proofs.Elements.{counted}
use Rattle.line_feeds.proofs.one_scalar.Goals as goal

pub returns : goal.returns
returns c = rw counted (search rules)
