use Rattle.program_text.proofs.FirstLine.{line_is}
use Rattle.program_text.proofs.first_line.Goals as goal

pub returns : goal.returns
returns c = line_is c.args.input.now c.line_feed.result c.line_feed.ensures c.unwrap_or.ensures
