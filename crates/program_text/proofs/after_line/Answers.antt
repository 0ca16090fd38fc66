use Rattle.program_text.proofs.FirstLine.{after_feed, after_none}
use Rattle.program_text.proofs.after_line.Goals as goal

pub returns-in-Some : goal.returns-in-Some
returns-in-Some c = after_feed c.args.input.now c.in-Some.end c.in-Some.ensures

pub returns-in-None : goal.returns-in-None
returns-in-None c = after_none c.args.input.now c.in-None.ensures
