use native.Mathlib.Omega.{arith}
use Rattle.standard.specs.Leads.{lead_length}
use Rattle.standard.proofs.Tests.{under, above, in_range}
use Rattle.sequences.proofs.utf8.lead_length.Goals as goal

pub returns-then-b-lt194 : goal.returns-then-b-lt194
unfolding lead_length
returns-then-b-lt194 c = rw (under 0xC2 c.args.b 0xF4 (omega arith))

pub returns-then-b-gt244 : goal.returns-then-b-gt244
unfolding lead_length
returns-then-b-gt244 c = rw (above 0xC2 c.args.b 0xF4 (omega arith))

pub returns : goal.returns
unfolding lead_length
returns c = rw (in_range 0xC2 c.args.b 0xF4 (omega arith) (omega arith))
