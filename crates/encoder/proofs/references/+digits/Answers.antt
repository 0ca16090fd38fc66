use Rattle.encoder.proofs.Rooms.{digits_one_length, digits_more_length}
use Rattle.std.proofs.Common.{arith, rules}
use Rattle.encoder.proofs.references.+digits.Goals as goal

pub returns-then-c-lt10 : goal.returns-then-c-lt10
returns-then-c-lt10 t c = (digits_one_length c.args.c (search rules), search rules)

pub returns : goal.returns
returns t c = (digits_more_length c.args.c (search rules) c.digits.result c.digits.ensures.0, omega (arith, c.digits.ensures.1))
