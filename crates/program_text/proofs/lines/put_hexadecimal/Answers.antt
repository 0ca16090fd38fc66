use Rattle.std.proofs.Common.{arith}
use Rattle.program_text.proofs.Numbers.{hexadecimal_few}
use Rattle.program_text.proofs.Texts.{same, four}
use Rattle.program_text.proofs.lines.put_hexadecimal.Goals as goal

pub put_digits-requires-clause-fits : goal.put_digits-requires-clause-fits
put_digits-requires-clause-fits c = rw c.from.ensures (omega (arith, hexadecimal_few c.args.c, c.requires))

pub returns : goal.returns
returns c = same (four c.args.c (omega arith) c.digit.ensures c.digit-2.ensures c.digit-3.ensures c.digit-4.ensures) c.put_bytes.ensures
