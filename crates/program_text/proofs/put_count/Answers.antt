use Rattle.std.proofs.Common.{arith}
use Rattle.program_text.proofs.Numbers.{count_few}
use Rattle.program_text.proofs.put_count.Goals as goal

pub put_count-requires : goal.put_count-requires
put_count-requires c = omega (arith, count_few c.args.n, c.fits.ensures.0 c.if-fits.true)
