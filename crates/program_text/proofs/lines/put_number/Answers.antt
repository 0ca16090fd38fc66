use Rattle.std.proofs.Common.{arith}
use Rattle.program_text.specs.Lines.{count}
use Rattle.program_text.proofs.Numbers.{count_few}
use Rattle.program_text.proofs.Texts.{put_four}
use Rattle.program_text.proofs.lines.put_number.Goals as goal

pub put_count-end-requires : goal.put_count-end-requires
put_count-end-requires c = omega (arith, count_few c.args.n)

pub put_bytes-requires : goal.put_bytes-requires
put_bytes-requires c = omega (arith, count_few c.args.n)

pub returns : goal.returns
returns c = put_four c.args.word.now (count c.args.n) c.put_bytes-tab.ensures c.put_bytes-number.ensures c.put_count-end.ensures c.put_bytes.ensures
