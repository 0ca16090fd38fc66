-- The white space in front, and then at the end. Assumes nothing.
use Rattle.std.proofs.Common.{refl, arith}
use Rattle.labels.proofs.Ends.{both_ends}
use Rattle.labels.proofs.trim.Goals as goal

pub returns : goal.returns
returns c = record {
  same = both_ends c.args.label.now c.trim_ascii_end.result.now c.front-start.result c.front-start.ensures.value c.trim_ascii_end.ensures.value;
  block = refl;
  offset = omega (arith, c.front-start.ensures.value);
}
