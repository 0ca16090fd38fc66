use Rattle.std.proofs.Common.{arith}
use Rattle.standard.specs.Sequences.Utf16.{unit}
use Rattle.word_runs.proofs.words.word.Goals as goal

pub returns : goal.returns
unfolding unit
returns c = (rw (c.from.ensures, c.from-2.ensures), omega arith, omega arith)
