use Rattle.standard.specs.Sequence.{shift}
use Rattle.standard.specs.Encodings.{family, lent}
use Rattle.runs.proofs.Fronts.{front_four}
use Rattle.runs.proofs.Scalars.{item_there}
use mathlib.Core.Path.{◌∙◌}
use lib.Dec.{eqb}
use native.Mathlib.Omega.{arith}
use Rattle.runs.proofs.next_at.Goals as goal

pub returns : goal.returns
returns c =
    let args = c.args in
    item_there c.next.result _ (c.next.ensures ∙ front_four (lent args.t1.now args.t2.now) (family args.encoding) (shift args.state (eqb args.flag 1)) args.chunk.now args.i (omega arith))
