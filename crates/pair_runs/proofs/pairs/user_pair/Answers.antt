use native.Mathlib.Omega.{arith}
use Rattle.layouts.specs.Rows.{layout_of}
use Rattle.pair_runs.proofs.Pairing.{user_pair}
use Rattle.pair_runs.proofs.pairs.user_pair.Goals as goal

pub returns : goal.returns
unfolding layout_of
returns c =
    let args = c.args in
    let at_pointer = c.pointer-p in
    λ t1 t2 xs. user_pair t1 t2 args.lead xs args.trail at_pointer.result at_pointer.ensures (omega arith) (omega arith)
