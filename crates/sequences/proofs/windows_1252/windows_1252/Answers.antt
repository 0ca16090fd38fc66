use mathlib.Core.Path.{sym, ◌∙◌}
use Rattle.standard.specs.Indexes.{irregular, windows1252}
use Rattle.sequences.proofs.SingleByteLeaves.{single_ascii}
use Rattle.sequences.proofs.Windows1252Leaves.{windows_irregular, windows_itself}
use native.Mathlib.Omega.{arith}
use Rattle.sequences.proofs.windows_1252.windows_1252.Goals as goal

pub returns-then-b0-lt128 : goal.returns-then-b0-lt128
returns-then-b0-lt128 c =
    let args = c.args in
    λ xs. c.gives.ensures ∙ sym (single_ascii windows1252 args.b0 xs (omega arith))

pub returns-then-b0-lt160 : goal.returns-then-b0-lt160
unfolding irregular
returns-then-b0-lt160 c =
    let args = c.args in
    λ xs. c.gives-then-b0-lt160.ensures ∙ sym (windows_irregular args.b0 xs (omega arith) (omega arith))

pub returns : goal.returns
returns c =
    let args = c.args in
    λ xs. c.gives-2.ensures ∙ sym (windows_itself args.b0 xs (omega arith) (omega arith))
