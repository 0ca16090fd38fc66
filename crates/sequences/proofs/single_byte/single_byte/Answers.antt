use mathlib.Core.Path.{sym, ◌∙◌}
use Rattle.sequences.proofs.SingleByteLeaves.{single_ascii, single_cell}
use native.Mathlib.Omega.{arith}
use Rattle.sequences.proofs.single_byte.single_byte.Goals as goal

pub returns-then-b0-lt128 : goal.returns-then-b0-lt128
returns-then-b0-lt128 c =
    let args = c.args in
    λ xs. c.gives.ensures ∙ sym (single_ascii args.table.now args.b0 xs (omega arith))

pub returns : goal.returns
returns c =
    let args = c.args in
    λ xs. c.gives_code.ensures ∙ rw c.cell.ensures (sym (single_cell args.table.now args.b0 xs (omega arith)))
