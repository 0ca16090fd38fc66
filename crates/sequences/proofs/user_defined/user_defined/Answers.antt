use mathlib.Core.Path.{sym, ◌∙◌}
use Rattle.sequences.proofs.SingleByteLeaves.{user_ascii, user_high}
use native.Mathlib.Omega.{arith}
use Rattle.sequences.proofs.user_defined.user_defined.Goals as goal

pub returns-then-b0-lt128 : goal.returns-then-b0-lt128
returns-then-b0-lt128 c =
    let args = c.args in
    λ xs. c.gives.ensures ∙ sym (user_ascii args.b0 xs (omega arith))

pub returns : goal.returns
returns c =
    let args = c.args in
    λ xs. c.gives-2.ensures ∙ sym (user_high args.b0 xs (omega arith))
