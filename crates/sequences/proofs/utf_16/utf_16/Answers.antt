use mathlib.Core.Path.{sym, ap, ◌∙◌}
use Rattle.standard.specs.Sequences.Utf16.{utf16_pair}
use Rattle.sequences.proofs.Utf16Leaves.{utf_16_short, utf_16_low, utf_16_high, utf_16_trail, utf_16_wait, utf_16_pair}
use native.Mathlib.Omega.{arith}
use Rattle.sequences.proofs.utf_16.utf_16.Goals as goal

pub returns-then-have-lt2 : goal.returns-then-have-lt2
returns-then-have-lt2 c =
    let args = c.args in
    λ xs. sym (utf_16_short args.be args.have args.b0 args.b1 args.b2 args.b3 xs (omega arith))

pub returns-then-u-lt55296 : goal.returns-then-u-lt55296
returns-then-u-lt55296 c =
    let args = c.args in
    λ xs. c.gives.ensures ∙ sym (utf_16_low args.be args.have args.b0 args.b1 args.b2 args.b3 xs c.unit-u.result c.unit-u.ensures (omega arith) (omega arith))

pub returns-then-u-gt57343 : goal.returns-then-u-gt57343
returns-then-u-gt57343 c =
    let args = c.args in
    λ xs. c.gives-then-u-gt57343.ensures ∙ sym (utf_16_high args.be args.have args.b0 args.b1 args.b2 args.b3 xs c.unit-u.result c.unit-u.ensures (omega arith) (omega arith))

pub returns-then-u-gt56319 : goal.returns-then-u-gt56319
returns-then-u-gt56319 c =
    let args = c.args in
    λ xs. c.wrong.ensures ∙ sym (utf_16_trail args.be args.have args.b0 args.b1 args.b2 args.b3 xs c.unit-u.result c.unit-u.ensures (omega arith) (omega arith) (omega arith))

pub returns-then-have-lt4 : goal.returns-then-have-lt4
returns-then-have-lt4 c =
    let args = c.args in
    λ xs. sym (utf_16_wait args.be args.have args.b0 args.b1 args.b2 args.b3 xs c.unit-u.result c.unit-u.ensures (omega arith) (omega arith) (omega arith) (omega arith))

pub returns : goal.returns
returns c =
    let args = c.args in
    λ xs. c.pair.ensures ∙ ap (utf16_pair c.unit-u.result) c.unit.ensures ∙ sym (utf_16_pair args.be args.have args.b0 args.b1 args.b2 args.b3 xs c.unit-u.result c.unit-u.ensures (omega arith) (omega arith) (omega arith) (omega arith))
