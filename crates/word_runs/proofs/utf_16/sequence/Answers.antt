use native.Mathlib.Omega.{arith}
use mathlib.Core.Logic.{inl, inr}
use mathlib.Core.Path.{sym, ap, ◌∙◌}
use Rattle.runs.proofs.Running.{gives_scalar}
use Rattle.word_runs.proofs.Utf16Runs.{at_low, at_high, at_trail, at_lead}
use Rattle.standard.specs.Sequences.Utf16.{utf16_pair}
use Rattle.word_runs.proofs.utf_16.sequence.Goals as goal

pub returns-then-u-lt55296 : goal.returns-then-u-lt55296
returns-then-u-lt55296 c =
    let args = c.args in
    let u = c.unit-u.result in
    elim c.then-u-lt55296.either [
      | inl h ↦ gives_scalar args.mode (at_low args.be args.chunk.now args.i u (omega arith) c.unit-u.ensures (omega arith))
      | inr h ↦ gives_scalar args.mode (at_high args.be args.chunk.now args.i u (omega arith) c.unit-u.ensures (omega arith))
    ]

pub returns-then-u-gt56319 : goal.returns-then-u-gt56319
returns-then-u-gt56319 c =
    let args = c.args in
    rw (at_trail args.be args.chunk.now args.i c.unit-u.result (omega arith) c.unit-u.ensures (omega arith) (omega arith)) c.wrong.ensures

pub returns : goal.returns
returns c =
    let args = c.args in
    let lead = at_lead args.be args.chunk.now args.i c.unit-u.result (omega arith) c.unit-u.ensures (omega arith) (omega arith) (omega arith) in
    rw (lead ∙ ap (utf16_pair c.unit-u.result) (sym c.unit.ensures)) c.pair.ensures
