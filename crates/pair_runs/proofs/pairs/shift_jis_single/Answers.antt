use Rattle.pair_runs.proofs.Pairing.{kana_single, single_80, bad_a0, bad_above_fc}
use Rattle.runs.proofs.Scalars.{gives_bad}
use Rattle.runs.proofs.Running.{gives_scalar}
use mathlib.Core.Path.{sym, ◌∙◌}
use Rattle.std.proofs.lemmas.Option.{IfSome_then}
use native.Mathlib.Omega.{arith}
use Rattle.pair_runs.proofs.pairs.shift_jis_single.Goals as goal

pub returns-then-within : goal.returns-then-within
returns-then-within c =
    let args = c.args in
    let at-within = c.within in
    λ t1 t2 xs. gives_scalar args.mode (kana_single t1 t2 args.b xs (sym at-within.ensures ∙ c.if-within.true))

pub returns-then-b-eq128 : goal.returns-then-b-eq128
returns-then-b-eq128 c =
    let args = c.args in
    λ t1 t2 xs. gives_scalar args.mode (single_80 t1 t2 args.b xs (omega arith))

pub returns-then-b-eq160 : goal.returns-then-b-eq160
returns-then-b-eq160 c =
    let args = c.args in
    IfSome_then c.replaced.result c.replaced.ensures (λ u r t1 t2 xs.
    rw r.0 (gives_bad args.mode (bad_a0 t1 t2 args.b xs (omega arith)) r.1))

pub returns-then-b-gt252 : goal.returns-then-b-gt252
returns-then-b-gt252 c =
    let args = c.args in
    IfSome_then c.replaced-then-b-gt252.result c.replaced-then-b-gt252.ensures (λ u r t1 t2 xs.
    rw r.0 (gives_bad args.mode (bad_above_fc t1 t2 args.b xs (omega arith)) r.1))
