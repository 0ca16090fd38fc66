use Rattle.pair_runs.proofs.Pairing.{bad_euc_jp}
use Rattle.runs.proofs.Scalars.{gives_bad}
use mathlib.Core.Path.{sym, ◌∙◌}
use native.Mathlib.Omega.{arith}
use Rattle.std.proofs.lemmas.Option.{IfSome_then}
use Rattle.pair_runs.proofs.pairs.euc_jp_single.Goals as goal

pub returns : goal.returns
returns c =
    let args = c.args in
    let alone = sym c.within.ensures ∙ c.if-within.false in
    IfSome_then c.replaced.result c.replaced.ensures (λ u r t1 t2 xs.
    rw r.0 (gives_bad args.mode (bad_euc_jp t1 t2 args.b xs c.requires alone (omega arith) (omega arith)) r.1))
