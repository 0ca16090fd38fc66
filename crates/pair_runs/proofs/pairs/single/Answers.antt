use Rattle.pair_runs.proofs.Pairing.{bad_ff, bad_80, euro, is_80}
use Rattle.runs.proofs.Scalars.{gives_bad}
use Rattle.runs.proofs.Running.{gives_scalar}
use mathlib.Core.Path.{sym, ◌≡◌, ◌∙◌}
use native.Mathlib.Omega.{arith}
use Rattle.std.proofs.lemmas.Option.{IfSome_then}
use Rattle.pair_runs.proofs.pairs.single.Goals as goal

pub returns-then-encoding-eq34 : goal.returns-then-encoding-eq34
returns-then-encoding-eq34 c =
    let e : c.args.encoding ≡ 34 = omega arith in
    rw e c.shift_jis_single.ensures

pub returns-then-encoding-eq32 : goal.returns-then-encoding-eq32
returns-then-encoding-eq32 c =
    let e : c.args.encoding ≡ 32 = omega arith in
    rw e c.euc_jp_single.ensures

pub returns-then-b-eq255 : goal.returns-then-b-eq255
returns-then-b-eq255 c =
    let args = c.args in
    IfSome_then c.replaced.result c.replaced.ensures (λ u r t1 t2 xs.
    rw r.0 (gives_bad args.mode (bad_ff t1 t2 args.encoding c.requires.0 (omega arith) (omega arith) args.b xs (omega arith)) r.1))

pub returns-then-encoding-le30 : goal.returns-then-encoding-le30
returns-then-encoding-le30 c =
    let args = c.args in
    let alone = sym c.within.ensures ∙ c.if-within.false in
    λ t1 t2 xs. gives_scalar args.mode (euro t1 t2 args.encoding c.requires.0 args.b xs (omega arith) (is_80 args.b alone c.requires.1 (omega arith) (omega arith)))

pub returns : goal.returns
returns c =
    let args = c.args in
    let alone = sym c.within.ensures ∙ c.if-within.false in
    IfSome_then c.replaced-2.result c.replaced-2.ensures (λ u r t1 t2 xs.
    rw r.0 (gives_bad args.mode (bad_80 t1 t2 args.encoding c.requires.0 (omega arith) (omega arith) (omega arith) args.b xs (is_80 args.b alone c.requires.1 (omega arith) (omega arith))) r.1))
