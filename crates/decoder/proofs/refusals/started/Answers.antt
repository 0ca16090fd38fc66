use mathlib.Core.Bool.{not}
use mathlib.Core.Path.{sym, ap, ◌∙◌}
use Rattle.reading.specs.declared.choice.Chosen.TheVariants.{Waits}
use Rattle.decoder.proofs.Checks.{none_started, not_waits, waits_is, started_is}
use native.Mathlib.Omega.{arith}
use Rattle.std.proofs.Math.Bool.{not-not}
use Rattle.decoder.proofs.refusals.started.Goals as goal

pub returns-then-d-eq0 : goal.returns-then-d-eq0
returns-then-d-eq0 c =
    let d = c.args.d in
    none_started d (omega arith)

pub returns-in-Waits : goal.returns-in-Waits
returns-in-Waits c = waits_is c.args.d Waits (omega arith) c.in-Waits.ensures

pub returns-in_default : goal.returns-in_default
returns-in_default c =
    let bytes = c.choose-c.result in
    sym (not_waits bytes c.in_default.not-Waits) ∙ waits_is c.args.d bytes (omega arith) c.choose-c.ensures

pub returns : goal.returns
returns c =
    let none = ap not c.is_none.ensures ∙ not-not c.is_none.result in
    sym none ∙ started_is c.args.d _ c.reader-reads.result c.next-q.result (omega arith) c.reader-reads.ensures (omega arith) c.next-q.ensures
