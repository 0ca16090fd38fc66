use Rattle.std.proofs.Common.{◌-◌, length, sym}
use borrow.Author.Tests.{eqb-false}
use Rattle.labels.proofs.LookUp.{not_alike}
use Rattle.labels.proofs.alike.Goals as goal

pub returns-then-not-eq_ignore_ascii_case : goal.returns-then-not-eq_ignore_ascii_case
returns-then-not-eq_ignore_ascii_case c =
    not_alike c.args.label.now c.args.known.now (length c.args.label.now - 1) (eqb-false _ _ (sym c.if-not-eq_ignore_ascii_case.ensures))
