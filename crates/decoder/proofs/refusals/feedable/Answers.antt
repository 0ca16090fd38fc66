use mathlib.Core.Path.{sym}
use Rattle.std.proofs.lemmas.Result.{err_from_is_err_and}
use Rattle.standard.specs.Encodings.{lent}
use Rattle.decoder.proofs.Checks.{feed_refused, feed_tables}
use Rattle.decoder.proofs.refusals.feedable.Goals as goal

pub returns-in_err-usable : goal.returns-in_err-usable
returns-in_err-usable c =
    let p = err_from_is_err_and c.from_residual.result c.from_residual.ensures.1 in
    rw (p.1, p.2) (λ chunk room. feed_refused c.args.d (lent c.args.t1.now c.args.t2.now) chunk room _ c.in_err-usable.ensures)

pub returns-then-not-tables_fit : goal.returns-then-not-tables_fit
returns-then-not-tables_fit c chunk room =
    feed_tables c.args.d (lent c.args.t1.now c.args.t2.now) chunk room c.in_ok-usable.ensures (sym c.if-not-tables_fit.ensures)

pub returns : goal.returns
returns c = (c.in_ok-usable.ensures, sym c.if-not-tables_fit.ensures)
