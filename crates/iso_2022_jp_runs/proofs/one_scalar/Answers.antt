use Rattle.iso_2022_jp_runs.proofs.IsoRuns.{half_other}
use borrow.Author.Tests.{ltb-true}
use lib.Dec.{T}
use native.Mathlib.Omega.{arith}
use mathlib.Core.Path.{sym, subst}
use Rattle.iso_2022_jp_runs.proofs.one_scalar.Goals as goal

pub returns-then-b-eq27 : goal.returns-then-b-eq27
returns-then-b-eq27 c = λ e. absurd (subst T (sym e) tt)

pub returns-then-mode-ne1 : goal.returns-then-mode-ne1
returns-then-mode-ne1 c = λ e. (omega arith, λ m. absurd (omega arith))

pub returns-then-b-eq7 : goal.returns-then-b-eq7
returns-then-b-eq7 c = λ e. absurd (subst T (sym e) tt)

pub returns : goal.returns
returns c =
    λ e.
    let args = c.args in
    let other = half_other args.b (omega arith) in
    (omega arith, λ m. (ltb-true args.b 0x80 e, other.0, other.1))
