use native.Mathlib.Omega.{arith}
use mathlib.Core.Path.{sym}
use lib.Dec.{eqb}
use Rattle.standard.specs.Sequence.{shift}
use Rattle.replacements.proofs.Adding.{adds_none}
use Rattle.replacements.proofs.Told.{rest_none, rest_one, rest_iso, rest_other}
use borrow.Author.Rules.{rules}
use Rattle.replacements.proofs.tell_rest.Goals as goal

pub returns-then-left-eq0 : goal.returns-then-left-eq0
returns-then-left-eq0 c = let a = c.args in
    adds_none a.spans.now a.n _
    (rest_none a.encoding (shift a.state (eqb a.flag 1)) a.place a.rest.now (omega arith))

pub returns-then-left-eq1 : goal.returns-then-left-eq1
returns-then-left-eq1 c = let a = c.args in
    rw (rest_one a.encoding (shift a.state (eqb a.flag 1)) a.place a.rest.now (omega arith))
    c.put_span.ensures

pub returns-then-encoding-eq33 : goal.returns-then-encoding-eq33
returns-then-encoding-eq33 c = let a = c.args in
    rw (sym (rest_iso a.encoding (shift a.state (eqb a.flag 1)) a.place a.rest.now (omega arith)))
    c.tell_escape.ensures

pub returns : goal.returns
returns c = let a = c.args in
    rw (rest_other a.encoding (shift a.state (eqb a.flag 1)) a.place a.rest.now (search rules) (search rules))
    c.put_span-2.ensures
