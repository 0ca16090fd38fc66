-- `last_outside`: by the index, or by the search. Assumes nothing.
use mathlib.Core.Path.{◌≡◌}
use Rattle.std.proofs.Common.{rules, MatchOption, Some}
use Rattle.standard.specs.Search.{search as sought, pass_over, last}
use Rattle.index.specs.IndexCode.{pointer_of}
use Rattle.reverse_index.proofs.Answers.{looked_up}
use Rattle.reverse_index.proofs.last_outside.Goals as goal

pub returns : goal.returns
returns c =
    let a = c.args in
    let found : MatchOption c.walk.result (pointer_of c.or_else.result ≡ sought last (pass_over a.low a.high) a.table.now a.c) (λ p. c.or_else.result ≡ Some p) = search rules in
    looked_up a.table.now a.index.now last (pass_over a.low a.high) a.c _ _ c.walk.ensures found
