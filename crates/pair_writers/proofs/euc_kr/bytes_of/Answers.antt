-- `euc_kr::bytes_of`, by its test. Assumes nothing.
use mathlib.Core.Path.{◌∙◌}
use Rattle.pair_writers.proofs.Encoders.{euc_kr-rows, euc_kr-self, euc_kr-pair}
use Rattle.pair_writers.proofs.euc_kr.bytes_of.Goals as goal

pub returns-then-c-lt128 : goal.returns-then-c-lt128
returns-then-c-lt128 c = λ h. euc_kr-self _ _ c.if-c-lt128.true

pub returns : goal.returns
returns c =
    let a = c.args in
    λ h. c.pair.ensures (euc_kr-rows a.table.now h.0) h.1 ∙ euc_kr-pair _ a.table.now a.links.now c.if-c-lt128.false
