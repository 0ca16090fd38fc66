-- `slots::pointer`: an empty slot, or the look-up. Assumes nothing.
use Rattle.standard.specs.Search.{pass_over, first}
use Rattle.pair_writers.proofs.Filling.{empty_none}
use Rattle.pair_writers.proofs.slots.pointer.Goals as goal

pub returns-then-missing : goal.returns-then-missing
returns-then-missing c =
    let m = c.missing.ensures c.if-missing.true in
    let a = c.args in
    λ h. empty_none (pass_over a.low a.high) a.table.now a.c a.links.now a.slots.now first h m.0 m.1
