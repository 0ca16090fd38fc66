use mathlib.Core.List.{◌++◌}
use native.Mathlib.Omega.{arith}
use Rattle.reading.specs.Reading.{bytes_of}
use Rattle.reading.proofs.Staged.{starts_on, starts_first}
use Rattle.reading.proofs.feed.start_of.Goals as goal

pub returns-then-stage-eq1 : goal.returns-then-stage-eq1
returns-then-stage-eq1 c =
    let a = c.args in
    starts_first a.encoding a.stage a.state a.flag (bytes_of a.held ++ a.chunk.now) c.at_choice.ensures (omega arith)

pub returns : goal.returns
returns c =
    let a = c.args in
    starts_on a.encoding a.stage a.state a.flag (bytes_of a.held ++ a.chunk.now) c.at_spot.ensures (omega arith)
