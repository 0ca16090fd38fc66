use Rattle.iso_2022_jp_runs.proofs.IsoRuns.{escape_to_pairs, escape_to_ascii}
use Rattle.iso_2022_jp_runs.proofs.escape_of.Goals as goal

pub returns-then-c-eq36 : goal.returns-then-c-eq36
returns-then-c-eq36 c = escape_to_pairs _ _ c.if-d-ne66.false c.if-c-eq36.true

pub returns-then-c-eq40 : goal.returns-then-c-eq40
returns-then-c-eq40 c = escape_to_ascii _ _ c.if-d-ne66.false c.if-c-eq40.true
