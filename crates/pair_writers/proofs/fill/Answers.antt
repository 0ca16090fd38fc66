-- `fill`: slots of the right length are filled. Assumes nothing.
use Rattle.pair_writers.proofs.fill.Goals as goal

pub returns-then-slots-eq65536 : goal.returns-then-slots-eq65536
returns-then-slots-eq65536 c =
    λ h links second. (h.0, λ l. c.fill.ensures h.1 links second)
