-- `slots::fill`: the trails, all rows, ASCII, and the exceptions. Assumes nothing.
use mathlib.Core.Path.{◌∙◌}
use native.Mathlib.Omega.{arith}
use Rattle.pair_writers.proofs.Shapes.{divisor_small}
use Rattle.pair_writers.proofs.Filling.{filled_start}
use Rattle.pair_writers.proofs.Known.{slots_right}
use Rattle.pair_writers.proofs.slots.fill.Goals as goal

pub invariant_of-rows : goal.invariant_of-rows
invariant_of-rows c =
    let w = c.divisor.ensures in
    record {
      laid = record {
        cells = c.requires.0;
        is_low = c.requires.1;
        is_high = c.requires.2;
        is_width = w;
        columns = omega (arith, w, (divisor_small c.args.encoding).1, c.fill_trails.auto.trails);
        trail = rw w c.fill_trails.ensures;
      };
    }

pub returns : goal.returns
returns c =
    λ z links second. slots_right c.args.encoding c.args.table.now links second _ _ _
    (c.fill_rows.ensures (filled_start _ _ _ z)) c.fill_ascii.ensures c.except.ensures
    (c.except.auto.slots ∙ c.fill_ascii.auto.slots ∙ c.fill_rows.auto.slots ∙ c.requires.3)
