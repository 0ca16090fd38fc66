use native.Mathlib.Omega.{arith}
use borrow.Author.Tests.{eq-eqb, ne_eqb}
use Rattle.standard.specs.Choice.{reader}
use Rattle.reading.proofs.choice.reader.Goals as goal

pub returns-in-2 : goal.returns-in-2
unfolding reader
returns-in-2 c = rw (eq-eqb c.args.stage 2 (omega arith))

pub returns-in-3 : goal.returns-in-3
unfolding reader
returns-in-3 c =
    let g = c.args.stage in
    rw (ne_eqb g 2 (omega arith), eq-eqb g 3 (omega arith))

pub returns-in-4 : goal.returns-in-4
unfolding reader
returns-in-4 c =
    let g = c.args.stage in
    rw (ne_eqb g 2 (omega arith), ne_eqb g 3 (omega arith), eq-eqb g 4 (omega arith))

pub returns-in_default : goal.returns-in_default
unfolding reader
returns-in_default c =
    let g = c.args.stage in
    rw (ne_eqb g 2 (omega arith), ne_eqb g 3 (omega arith), ne_eqb g 4 (omega arith))
