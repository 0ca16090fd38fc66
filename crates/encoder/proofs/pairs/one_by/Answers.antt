-- `one_by`: by its slot, or asked and remembered. Assumes nothing.
use mathlib.Core.Path.{◌∙◌}
use Rattle.encoder.proofs.PairSlots.{kept_told, keeps_ready}
use Rattle.encoder.proofs.pairs.one_by.Goals as goal

pub returns-in-Some : goal.returns-in-Some
returns-in-Some c =
    let known = c.in-Some.ensures in
    (c.recalled.ensures ∙ kept_told c.args.encoding _ _ _ _ c.args.c _ c.requires.0 (known.1, known.2) known.0, c.requires.0)

pub returns : goal.returns
returns c =
    let told = c.one_of-one.ensures in
    (told, keeps_ready c.args.encoding _ _ _ _ c.args.c _ told c.requires.0 c.remember.ensures)
