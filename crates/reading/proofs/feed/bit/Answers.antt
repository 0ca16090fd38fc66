use mathlib.Core.Path.{◌≡◌, refl, ◌∙◌}
use mathlib.Core.Bool.{Bool, true, false}
use lib.Dec.{eqb}
use mir.Val.{bool_byte}
use Rattle.reading.specs.Reading.{bit}
use Rattle.reading.proofs.feed.bit.Goals as goal

byte_bit : (b : Bool) → bool_byte b ≡ bit b
byte_bit true = refl
byte_bit false = refl

pub returns : goal.returns
returns c = c.from.ensures ∙ byte_bit (eqb c.args.flag 1)
