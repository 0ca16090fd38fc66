use mathlib.Core.Path.{◌≡◌, refl, ap, ◌∙◌}
use mathlib.Core.Bool.{Bool, true, false, ◌&&◌}
use mathlib.Core.List.{[]}
use Prim.Native.Nat.{ℕ}
use lib.Dec.{eqb}
use mir.Val.{bool_byte}
use Rattle.reading.specs.Reading.{hold}
use Rattle.reading.specs.declared.Left.{Left}
use Rattle.standard.specs.Encodings.{family, traits}
use Rattle.decoder.specs.Record.{bit, new_spot}
use Rattle.decoder.proofs.record.new.Goals as goal

-- what a new record is made of, by its stage and flag
abbrev fresh : ℕ → ℕ → Left
fresh g b = record { written = 0; lines = 0; stage = g; state = 0; flag = b; held = hold [] }

byte_bit : (b : Bool) → bool_byte b ≡ bit b
byte_bit true = refl
byte_bit false = refl

pub returns : goal.returns
returns c =
    let args = c.args in
    let drops = (traits (family args.encoding)).mark && eqb args.rule 0 in
    let flag = c.from-flag.ensures ∙ ap bool_byte c.drops.ensures ∙ byte_bit drops in
    let stage = c.from-stage.ensures ∙ byte_bit (eqb args.rule 2) in
    c.holding.ensures 0 0 (new_spot args.encoding args.rule) [] (λ i. fresh (stage i) (flag i))
