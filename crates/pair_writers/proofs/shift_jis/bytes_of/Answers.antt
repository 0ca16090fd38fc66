-- `shift_jis::bytes_of`, test by test. Assumes nothing.
use mathlib.Core.Path.{◌≡◌, sym, ◌∙◌}
use mathlib.Core.Bool.{true}
use Rattle.standard.specs.Base.{within}
use Rattle.pair_writers.proofs.Encoders.{shift_jis-self, shift_jis-yen, shift_jis-overline, shift_jis-katakana, shift_jis-pair, shift_jis-rows}
use Rattle.reverse_index_spec.specs.ReverseIndex.{look_up}
use Rattle.pair_writers.proofs.shift_jis.bytes_of.Goals as goal
use Rattle.pair_writers.proofs.shift_jis.bytes_of.Goals.{Then-katakana}

is_katakana : (c : Then-katakana) → within 0xFF61 c.args.c 0xFF9F ≡ true
is_katakana c = sym c.katakana.ensures ∙ c.if-katakana.true

pub returns-then-c-le128 : goal.returns-then-c-le128
returns-then-c-le128 c = λ h. shift_jis-self _ _ c.if-c-le128.true

pub returns-then-c-eq165 : goal.returns-then-c-eq165
returns-then-c-eq165 c = λ h. shift_jis-yen _ _ c.if-c-eq165.true

pub returns-then-c-eq8254 : goal.returns-then-c-eq8254
returns-then-c-eq8254 c = λ h. shift_jis-overline _ _ c.if-c-eq8254.true

pub returns-then-katakana : goal.returns-then-katakana
returns-then-katakana c =
    λ h. shift_jis-katakana _ _ c.if-c-eq165.false c.if-c-eq8254.false c.if-c-le128.false (is_katakana (goal.at.returns-then-katakana c).Then-katakana)

pub returns : goal.returns
returns c =
    let m = c.minus.ensures in
    λ h. (rw m at (c.pair.ensures (shift_jis-rows c.args.table.now h.0) h.1)) ∙
    shift_jis-pair _ (look_up c.args.table.now c.args.links.now) c.if-c-eq165.false c.if-c-eq8254.false c.if-c-le128.false
    (sym c.katakana.ensures ∙ c.if-katakana.false)
