-- `iso_2022_jp::bytes_of`, test by test. Assumes nothing.
use mathlib.Core.Path.{◌∙◌}
use Rattle.reverse_index_spec.specs.ReverseIndex.{look_up}
use Rattle.pair_writers.proofs.Encoders.{iso_2022_jp_ascii, iso_2022_jp_yen, iso_2022_jp_overline}
use Rattle.pair_writers.proofs.Encoders.{iso_2022_jp_unmapped, iso_2022_jp_pair, iso_2022_jp_rows}
use Rattle.pair_writers.proofs.iso_2022_jp.bytes_of.Goals as goal

pub returns-then-c-lt128 : goal.returns-then-c-lt128
returns-then-c-lt128 c = λ h. c.ascii.ensures ∙ iso_2022_jp_ascii _ _ _ c.if-c-lt128.true

pub returns-then-c-eq165 : goal.returns-then-c-eq165
returns-then-c-eq165 c = λ h. iso_2022_jp_yen _ _ _ c.if-c-eq165.true

pub returns-then-c-eq8254 : goal.returns-then-c-eq8254
returns-then-c-eq8254 c = λ h. iso_2022_jp_overline _ _ _ c.if-c-eq8254.true

pub returns-in-None : goal.returns-in-None
returns-in-None c =
    λ h. iso_2022_jp_unmapped (look_up c.args.table.now c.args.links.now) _ _ c.if-c-lt128.false c.if-c-eq165.false c.if-c-eq8254.false
    c.in-None.ensures

pub returns-in-Some : goal.returns-in-Some
returns-in-Some c =
    λ h. c.pair.ensures (iso_2022_jp_rows c.args.table.now h.0) h.1 ∙
    iso_2022_jp_pair (look_up c.args.table.now c.args.links.now) _ _ c.if-c-lt128.false c.if-c-eq165.false c.if-c-eq8254.false _
    c.in-Some.ensures
