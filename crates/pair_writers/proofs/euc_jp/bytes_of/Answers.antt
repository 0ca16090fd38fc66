-- `euc_jp::bytes_of`, test by test. Assumes nothing.
use mathlib.Core.Path.{◌≡◌, sym, ◌∙◌}
use mathlib.Core.Bool.{true}
use Rattle.standard.specs.Base.{within}
use Rattle.pair_writers.proofs.Encoders.{euc_jp-self, euc_jp-yen, euc_jp-overline, euc_jp-katakana, euc_jp-pair, euc_jp-rows}
use Rattle.reverse_index_spec.specs.ReverseIndex.{look_up}
use Rattle.pair_writers.proofs.euc_jp.bytes_of.Goals as goal
use Rattle.pair_writers.proofs.euc_jp.bytes_of.Goals.{Then-katakana}

is_katakana : (c : Then-katakana) → within 0xFF61 c.args.c 0xFF9F ≡ true
is_katakana c = sym c.katakana.ensures ∙ c.if-katakana.true

pub returns-then-c-lt128 : goal.returns-then-c-lt128
returns-then-c-lt128 c = λ h. euc_jp-self _ _ c.if-c-lt128.true

pub returns-then-c-eq165 : goal.returns-then-c-eq165
returns-then-c-eq165 c = λ h. euc_jp-yen _ _ c.if-c-eq165.true

pub returns-then-c-eq8254 : goal.returns-then-c-eq8254
returns-then-c-eq8254 c = λ h. euc_jp-overline _ _ c.if-c-eq8254.true

pub returns-then-katakana : goal.returns-then-katakana
returns-then-katakana c =
    λ h. euc_jp-katakana _ _ c.if-c-eq165.false c.if-c-eq8254.false c.if-c-lt128.false (is_katakana (goal.at.returns-then-katakana c).Then-katakana)

pub returns : goal.returns
returns c =
    let m = c.minus.ensures in
    λ h. (rw m at (c.pair.ensures (euc_jp-rows c.args.table.now h.0) h.1)) ∙
    euc_jp-pair _ (look_up c.args.table.now c.args.links.now) c.if-c-eq165.false c.if-c-eq8254.false c.if-c-lt128.false
    (sym c.katakana.ensures ∙ c.if-katakana.false)
