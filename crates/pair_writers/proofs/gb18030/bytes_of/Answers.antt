-- `gb18030::bytes_of`, test by test. Assumes nothing.
use mathlib.Core.Path.{◌≡◌, sym, ◌∙◌}
use mathlib.Core.Bool.{false, ◌&&◌}
use lib.Dec.{eqb}
use Rattle.pair_writers.proofs.Encoders.{gb18030_rows}
use Rattle.pair_writers.proofs.Fours.{gb_self, gb_e5e5, gb_euro, gb_pair, gb_gbk, gb_four}
use Rattle.pair_writers.proofs.gb18030.bytes_of.Goals as goal
use Rattle.pair_writers.proofs.gb18030.bytes_of.Goals.{After-pair-one}

no_euro : (c : After-pair-one) → (c.args.gbk && eqb c.args.c 0x20AC) ≡ false
no_euro c = sym c.euro.ensures ∙ c.if-euro.false

pub returns-then-c-lt128 : goal.returns-then-c-lt128
returns-then-c-lt128 c = λ h g. gb_self _ _ _ _ _ c.if-c-lt128.true

pub returns-then-c-eq58853 : goal.returns-then-c-eq58853
returns-then-c-eq58853 c = λ h g. gb_e5e5 _ _ _ _ _ c.if-c-eq58853.true

pub returns-then-euro : goal.returns-then-euro
returns-then-euro c =
    λ h g. gb_euro _ _ _ _ _ c.if-c-lt128.false c.if-c-eq58853.false (sym c.euro.ensures ∙ c.if-euro.true)

pub returns-then-gbk : goal.returns-then-gbk
returns-then-gbk c =
    λ h g. gb_gbk _ _ _ c.args.ranges.now _ c.if-c-lt128.false c.if-c-eq58853.false (no_euro (goal.at.returns-then-gbk c).After-pair-one) c.pair-one.result
    (c.pair-one.ensures (gb18030_rows c.args.table.now h.0) h.1) c.if-gbk.true

pub returns-else-gbk : goal.returns-else-gbk
returns-else-gbk c =
    λ h g. c.four.ensures g ∙
    gb_four _ _ _ c.args.ranges.now _ c.if-c-lt128.false c.if-c-eq58853.false (no_euro (goal.at.returns-else-gbk c).After-pair-one) c.pair-one.result
    (c.pair-one.ensures (gb18030_rows c.args.table.now h.0) h.1) _ c.in-Unwritable.is c.if-gbk.false

pub returns-in_default : goal.returns-in_default
returns-in_default c =
    λ h g. gb_pair _ _ _ c.args.ranges.now _ c.if-c-lt128.false c.if-c-eq58853.false (no_euro (goal.at.returns-in_default c).After-pair-one) c.pair-one.result
    (c.pair-one.ensures (gb18030_rows c.args.table.now h.0) h.1) c.in_default.not-Unwritable
