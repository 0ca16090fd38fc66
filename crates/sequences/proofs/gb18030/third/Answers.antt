use mathlib.Core.Path.{◌≡◌, sym, ap, ◌∙◌}
use mathlib.Core.Bool.{true}
use Rattle.standard.proofs.Tests.{fails, holds}
use Rattle.standard.specs.Base.{within}
use Rattle.standard.specs.Sequence.{code}
use Rattle.standard.specs.Sequences.Gb18030.{gb18030_four_code}
use Rattle.layouts.proofs.Fours.{four_in}
use Rattle.sequences.proofs.Gb18030Leaves.{third_other, third_wait, fourth_other, fourth_digit}
use native.Mathlib.Omega.{arith}
use Rattle.std.proofs.lemmas.Bool.{not_from_true, not_from_false}
use Rattle.sequences.proofs.gb18030.third.Goals as goal
use Rattle.sequences.proofs.gb18030.third.Goals.{After-within-2}

-- the third byte is in range
in_range : (c : After-within-2) → within 0x81 c.args.d 0xFE ≡ true
in_range c = holds c.within.ensures (not_from_true _ c.if-not-within.false)

pub returns-then-not-within : goal.returns-then-not-within
returns-then-not-within c =
    let args = c.args in
    λ xs. c.wrong.ensures ∙ sym (third_other args.ranges.now args.have args.b args.c args.d args.e xs (fails c.within.ensures (not_from_false _ c.if-not-within.true)))

pub returns-then-have-lt4 : goal.returns-then-have-lt4
returns-then-have-lt4 c =
    let args = c.args in
    λ xs. sym (third_wait args.ranges.now args.have args.b args.c args.d args.e xs (holds c.within.ensures (not_from_true _ c.if-not-within.false)) (omega arith))

pub returns-then-not-within-2 : goal.returns-then-not-within-2
returns-then-not-within-2 c =
    let args = c.args in
    λ xs. c.wrong-then-not-within-2.ensures ∙ sym (fourth_other args.ranges.now args.have args.b args.c args.d args.e xs
    (in_range (goal.at.returns-then-not-within-2 c).After-within-2) (omega arith) (fails c.within-2.ensures (not_from_false _ c.if-not-within-2.true)))

pub returns : goal.returns
returns c =
    let args = c.args in
    let digit = holds c.within-2.ensures (not_from_true _ c.if-not-within-2.false) in
    let pre = c.requires in
    let pointer = c.four_pointer.ensures ∙ four_in args.b args.c args.d args.e pre.0 pre.1 (in_range (goal.at.returns c).After-within-2) digit in
    λ xs. c.gives_code.ensures ∙ ap (code 4) (c.four_code.ensures ∙ ap (gb18030_four_code args.ranges.now) pointer) ∙
    sym (fourth_digit args.ranges.now args.have args.b args.c args.d args.e xs (in_range (goal.at.returns c).After-within-2) (omega arith) digit)
