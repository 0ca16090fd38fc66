use mathlib.Core.Path.{sym, ◌∙◌}
use lib.Dec.{eqb}
use Rattle.standard.specs.Sequence.{shift}
use Rattle.standard.specs.Encodings.{lent}
use Rattle.standard.proofs.Tests.{fails, holds}
use Rattle.layouts.specs.Rows.{layout_of}
use Rattle.sequences.proofs.Iso2022JpLeaves.{iso_2022_jp_1b_wait, iso_2022_jp_1b, iso_2022_jp_byte, iso_2022_jp_bad, iso_2022_jp_wait, iso_2022_jp_pair}
use native.Mathlib.Omega.{arith}
use Rattle.std.proofs.lemmas.Bool.{not_from_true, not_from_false}
use Rattle.sequences.proofs.iso_2022_jp.iso_2022_jp.Goals as goal

pub returns-then-have-lt2 : goal.returns-then-have-lt2
returns-then-have-lt2 c =
    let args = c.args in
    λ second xs. sym (iso_2022_jp_1b_wait (lent args.t1.now second) (shift args.state (eqb args.flag 1)) args.have args.b0 args.b1 args.b2 xs (omega arith) (omega arith))

pub returns-then-b0-eq27 : goal.returns-then-b0-eq27
returns-then-b0-eq27 c =
    let args = c.args in
    λ second xs. c.escape.ensures xs ∙ sym (iso_2022_jp_1b (lent args.t1.now second) (shift args.state (eqb args.flag 1)) args.have args.b0 args.b1 args.b2 xs (omega arith) (omega arith))

pub returns-then-state-ne3 : goal.returns-then-state-ne3
returns-then-state-ne3 c =
    let args = c.args in
    λ second xs. c.byte.ensures ∙ sym (iso_2022_jp_byte (lent args.t1.now second) (shift args.state (eqb args.flag 1)) args.have args.b0 args.b1 args.b2 xs (omega arith) (omega arith))

pub returns-then-not-leads : goal.returns-then-not-leads
unfolding layout_of
returns-then-not-leads c =
    let args = c.args in
    λ second xs. c.fails.ensures ∙ sym (iso_2022_jp_bad (lent args.t1.now second) (shift args.state (eqb args.flag 1)) args.have args.b0 args.b1 args.b2 xs (omega arith) (omega arith) (fails c.leads.ensures (not_from_false _ c.if-not-leads.true)))

pub returns-then-have-lt2-2 : goal.returns-then-have-lt2-2
unfolding layout_of
returns-then-have-lt2-2 c =
    let args = c.args in
    λ second xs. sym (iso_2022_jp_wait (lent args.t1.now second) (shift args.state (eqb args.flag 1)) args.have args.b0 args.b1 args.b2 xs (omega arith) (omega arith) (holds c.leads.ensures (not_from_true _ c.if-not-leads.false)) (omega arith))

pub returns : goal.returns
unfolding layout_of
returns c =
    let args = c.args in
    λ second xs. c.trail.ensures ∙ sym (iso_2022_jp_pair (lent args.t1.now second) (shift args.state (eqb args.flag 1)) args.have args.b0 args.b1 args.b2 xs (omega arith) (omega arith) (holds c.leads.ensures (not_from_true _ c.if-not-leads.false)) (omega arith))
