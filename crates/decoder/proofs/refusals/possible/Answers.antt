use mathlib.Core.Path.{◌≡◌, sym, ◌∙◌}
use mathlib.Core.Bool.{true}
use native.Mathlib.Omega.{arith}
use lib.Dec.{eqb}
use borrow.Author.Tests.{eqb-false, eq-eqb, ne_eqb}
use Rattle.standard.specs.Sequence.{shift}
use Rattle.standard.proofs.Tests.{split}
use Rattle.decoder.specs.Code.{utf16}
use Rattle.decoder.proofs.Numbers.{possible_is}
use Rattle.decoder.proofs.refusals.possible.Goals as goal

pub returns-in-0 : goal.returns-in-0
returns-in-0 c =
    let args = c.args in
    let is = possible_is args.encoding args.mode (shift args.state (eqb args.flag 1)) args.c args.l in
    c.marking.ensures ∙ sym (is ∙ rw (eq-eqb args.encoding 0 (omega arith)))

pub returns-in-33 : goal.returns-in-33
returns-in-33 c =
    let args = c.args in
    let is = possible_is args.encoding args.mode (shift args.state (eqb args.flag 1)) args.c args.l in
    c.escaping.ensures ∙ sym (is ∙ rw (ne_eqb args.encoding 0 (omega arith), eq-eqb args.encoding 33 (omega arith)))

pub returns-in-36 : goal.returns-in-36
returns-in-36 c =
    let args = c.args in
    let is = possible_is args.encoding args.mode (shift args.state (eqb args.flag 1)) args.c args.l in
    c.replaced.ensures ∙ sym (is ∙ rw (
      ne_eqb args.encoding 0 (omega arith),
      ne_eqb args.encoding 33 (omega arith),
      eq-eqb args.encoding 36 (omega arith),
    ))

pub returns-in-37 : goal.returns-in-37
returns-in-37 c =
    let args = c.args in
    let is = possible_is args.encoding args.mode (shift args.state (eqb args.flag 1)) args.c args.l in
    let either : utf16 args.encoding ≡ true = split (eqb args.encoding 37)
    (λ h. rw h)
    (λ h. rw (h, eq-eqb args.encoding 38 (omega (arith, eqb-false args.encoding 37 h)))) in
    c.paired.ensures ∙ sym (is ∙ rw (
      ne_eqb args.encoding 0 (omega arith),
      ne_eqb args.encoding 33 (omega arith),
      ne_eqb args.encoding 36 (omega arith),
      either,
    ))

pub returns-in_default : goal.returns-in_default
returns-in_default c =
    let args = c.args in
    let is = possible_is args.encoding args.mode (shift args.state (eqb args.flag 1)) args.c args.l in
    c.unshifted.ensures ∙ sym (is ∙ rw (
      ne_eqb args.encoding 0 (omega arith),
      ne_eqb args.encoding 33 (omega arith),
      ne_eqb args.encoding 36 (omega arith),
      ne_eqb args.encoding 37 (omega arith),
      ne_eqb args.encoding 38 (omega arith),
    ))
