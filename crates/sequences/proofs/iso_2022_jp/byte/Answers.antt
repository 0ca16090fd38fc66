use mathlib.Core.Path.{sym, ◌∙◌}
use Rattle.sequences.proofs.Iso2022JpLeaves.{byte_kana, byte_none, byte_roman, byte_self}
use native.Mathlib.Omega.{arith}
use Rattle.sequences.proofs.iso_2022_jp.byte.Goals as goal

pub returns-then-state-eq2 : goal.returns-then-state-eq2
returns-then-state-eq2 c = let a = c.args in c.katakana.ensures ∙ sym (byte_kana a.state a.b (omega arith))

pub returns-then-no_character : goal.returns-then-no_character
returns-then-no_character c =
    let args = c.args in
    let at-no-character = c.no_character in
    let at-if2 = c.if-no_character in
    c.fails.ensures ∙ sym (byte_none args.state args.b (omega arith) (sym at-no-character.ensures ∙ at-if2.true))

pub returns-then-state-eq1 : goal.returns-then-state-eq1
returns-then-state-eq1 c =
    let args = c.args in
    let at-no-character = c.no_character in
    let at-if2 = c.if-no_character in
    let at_roman = c.roman in
    c.says.ensures ∙ sym (byte_roman args.state args.b (sym at-no-character.ensures ∙ at-if2.false) at_roman.result at_roman.ensures (omega arith))

pub returns : goal.returns
returns c =
    let args = c.args in
    let at-no-character = c.no_character in
    let at-if2 = c.if-no_character in
    c.says-2.ensures ∙ sym (byte_self args.state args.b (sym at-no-character.ensures ∙ at-if2.false) (omega arith) (omega arith))
