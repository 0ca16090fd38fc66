-- `read`: no entry, or the parts, one after the other. Assumes nothing.
use mathlib.Core.Path.{sym, ◌∙◌}
use Rattle.std.proofs.Common.{rules}
use Rattle.index_spec.specs.IndexLine.{decimal, hexadecimal}
use Rattle.index_spec.specs.IndexRead.{space}
use Rattle.index.proofs.Parts.{Front, read_nothing, read_unmarked, read_unfit, read_unmapped, read_entry}
use Rattle.index.proofs.reading.read.Goals as goal
use Rattle.index.proofs.reading.read.Goals.{After-split_front-2}

before : (c : After-split_front-2) → Front c.args.line.now c.split_front.result.1.now c.split_front-2.result.0.now c.split_front-2.result.1.now
before c =
    let digits = c.split_front-2.ensures decimal (λ b r q. search rules) in
    record {
      some = sym c.has_no_entry.ensures ∙ c.if-has_no_entry.false;
      spaces = (c.split_front.ensures space (λ b r q. search rules)).1;
      decimals = digits.0;
      remains = digits.1;
    }

pub returns-then-has_no_entry : goal.returns-then-has_no_entry
returns-then-has_no_entry c = read_nothing _ (sym c.has_no_entry.ensures ∙ c.if-has_no_entry.true)

pub returns-in_default : goal.returns-in_default
returns-in_default c = read_unmarked _ _ _ _ (before (goal.at.returns-in_default c).After-split_front-2) c.in_default.ensures.cases

pub returns-then-not-parts_fit : goal.returns-then-not-parts_fit
returns-then-not-parts_fit c =
    let mark = c.in-Some.ensures.cases in
    read_unfit _ _ _ _ (before (goal.at.returns-then-not-parts_fit c).After-split_front-2) mark.0 _ _ _ mark.1
    (c.split_front-3.ensures hexadecimal (λ b r q. q)) (sym c.parts_fit.ensures ∙ c.if-not-parts_fit.true)

pub returns-then-not-mapped : goal.returns-then-not-mapped
returns-then-not-mapped c =
    let mark = c.in-Some.ensures.cases in
    read_unmapped _ _ _ _ (before (goal.at.returns-then-not-mapped c).After-split_front-2) mark.0 _ _ _ mark.1
    (c.split_front-3.ensures hexadecimal (λ b r q. q)) (sym c.parts_fit.ensures ∙ c.if-not-parts_fit.false) _ c.number-code_point.ensures
    (sym c.mapped.ensures ∙ c.if-not-mapped.true)

pub returns : goal.returns
returns c =
    let mark = c.in-Some.ensures.cases in
    read_entry _ _ _ _ (before (goal.at.returns c).After-split_front-2) mark.0 _ _ _ mark.1
    (c.split_front-3.ensures hexadecimal (λ b r q. q)) (sym c.parts_fit.ensures ∙ c.if-not-parts_fit.false) _ c.number-code_point.ensures
    (sym c.mapped.ensures ∙ c.if-not-mapped.false) _ c.number.ensures
