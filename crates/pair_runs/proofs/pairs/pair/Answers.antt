use Rattle.pair_runs.proofs.Pairing.{found_pair, kana_pair, told_both}
use mathlib.Core.Path.{sym, ap, ◌≡◌, ◌∙◌}
use Prim.Native.Nat.{◌+◌}
use Rattle.standard.specs.Sequence.{cell}
use Rattle.pair_runs.specs.Layout.{row, column}
use native.Mathlib.Omega.{arith}
use Rattle.pair_runs.proofs.pairs.pair.Goals as goal
use Rattle.pair_runs.proofs.pairs.pair.Goals.{After-cell-c, Else-c-ne0}

-- the cell of the pair
looked : (c : After-cell-c) → c.cell-c.result ≡ cell c.args.t1.now (row c.args.encoding c.args.lead + column c.args.encoding c.args.trail)
looked c = c.cell-c.ensures ∙ ap (cell c.args.t1.now) c.pointer_of.ensures

-- it is empty
empty : (c : Else-c-ne0) → cell c.args.t1.now (row c.args.encoding c.args.lead + column c.args.encoding c.args.trail) ≡ 0
empty c = omega (arith, looked (goal.at.Else-c-ne0 c).After-cell-c, c.if-c-ne0.false)

pub returns-then-c-ne0 : goal.returns-then-c-ne0
returns-then-c-ne0 c =
    let args = c.args in
    λ second xs.
    found_pair args.t1.now second args.encoding c.requires.0 c.requires.1 args.lead args.trail c.cell-c.result
    (looked (goal.at.returns-then-c-ne0 c).After-cell-c) c.if-c-ne0.true xs

pub returns-then-encoding-eq34 : goal.returns-then-encoding-eq34
returns-then-encoding-eq34 c =
    let e : c.args.encoding ≡ 34 = omega arith in
    told_both c.user_pair.result (empty (goal.at.returns-then-encoding-eq34 c).Else-c-ne0) c.user_pair.ensures
    (λ u found second xs. rw e (found c.args.t1.now second xs))

pub returns-then-lead-ne142 : goal.returns-then-lead-ne142
returns-then-lead-ne142 c = empty (goal.at.returns-then-lead-ne142 c).Else-c-ne0

pub returns-then-encoding-ne32 : goal.returns-then-encoding-ne32
returns-then-encoding-ne32 c = empty (goal.at.returns-then-encoding-ne32 c).Else-c-ne0

pub returns-then-within : goal.returns-then-within
returns-then-within c =
    let args = c.args in
    let e : args.encoding ≡ 32 = omega arith in
    λ second xs. rw e (kana_pair args.t1.now second args.lead xs args.trail (omega arith) (sym c.within.ensures ∙ c.if-within.true))

pub returns : goal.returns
returns c = empty (goal.at.returns c).Else-c-ne0
