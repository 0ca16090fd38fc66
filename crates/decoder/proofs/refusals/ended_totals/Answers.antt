use mathlib.Core.Path.{sym, ◌∙◌}
use Prim.Native.Nat.{ℕ, ◌+◌}
use native.Mathlib.Omega.{arith}
use borrow.Author.Tests.{le-leb, lt-leb}
use Rattle.decoder.specs.Code.{most_lines}
use Rattle.decoder.proofs.Numbers.{totals_is, behind_mark_lem}
use Rattle.decoder.proofs.refusals.ended_totals.Goals as goal
use Rattle.decoder.proofs.refusals.ended_totals.Goals.{Start}

-- the most line feeds of the label's encoding
abbrev most : Start → ℕ
most c = most_lines c.args.encoding c.args.n

pub returns-then-l-most : goal.returns-then-l-most
returns-then-l-most c =
    let args = c.args in
    rw c.most_lines-most.ensures
    (let few = le-leb args.l (most (goal.at.returns-then-l-most c).Start) (omega (arith, c.most_lines-most.ensures)) in
    rw few (sym (totals_is args.encoding args.n args.l ∙ rw few)))

pub returns-then-n-ge3 : goal.returns-then-n-ge3
returns-then-n-ge3 c =
    let args = c.args in
    behind_mark_lem args.n args.l (omega arith) ∙ sym (totals_is args.encoding args.n args.l ∙
    rw (lt-leb args.l (most (goal.at.returns-then-n-ge3 c).Start) (omega (arith, c.most_lines-most.ensures))))

pub returns-else-n-ge3 : goal.returns-else-n-ge3
returns-else-n-ge3 c =
    let args = c.args in
    rw (lt-leb 3 args.n (omega arith))
    (sym (totals_is args.encoding args.n args.l ∙ rw (
      lt-leb args.l (most (goal.at.returns-else-n-ge3 c).Start) (omega (arith, c.most_lines-most.ensures)),
      lt-leb (args.l + 3) args.n (omega arith),
    )))
