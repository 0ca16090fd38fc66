use mathlib.Core.Path.{◌≡◌, sym}
use lib.Dec.{lit<, lit≤}
use borrow.Author.Tests.{lt-ltb, le-ltb}
use Rattle.standard.specs.Encodings.{Tables, lent}
use Rattle.clean.specs.Checking.{check_refusal, checking}
use Rattle.clean.proofs.judged.Goals as goal
use Rattle.clean.proofs.judged.Goals.{After-tables_fit, Else-bytes-gt65536}

abbrev tables : After-tables_fit → Tables
tables c = lent c.args.t1.now c.args.t2.now

passed : (c : Else-bytes-gt65536) → check_refusal c.args.encoding (tables (goal.at.Else-bytes-gt65536 c).After-tables_fit) c.args.bytes.now ≡ 0
unfolding check_refusal
passed c = rw (le-ltb 39 _ c.if-encoding-gt39.false, sym c.if-not-tables_fit.ensures, le-ltb 65536 _ c.if-bytes-gt65536.false)

pub returns-then-encoding-gt39 : goal.returns-then-encoding-gt39
unfolding checking check_refusal
returns-then-encoding-gt39 c = rw (lt-ltb 39 _ c.if-encoding-gt39.true)

pub returns-then-not-tables_fit : goal.returns-then-not-tables_fit
unfolding checking check_refusal
returns-then-not-tables_fit c = rw (le-ltb 39 _ c.if-encoding-gt39.false, sym c.if-not-tables_fit.ensures)

pub returns-then-bytes-gt65536 : goal.returns-then-bytes-gt65536
unfolding checking check_refusal
returns-then-bytes-gt65536 c = rw (le-ltb 39 _ c.if-encoding-gt39.false, sym c.if-not-tables_fit.ensures, lt-ltb 65536 _ c.if-bytes-gt65536.true)

pub walk_in-requires : goal.walk_in-requires
walk_in-requires c = (passed (goal.at.walk_in-requires c).Else-bytes-gt65536, lit< tt, lit≤ tt)

pub walk_in-requires-2 : goal.walk_in-requires-2
walk_in-requires-2 c = (passed (goal.at.walk_in-requires-2 c).Else-bytes-gt65536, lit< tt, lit≤ tt)
