use Rattle.runs.specs.Run.{ready}
use borrow.Author.Tests.{le-leb, lt-leb}
use native.Mathlib.Omega.{arith}
use Rattle.runs.proofs.ready.Goals as goal

pub returns-then-bytes-from : goal.returns-then-bytes-from
unfolding ready
returns-then-bytes-from c = rw (lt-leb c.args.from c.args.bytes (omega arith))

pub returns-then-bytes-gt65536 : goal.returns-then-bytes-gt65536
unfolding ready
returns-then-bytes-gt65536 c =
    let args = c.args in
    rw (le-leb args.from args.bytes (omega arith), lt-leb args.bytes 65536 (omega arith))

pub returns-then-space-place : goal.returns-then-space-place
unfolding ready
returns-then-space-place c =
    let args = c.args in
    rw (le-leb args.from args.bytes (omega arith), le-leb args.bytes 65536 (omega arith), lt-leb args.place args.space (omega arith))

pub returns : goal.returns
unfolding ready
returns c =
    let args = c.args in
    rw (le-leb args.from args.bytes (omega arith), le-leb args.bytes 65536 (omega arith), le-leb args.place args.space (omega arith))
