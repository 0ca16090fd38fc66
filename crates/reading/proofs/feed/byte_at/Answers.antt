use lib.ListN.{get_or-eq_default}
use mathlib.Core.Path.{sym, ◌∙◌}
use Rattle.reading.proofs.Loop.{byte_held, byte_chunk, third_is}
use native.Mathlib.Omega.{arith}
use Rattle.reading.proofs.feed.byte_at.Goals as goal

pub returns-then-j-chunk : goal.returns-then-j-chunk
returns-then-j-chunk c =
    let args = c.args in
    sym (byte_chunk args.held args.chunk.now (omega arith) args.i (omega arith))

pub returns-then-count-i : goal.returns-then-count-i
returns-then-count-i c =
    let args = c.args in
    sym (byte_chunk args.held args.chunk.now (omega arith) args.i (omega arith) ∙ get_or-eq_default args.chunk.now 0 (omega arith))

pub returns-in-0 : goal.returns-in-0
returns-in-0 c =
    let args = c.args in
    sym (byte_held args.held args.chunk.now (omega arith) args.i (omega arith) ∙ rw c.in-0.is)

pub returns-in-1 : goal.returns-in-1
returns-in-1 c =
    let args = c.args in
    sym (byte_held args.held args.chunk.now (omega arith) args.i (omega arith) ∙ rw c.in-1.is)

pub returns-in_default : goal.returns-in_default
returns-in_default c =
    let args = c.args in
    sym (byte_held args.held args.chunk.now (omega arith) args.i (omega arith) ∙ third_is _ _ _ args.i (omega arith) (omega arith) (omega arith))
