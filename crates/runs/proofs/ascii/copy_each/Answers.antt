use Rattle.std.proofs.Common.{◌+◌, ◌<◌, ◌≡◌, ◌-◌, ◌∙◌, length, get_or, arith}
use Rattle.std.proofs.lemmas.List.Edits.{get_or-between, length-between}
use Rattle.runs.proofs.Stretches.{copying_start, copying_on, copied_one, begins_end}
use Rattle.runs.proofs.ascii.copy_each.Goals as goal

pub loop-k-init : goal.loop-k-init
loop-k-init c = (copying_start c.requires, omega arith)

pub returns-then-b-ge128 : goal.returns-then-b-ge128
returns-then-b-ge128 c =
    let chunk = c.args.chunk.now in
    let byte = get_or-between chunk c.args.at (length chunk) c.loop-k.k 0 (omega arith) in
    (c.loop-k.invariant.0.copied, begins_end chunk c.args.at c.loop-k.k (omega (arith, byte, c.if-b-ge128.true)))

pub loop-k-preserved : goal.loop-k-preserved
loop-k-preserved c =
    let chunk = c.args.chunk.now in
    let k = c.loop-k.k in
    let byte = get_or-between chunk c.args.at (length chunk) k 0 (omega arith) in
    let low : get_or chunk (c.args.at + k) 0 < 0x80 = omega (arith, byte, c.if-b-ge128.false) in
    (rw (c.from.ensures ∙ byte) (copying_on c.loop-k.invariant.0 (copied_one chunk (c.args.at + k) (c.args.o + k) c.loop-k.room (omega arith) low (omega arith))), omega arith)

pub returns : goal.returns
returns c =
    let all : c.loop-k.k ≡ length c.args.chunk.now - c.args.at = omega (arith, length-between c.args.chunk.now c.args.at (length c.args.chunk.now) (omega arith)) in
    (rw all at c.loop-k.invariant.0.copied, λ l q. omega arith)
