use native.Mathlib.Omega.{arith}
use mathlib.Core.Path.{◌≡◌, refl}
use Prim.Native.Nat.{ℕ, ◌+◌, ◌-◌, ◌%◌}
use lib.ListN.{length, get_or}
use Rattle.line_feeds.proofs.Parts.{Counted, part_more, last_part, at_most}
use Rattle.word_runs.proofs.ByteRuns.{through_on}
use Rattle.word_runs.proofs.single_byte.look_up.Goals as goal
use Rattle.word_runs.proofs.single_byte.look_up.Goals.{After-in_bytes-last}

-- the line feeds up to the last block, and all
counted : (c : After-in_bytes-last) →
    let args = c.args in
    let b = c.put_blocks-b.result in
    Counted args.chunk.now args.from (args.place % 2 + b.length) (c.in_bytes-first.result + b.lines)
counted c =
    let args = c.args in
    let z : args.from + args.place % 2 - args.from ≡ args.place % 2 = omega arith in
    part_more (args.from + args.place % 2) c.put_blocks-b.result.length refl (record { is = rw z at c.in_bytes-first.ensures }) c.put_blocks-b.ensures.2

all : (c : After-in_bytes-last) →
    let args = c.args in
    let b = c.put_blocks-b.result in
    Counted args.chunk.now args.from (length args.chunk.now - args.from) (c.in_bytes-first.result + b.lines + c.in_bytes-last.result)
all c =
    let args = c.args in
    let k = args.place % 2 + c.put_blocks-b.result.length in
    let n = length args.chunk.now in
    let z : n - (args.from + k) ≡ n - args.from - k = omega arith in
    last_part (args.from + k) (n - args.from) refl (omega (arith, c.put_blocks-b.ensures.0, c.requires.1)) (counted c) (rw z at c.in_bytes-last.ensures)

pub overflow_add-result : goal.overflow_add-result
overflow_add-result c = omega (arith, at_most (counted (goal.at.overflow_add-result c).After-in_bytes-last), c.requires.1, c.put_blocks-b.ensures.0)

pub overflow_add-result-2 : goal.overflow_add-result-2
overflow_add-result-2 c = omega (arith, at_most (all (goal.at.overflow_add-result-2 c).After-in_bytes-last), c.requires.1)

pub returns : goal.returns
returns c =
    let args = c.args in
    let v : ℕ → ℕ = λ (b : ℕ). get_or args.table.now b 0 in
    let ready = c.requires.1 in
    let short = c.put_blocks-b.ensures.0 in
    let k = args.place % 2 + c.put_blocks-b.result.length in
    let n = length args.chunk.now - args.from in
    let two = through_on v c.put_bytes.ensures refl refl (omega (arith, ready, c.requires.1)) c.put_blocks-b.ensures.1 in
    let three = through_on v two refl refl (omega (arith, ready, short, c.requires.1)) c.put_bytes-2.ensures in
    let z : k + (n - k) ≡ n = omega (arith, short, c.requires.1) in
    (rw z at three, (all (goal.at.returns c).After-in_bytes-last).is)
