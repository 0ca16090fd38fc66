use mathlib.Core.Path.{◌≡◌, sym, ap, ◌∙◌}
use mathlib.Core.List.{[]}
use native.Mathlib.Omega.{arith}
use Prim.Native.Nat.{◌+◌}
use lib.ListN.{drop}
use Rattle.standard.specs.Encodings.{UTF-8, no_tables}
use Rattle.standard.specs.Sequence.{plain}
use Rattle.standard.specs.Next.{next}
use Rattle.sequences.specs.Code.{item_of, next_of}
use Rattle.standard.specs.Sequences.Utf8.{utf8}
use Rattle.runs.proofs.Fronts.{two_at, three_at, four_at}
use Rattle.runs.proofs.Running.{going_start, going_one}
use Rattle.runs.proofs.Steps.{found_gives, found_width}
use Rattle.runs.proofs.Stretches.{going_copied}
use Rattle.utf8_runs.proofs.GoodUtf8.{self_utf8, any_tables, gives_good, gives_wrong, found_front}
use Rattle.utf8_runs.proofs.sequences.Goals as goal
use Rattle.utf8_runs.proofs.sequences.Goals.{In-Some-utf8}

pub loop-i-init : goal.loop-i-init
loop-i-init c = (going_start c.requires, omega arith)

pub loop-i-smaller-then-b-lt128 : goal.loop-i-smaller-then-b-lt128
loop-i-smaller-then-b-lt128 c =
    omega (arith, c.copy_ascii-k.ensures.0.inside, c.copy_ascii-k.ensures.1 c.loop-i.invariant.0.here (omega arith) (omega arith))

pub loop-i-preserved-then-b-lt128 : goal.loop-i-preserved-then-b-lt128
loop-i-preserved-then-b-lt128 c =
    let inv = c.loop-i.invariant in
    (going_copied no_tables UTF-8 c.args.mode (self_utf8 no_tables) inv.0 c.copy_ascii-k.ensures.0, inv.1)

pub loop-i-preserved-in-Some : goal.loop-i-preserved-in-Some
loop-i-preserved-in-Some c =
    let at = c.loop-i in
    let chunk = c.args.chunk.now in
    let good = ap utf8 (two_at chunk at.i (omega arith)) ∙ c.in-Some.ensures (drop (at.i + 2) chunk) in
    (going_one at.invariant.0 (gives_good c.args.mode (drop at.i chunk) good), at.invariant.1)

pub loop-i-preserved-in-Some-three : goal.loop-i-preserved-in-Some-three
loop-i-preserved-in-Some-three c =
    let at = c.loop-i in
    let chunk = c.args.chunk.now in
    let good = ap utf8 (three_at chunk at.i (omega arith)) ∙ c.in-Some-three.ensures (drop (at.i + 3) chunk) in
    (going_one at.invariant.0 (gives_good c.args.mode (drop at.i chunk) good), at.invariant.1)

pub loop-i-preserved-in-Some-four : goal.loop-i-preserved-in-Some-four
loop-i-preserved-in-Some-four c =
    let at = c.loop-i in
    let chunk = c.args.chunk.now in
    let good = ap utf8 (four_at chunk at.i (omega arith)) ∙ c.in-Some-four.ensures (drop (at.i + 4) chunk) in
    (going_one at.invariant.0 (gives_good c.args.mode (drop at.i chunk) good), at.invariant.1)

pub loop-i-preserved-then-is_bad : goal.loop-i-preserved-then-is_bad
loop-i-preserved-then-is_bad c =
    let at = c.loop-i in
    let chunk = c.args.chunk.now in
    let bad = c.is_bad.ensures c.if-is_bad.true in
    let wrong = ap utf8 (two_at chunk at.i (omega arith)) ∙ bad.1 (drop (at.i + 2) chunk) in
    (going_one at.invariant.0 (gives_wrong c.args.mode (drop at.i chunk) wrong bad.0), at.invariant.1)

-- the sequence that the definition finds, where the code found one
found : (c : In-Some-utf8) → item_of c.in-Some-utf8.q ≡ next no_tables UTF-8 plain (drop c.loop-i.i c.args.chunk.now)
found c =
    let at = c.loop-i in
    let here = ap next_of (sym c.in-Some-utf8.is) ∙ c.utf8-2.ensures [] in
    found_front c.in-Some-utf8.q c.args.chunk.now at.i (omega (arith, c.loop-i-test.true, at.invariant.0.here)) here

pub overflow_add-i-in-loop-i-11 : goal.overflow_add-i-in-loop-i-11
overflow_add-i-in-loop-i-11 c =
    let at = c.loop-i in
    omega (arith, at.invariant.0.here, found_width at.invariant.0 c.in-Some-utf8.q (found (goal.at.overflow_add-i-in-loop-i-11 c).In-Some-utf8))

pub loop-i-smaller : goal.loop-i-smaller
loop-i-smaller c =
    let at = c.loop-i in
    omega (arith, found_width at.invariant.0 c.in-Some-utf8.q (found (goal.at.loop-i-smaller c).In-Some-utf8))

pub loop-i-preserved : goal.loop-i-preserved
loop-i-preserved c =
    let at = c.loop-i in
    (found_gives at.invariant.0 c.in-Some-utf8.q (found (goal.at.loop-i-preserved c).In-Some-utf8) c.in-Some-plain_scalar_of.ensures, at.invariant.1)

pub returns-after-loop-i : goal.returns-after-loop-i
returns-after-loop-i c = λ t. rw (any_tables t) c.loop-i.invariant.0.runs

pub returns-in_default-utf8 : goal.returns-in_default-utf8
returns-in_default-utf8 c = λ t. rw (any_tables t) c.loop-i.invariant.0.runs

pub returns-in_default-plain_scalar_of : goal.returns-in_default-plain_scalar_of
returns-in_default-plain_scalar_of c = λ t. rw (any_tables t) c.loop-i.invariant.0.runs
