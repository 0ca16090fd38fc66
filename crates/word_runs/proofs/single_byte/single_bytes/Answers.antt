use native.Mathlib.Omega.{arith}
use native.Mathlib.Nat.{add-zero}
use mathlib.Core.Path.{◌≡◌, ap, ◌∙◌}
use Prim.Native.Nat.{◌+◌, ◌-◌}
use lib.ListN.{length}
use Rattle.std.proofs.lemmas.List.Edits.{get_or-between, length-between}
use Rattle.word_runs.specs.Bytes.{byte_scalar}
use Rattle.runs.proofs.Running.{going_start}
use Rattle.word_runs.proofs.ByteRuns.{single_step}
use Rattle.word_runs.proofs.single_byte.single_bytes.Goals as goal

pub loop-k-init : goal.loop-k-init
loop-k-init c = (rw (add-zero c.args.from, add-zero c.args.place) (going_start c.requires.1), omega arith)

pub loop-k-preserved : goal.loop-k-preserved
loop-k-preserved c =
    let args = c.args in
    let chunk = args.chunk.now in
    let k = c.loop-k.k in
    let byte = get_or-between chunk args.from (length chunk) k 0 (omega arith) in
    let at : args.from + k + 1 ≡ args.from + (k + 1) = omega arith in
    let to : args.place + k + 1 ≡ args.place + (k + 1) = omega arith in
    let is = c.in-Some.ensures.0 ∙ ap (byte_scalar args.mode args.t1.now) byte in
    let on = single_step args.t1.now args.t2.now args.mode chunk args.from (args.from + k) args.place (args.place + k) args.room.now c.loop-k.room c.loop-k.invariant.0 _ is c.in-Some.ensures.1 (omega arith) in
    (rw (at, to) at on, omega arith)

pub returns : goal.returns
returns c =
    let chunk = c.args.chunk.now in
    let all : c.loop-k.k ≡ length chunk - c.args.from = omega (arith, length-between chunk c.args.from (length chunk) (omega arith)) in
    rw all at c.loop-k.invariant.0.runs
