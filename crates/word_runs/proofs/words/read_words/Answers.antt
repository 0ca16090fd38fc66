use native.Mathlib.Omega.{arith}
use mathlib.Core.Bool.{false}
use mathlib.Core.Path.{◌≡◌, refl, ap, ◌∙◌}
use Prim.Native.Nat.{ℕ, ◌+◌}
use lib.ListN.{length, length-set}
use borrow.Author.Count.{below_more}
use Rattle.word_runs.specs.Units.{values, unit_at}
use Rattle.runs.specs.Run.{patch}
use Rattle.word_runs.proofs.Values.{values_length, wrote_more}
use Rattle.runs.proofs.Patches.{patch_none, patch_all}
use Rattle.word_runs.proofs.words.read_words.Goals as goal

pub loop-k-init : goal.loop-k-init
unfolding values
loop-k-init c = record { size = refl; bytes = λ j l. absurd (omega arith); wrote = patch_none c.args.words.now 0 }

pub loop-k-preserved : goal.loop-k-preserved
loop-k-preserved c =
    let args = c.args in
    let at-loop = c.loop-k in
    let inv = at-loop.invariant in
    let z : 0 + at-loop.k ≡ at-loop.k = omega arith in
    let more = wrote_more args.words.now at-loop.words 0 (unit_at false args.chunk.now args.at) at-loop.k inv.wrote (omega arith) c.word.result c.word.ensures.0 in
    record { size = simp length-set inv.size; bytes = below_more _ _ inv.bytes (c.word.ensures.1, c.word.ensures.2); wrote = rw z at more }

pub returns : goal.returns
returns c =
    let words = c.args.words.now in
    let inv = c.loop-k.invariant in
    let all : c.loop-k.k ≡ length words = omega arith in
    let f = unit_at false c.args.chunk.now c.args.at in
    (λ j l. inv.bytes j (omega (arith, all)), inv.wrote ∙ ap (λ (n : ℕ). patch 0 (values f n) words) all ∙ patch_all words (values f (length words)) (values_length f (length words)))
