use native.Mathlib.Omega.{arith}
use mathlib.Core.Path.{◌≡◌, refl, ap, ◌∙◌}
use Prim.Native.Nat.{ℕ}
use lib.ListN.{length, get_or, length-set}
use Rattle.word_runs.specs.Units.{values, oriented}
use Rattle.runs.specs.Run.{patch}
use Rattle.word_runs.proofs.Values.{wrote_more}
use Rattle.runs.proofs.Patches.{patch_none}
use Rattle.word_runs.proofs.utf_16.put_units.Goals as goal

pub loop-k-init : goal.loop-k-init
unfolding values
loop-k-init c = (refl, patch_none c.args.room.now c.args.o)

pub loop-k-preserved : goal.loop-k-preserved
loop-k-preserved c =
    let args = c.args in
    let at-loop = c.loop-k in
    (simp length-set at-loop.invariant.0, wrote_more args.room.now at-loop.room args.o (λ (j : ℕ). oriented args.be (get_or args.words.now j 0)) at-loop.k at-loop.invariant.1 (omega arith) c.from.result (c.from.ensures ∙ c.oriented.ensures))

pub returns : goal.returns
returns c =
    let args = c.args in
    let all : c.loop-k.k ≡ length args.words.now = omega arith in
    c.loop-k.invariant.1 ∙ ap (λ (n : ℕ). patch args.o (values (λ (j : ℕ). oriented args.be (get_or args.words.now j 0)) n) args.room.now) all
