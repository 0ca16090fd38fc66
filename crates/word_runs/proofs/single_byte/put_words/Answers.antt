use native.Mathlib.Omega.{arith}
use mathlib.Core.Path.{◌≡◌, refl, ap, ◌∙◌}
use Prim.Native.Nat.{ℕ, ◌+◌, ◌*◌}
use lib.ListN.{get_or}
use Rattle.word_runs.specs.Bytes.{byte_of}
use Rattle.word_runs.specs.Units.{values}
use Rattle.runs.specs.Run.{patch}
use Rattle.word_runs.proofs.Values.{wrote_on}
use Rattle.runs.proofs.Patches.{patch_none}
use Rattle.word_runs.proofs.single_byte.put_words.Goals as goal

pub loop-t-init : goal.loop-t-init
unfolding values
loop-t-init c = (refl, patch_none c.args.room.now c.args.o)

pub put_sixteen-requires : goal.put_sixteen-requires
put_sixteen-requires c = (c.requires.0, omega arith, omega (arith, c.requires.1, c.loop-t.invariant.0))

pub loop-t-preserved : goal.loop-t-preserved
loop-t-preserved c =
    let args = c.args in
    let t = c.loop-t.t in
    let inv = c.loop-t.invariant in
    let scalar : ℕ → ℕ = λ (i : ℕ). get_or args.table.now (byte_of args.words.now i) 0 in
    let place : t * 16 * 2 ≡ t * 32 = omega arith in
    let all : t * 32 + 32 ≡ (t + 1) * 32 = omega arith in
    let wrote = wrote_on args.room.now c.loop-t.room _ args.o scalar (λ (k : ℕ). scalar (t * 16 * 2 + k)) (t * 32) 32 inv.1 c.put_sixteen.ensures
    (λ k l. ap (λ (i : ℕ). scalar (i + k)) place) (omega (arith, c.requires.1)) in
    (omega (arith, inv.0), wrote ∙ ap (λ (n : ℕ). patch args.o (values scalar n) args.room.now) all)

pub returns : goal.returns
returns c =
    let all : c.loop-t.t ≡ 12 = omega arith in
    c.loop-t.invariant.1 ∙ ap (λ (n : ℕ). patch c.args.o (values (λ (k : ℕ). get_or c.args.table.now (byte_of c.args.words.now k) 0) (n * 32)) c.args.room.now) all
