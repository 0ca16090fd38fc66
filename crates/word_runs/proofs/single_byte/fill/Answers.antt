use native.Mathlib.Omega.{arith}
use mathlib.Core.Path.{ap, ◌∙◌}
use Prim.Native.Nat.{ℕ}
use lib.ListN.{get_or}
use Rattle.standard.specs.Base.{◌then◌else◌, mapped}
use Rattle.word_runs.specs.Bytes.{byte_scalar}
use Rattle.word_runs.proofs.ByteRuns.{replaced_none, replaced_more, replaced_all, byte_ascii, byte_upper}
use Rattle.word_runs.proofs.single_byte.fill.Goals as goal

pub loop-k-init : goal.loop-k-init
loop-k-init c = (c.unmapped-other.ensures, replaced_none _ _ (omega arith) c.places.ensures)

pub loop-k-preserved : goal.loop-k-preserved
loop-k-preserved c =
    let inv = c.loop-k.invariant in
    let cell = get_or c.args.cells.now c.loop-k.k 0 in
    (inv.0, replaced_more _ c.loop-k.table c.loop-k.k inv.1 c.mapped_or.result (omega arith) (c.mapped_or.ensures ∙ ap (λ (x : ℕ). mapped cell then cell else x) inv.0))

pub returns : goal.returns
returns c =
    let mode = c.args.mode in
    let cells = c.args.cells.now in
    replaced_all _ c.loop-k.table c.loop-k.k c.loop-k.invariant.1 (byte_scalar mode cells) (λ j l. byte_ascii mode cells j l) (λ j l. byte_upper mode cells j (omega arith)) (λ j l l'. absurd (omega arith))
