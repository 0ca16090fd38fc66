use mathlib.Core.Path.{◌≡◌, subst}
use Prim.Native.Nat.{ℕ}
use lib.ListN.{length}
use Rattle.pair_writers.specs.Pairs.{bytes_in}
use Rattle.encoder.specs.WriterCode.{Running}
use Rattle.encoder.proofs.Counting.{running_on, here_bytes}
use Rattle.encoder.proofs.PairSlots.{bytes_most, stays_here}
use native.Mathlib.Omega.{arith}
use Rattle.encoder.proofs.pairs.run_by.Goals as goal

pub loop-index-preserved : goal.loop-index-preserved
loop-index-preserved c =
    let inv = c.loop-index.invariant in
    let kept = c.in-Some.ensures in
    let put = c.put_kept-written.ensures in
    let jis = c.stays.ensures c.if-not-stays.false in (
      omega (arith, c.loop-index-test.true),
      omega (arith, c.put_kept-written.auto, put.0, bytes_most c.args.encoding c.in-Some.v, c.if-room-written-lt2.false, inv.1),
      omega (arith, c.put_kept-written.auto, inv.2),
      λ one mode begin first stays space r.
          let wrote = stays_here c.args.encoding _ c.args.slots.now one stays jis _ _ (kept.1, kept.2) kept.0 in
          running_on _ _ _ _ _ _ _ _ _ (inv.3 one mode begin first stays space r) _ (bytes_in c.args.encoding c.in-Some.v)
          (here_bytes _ _ _ _ _ c.loop-index-test.true wrote) space _ _ put.0 put.1,
    )

pub returns : goal.returns
returns c =
    let inv = c.loop-index.invariant in
    let a = c.args in
    let z : c.loop-index.index ≡ length a.scalars.now = omega (arith, c.loop-index-test.false, inv.0) in (
      c.requires.0,
      omega arith,
      λ one mode begin first stays space r.
          subst (λ (i : ℕ). Running one mode begin a.scalars.now first c.loop-index.room i c.loop-index.written a.state) z
          (inv.3 one mode begin first stays space r),
    )
