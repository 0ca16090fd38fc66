use Prim.Native.Nat.{◌+◌, ◌≤◌}
use native.Mathlib.Omega.{arith}
use lib.ListN.{length}
use Rattle.std.proofs.lemmas.Option.{IfSome_then}
use Rattle.iso_2022_jp_runs.proofs.IsoRuns.{escape_there}
use Rattle.iso_2022_jp_runs.proofs.escape_at.Goals as goal

pub returns : goal.returns
returns c =
    let args = c.args in
    let inside : args.i + 3 ≤ length args.chunk.now = omega arith in
    IfSome_then c.escape_of.result c.escape_of.ensures (λ s e. (
      inside,
      escape_there args.chunk.now args.i args.flag s c.if-flag-eq1.false inside c.if-chunk-i-ne27.false e.0 e.1 e.2,
    ))
