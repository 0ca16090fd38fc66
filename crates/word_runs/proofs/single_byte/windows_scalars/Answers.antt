use Prim.Native.Nat.{◌-◌}
use lib.ListN.{length}
use mathlib.Core.Path.{refl}
use Rattle.word_runs.specs.Bytes.{windows_scalar}
use Rattle.word_runs.proofs.ByteRuns.{looked_up_lem}
use Rattle.standard.specs.Indexes.{irregular}
use Rattle.word_runs.proofs.single_byte.windows_scalars.Goals as goal

pub windows_bytes-requires : goal.windows_bytes-requires
unfolding irregular
windows_bytes-requires c = (refl, c.requires)

pub fill_windows-requires : goal.fill_windows-requires
unfolding irregular
fill_windows-requires c = refl

pub returns : goal.returns
returns c =
    let args = c.args in
    let found = c.look_up in
    let filled = c.fill_windows in
    (looked_up_lem windows_scalar filled.new.table args.chunk.now args.from (length args.chunk.now - args.from) args.place args.room.now found.new.room filled.ensures found.ensures.0, found.ensures.1)
