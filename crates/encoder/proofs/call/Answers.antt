-- `call`: a refusal, or what is written. Assumes nothing.
use mathlib.Core.Path.{refl, sym}
use Rattle.standard.specs.Encodings.{lent}
use Rattle.reverse_index_spec.specs.ReverseIndex.{look_up}
use Rattle.encoder.proofs.Calls.{accepted, number_real, tells_refusal, tells_written}
use Rattle.encoder.proofs.call.Goals as goal

pub returns-in-Err : goal.returns-in-Err
returns-in-Err c =
    let args = c.args in
    rw c.refused.ensures (tells_refusal _ _ _ _ _ (lent args.t1.now args.t2.now) _ _ _ c.in-Err.ensures (number_real _))

pub write-requires : goal.write-requires
write-requires c =
    let args = c.args in
    let k = accepted (look_up args.t1.now args.links.now) _ _ _ _ (lent args.t1.now args.t2.now) _ args.room.now (sym c.in-Ok.ensures) in
    record { scalars_value = (k.are_scalars, k.few, k.tabled); space = k.space }

pub returns-in-Ok : goal.returns-in-Ok
returns-in-Ok c =
    let args = c.args in
    tells_written _ _ _ _ _ (lent args.t1.now args.t2.now) _ _ _ c.in-Ok.ensures refl c.write.ensures
