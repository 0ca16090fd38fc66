-- The constant holds the table of 004, by computation. Assumes nothing.
use Rattle.std.proofs.Common.{refl}
use Rattle.standard.specs.Text.{bytes}
use Rattle.labels_spec.specs.Labels.{table, same, among, find}
use Rattle.labels_spec.proofs.Known.{each_of, each}
use Rattle.labels.proofs.LookUp.{looked, holds, found}
use Rattle.labels.proofs.encoding_of.Goals as goal

pub returns : goal.returns
unfolding holds looked each each_of table bytes same among find
returns c = found _ refl c.args.label.now c.look_up.ensures
