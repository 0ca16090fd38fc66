-- The constant is the names of the table of 004, by computation. Assumes nothing.
use Rattle.std.proofs.Common.{refl}
use Rattle.standard.specs.Text.{bytes}
use Rattle.labels_spec.specs.Labels.{table}
use Rattle.labels.proofs.Names.{by_parts, named}
use Rattle.labels.proofs.name.Goals as goal

pub returns : goal.returns
unfolding table bytes
returns c = by_parts (named _ c.args.encoding c.args.room.now refl) c.put_name.ensures.answer c.put_name.ensures.after
