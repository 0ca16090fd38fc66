-- The constant is the second names of the table, by computation. Assumes nothing.
use Rattle.std.proofs.Common.{refl}
use Rattle.standard.specs.Text.{bytes}
use Rattle.labels.proofs.Names.{by_parts}
use Rattle.index_files.specs.Files.{files}
use Rattle.index_files.proofs.Files.{named}
use Rattle.index_files.proofs.second_index_name.Goals as goal

pub returns : goal.returns
unfolding files bytes
returns c = by_parts (named 1 refl _ c.args.encoding c.args.room.now refl) c.put_name.ensures.answer c.put_name.ensures.after
