use Rattle.program_text.proofs.Texts.{put_copy}
use Rattle.program_text.proofs.lines.put_bytes.Goals as goal

pub returns : goal.returns
returns c = put_copy c.args.out.now c.args.bytes.now c.args.at c.requires c.copy_from_slice.ensures.after
