use mathlib.Core.Path.{ap}
use Rattle.decoder.proofs.Records.{record_of}
use Rattle.decoder.proofs.record.holding.Goals as goal

pub returns : goal.returns
returns c w b s xs e = ap (record_of c.args.encoding c.args.mode c.args.taken c.args.lines) e
