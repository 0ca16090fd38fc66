-- The trimmed label, looked up. Assumes nothing.
use Rattle.labels.proofs.LookUp.{call_known, call_unknown}
use Rattle.labels.proofs.find_label.Goals as goal

pub returns-in-Some : goal.returns-in-Some
returns-in-Some c = call_known c.args.bytes.now _ c.trim-part.ensures.same _ _ c.front.ensures.value c.in-Some.ensures

pub returns-in-None : goal.returns-in-None
returns-in-None c = call_unknown c.args.bytes.now _ c.trim-part.ensures.same c.in-None.ensures
