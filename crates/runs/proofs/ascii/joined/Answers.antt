use Rattle.std.proofs.Common.{rules, ◌≡◌, bit_or, fold}
use Rattle.runs.proofs.Or.{at_least_each}
use Rattle.runs.proofs.ascii.joined.Goals as goal

pub returns : goal.returns
returns c = λ j h.
    let all : c.fold.result ≡ fold bit_or 0 c.args.bytes.now = search rules in
    rw all (at_least_each 0 c.args.bytes.now j h)
