use Rattle.std.proofs.Common.{◌-◌, rules, length}
use Rattle.program_text.proofs.Refills.{read_more}
use Rattle.program_text.proofs.refill.fill.Goals as goal

pub loop-n-preserved : goal.loop-n-preserved
loop-n-preserved g c =
    let l = c.loop-n in
    record {
      few = search rules;
      bytes = read_more _ _ _ l.n (length l.buffer - l.n) l.buffer c.read.new.buf l.invariant.few l.invariant.bytes c.in_ok-more.more
          c.in_ok-more.ensures.bound.0 c.in_ok-more.ensures.bytes.0;
    }
