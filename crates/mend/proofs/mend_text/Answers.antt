use Rattle.std.proofs.Common.{◌≡◌, refl, ap, ◌∙◌, not, ◌+◌, ◌-◌, ◌≤◌, ◌<◌, [], take, length, length-take-le, arith}
use Rattle.std.proofs.KnownBytes.{Appends-nil, Appends-trans}
use Rattle.standard.specs.Encodings.{lent}
use Rattle.program_text.specs.Lines.{after_line}
use Rattle.program_text.proofs.FirstLine.{after_few}
use Rattle.mend_spec.specs.Program.{joins, nothing}
use Rattle.std.proofs.lemmas.Result.{on_ok_weaker}
use Rattle.mend.proofs.Runs.{most, joins_assoc, pending, suits_still, first_head, next_head, enough, at_end, at_refusal, known_first, known_next, known_end}
use Rattle.mend.proofs.mend_text.Goals as goal

pub loop-init : goal.loop-init
loop-init g c =
    let a = c.args in
    let s = c.mend_chunk-s in
    let b = after_line (take a.read a.buffer.now) in
    let chunk : c.after_line-first.result.now ≡ b = c.after_line-first.ensures in
    let few : length b ≤ length a.buffer.now = omega (arith, after_few (take a.read a.buffer.now), length-take-le a.read a.buffer.now c.requires, c.requires) in
    let wrote = rw (ap (λ o. o.decoder) c.open-opened.ensures, chunk) at s.ensures.wrote in
    record {
      buffer = refl;
      read = c.requires;
      few = s.ensures.few;
      sized = s.ensures.sized;
      known = known_first _ _ _ _ (λ all q. first_head (lent a.table.now []) (length a.buffer.now) q.1 a.encoding b all a.read
          q.0.known q.0.suits few q.2 wrote s.ensures.few (omega (arith, s.ensures.sized.out)) (omega (arith, s.ensures.sized.report)));
    }

pub loop-preserved : goal.loop-preserved
loop-preserved g c =
    let l = c.loop in
    let i = l.invariant in
    let f = c.in_ok-flush.ensures.streams in
    let z = c.is_err.ensures.negation ∙ ap not c.if-is_err.false in
    let s = c.mend_chunk-s-in-loop in
    let n = c.in_ok-n.n in
    let full = length c.args.buffer.now in
    let b = take n c.fill.new.buffer in
    let few : n ≤ full = omega (arith, c.in_ok-n.ensures.few, i.buffer) in
    let size : length b ≡ n = length-take-le n c.fill.new.buffer (omega (arith, few, c.fill.auto.buffer, i.buffer)) in
    let filled : full ≤ l.n = omega (arith, c.if-n-buffer.false, i.buffer) in
    record {
      buffer = c.fill.auto.buffer ∙ i.buffer;
      read = omega (arith, c.in_ok-n.ensures.few, c.fill.auto.buffer);
      few = s.ensures.few;
      sized = s.ensures.sized;
      known = known_next _ _ _ _ _ _ _ _ _ n full b (pending l.s l.rooms.out l.rooms.report) _ _
          (rw c.in_ok-flush.ensures.input at c.in_ok-n.ensures.bytes) (λ k. c.in_ok-n.ensures.end (omega (arith, k, i.buffer))) f.text f.lines
          (λ all xs xs' written x short h q. next_head (lent c.args.table.now []) full (suits_still l.rooms.room l.rooms.spans (omega (arith, i.sized.room)) (omega (arith, i.sized.spans)) q.1)
          l.s l.rooms.out l.rooms.report b xs xs' l.n n (most - l.counter) (most - (l.counter + 1)) _ written (omega arith) (h q) z filled size few x short s.ensures.wrote s.ensures.few (omega (arith, s.ensures.sized.out, i.sized.out)) (omega (arith, s.ensures.sized.report, i.sized.report)))
          i.known;
    }

pub returns-then-n-buffer : goal.returns-then-n-buffer
returns-then-n-buffer g c =
    let l = c.loop in
    let i = l.invariant in
    let f = c.in_ok-flush.ensures.streams in
    let z = c.is_err.ensures.negation ∙ ap not c.if-is_err.false in
    let s = c.mend_end-last in
    let us = pending l.s l.rooms.out l.rooms.report in
    let vs = pending s.result s.new.rooms.out s.new.rooms.report in
    let short : l.n < length c.args.buffer.now = omega (arith, c.if-n-buffer.true, i.buffer) in
    on_ok_weaker c.flush-then-n-buffer.result
    (λ e. known_end _ _ _ _ _ _ _ _ (joins us vs) _ _ _ (Appends-trans _ _ _ _ _ f.text e.text) (Appends-trans _ _ _ _ _ f.lines e.lines)
    (λ all xs written h q. at_end (lent c.args.table.now []) (length c.args.buffer.now) (suits_still l.rooms.room l.rooms.spans (omega (arith, i.sized.room)) (omega (arith, i.sized.spans)) q.1) (h q) z short
    s.ensures.wrote s.ensures.few (omega (arith, s.ensures.sized.out, i.sized.out)) (omega (arith, s.ensures.sized.report, i.sized.report)) ∙ joins_assoc written us vs) i.known)
    c.flush-then-n-buffer.ensures.streams

pub returns-then-is_err : goal.returns-then-is_err
returns-then-is_err g c =
    let l = c.loop in
    let i = l.invariant in
    let f = c.in_ok-flush.ensures.streams in
    let z = c.is_err.ensures.negation ∙ ap not c.if-is_err.true in
    known_end _ _ _ _ _ _ _ _ (pending l.s l.rooms.out l.rooms.report) _ _ _ f.text f.lines
    (λ all xs written h q. at_refusal (lent c.args.table.now []) (length c.args.buffer.now) (suits_still l.rooms.room l.rooms.spans (omega (arith, i.sized.room)) (omega (arith, i.sized.spans)) q.1) (h q) z) i.known

pub returns : goal.returns
returns g c =
    let i = c.loop.invariant in
    known_end _ _ _ _ _ _ _ _ nothing _ _ _ (Appends-nil _) (Appends-nil _) (λ all xs written h q. absurd (enough (h q) (omega arith))) i.known

pub flush-requires : goal.flush-requires
flush-requires g c = c.loop.invariant.few
