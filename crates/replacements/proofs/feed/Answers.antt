use native.Mathlib.Omega.{arith}
use mathlib.Core.Path.{sym, ap, ◌∙◌}
use mathlib.Core.List.{[]}
use Prim.Native.Nat.{◌+◌, ◌-◌, ◌*◌}
use lib.ListN.{length, length-take}
use borrow.Author.Tests.{ltb-false}
use Rattle.standard.specs.Encodings.{lent}
use Rattle.decoder.specs.declared.Answer.{Answer}
use Rattle.decoder.specs.Calls.{Outcome, feed_refusal, read_on, feeding}
use Rattle.replacements_spec.specs.Replaced.{replaced}
use Rattle.replacements_spec.specs.Calls.{feed_tell_refusal, feed_telling}
use Rattle.replacements.proofs.Calling.{fed_out_lem, tells_short, tells_none, tells_some, taken_0, feed_short}
use Rattle.replacements.proofs.feed.Goals as goal

pub returns-then-short : goal.returns-then-short
unfolding feed_telling feed_tell_refusal
returns-then-short c =
    let a = c.args in
    let t = lent a.t1.now a.t2.now in
    let n = length a.chunk.now + a.d.held in
    let is = (read_on a.d t a.chunk.now).items in
    let O = fed_out_lem a.d t a.chunk.now a.room.now in
    let s = feed_short a.d t a.room.now a.spans.now a.chunk.now
    (sym c.short.ensures ∙ c.if-short.true) in
    tells_short a.d a.d.mode (feed_refusal a.d t a.chunk.now a.room.now) (feed_refusal a.d t a.chunk.now []) n is
    a.room.now a.spans.now
    (feeding a.d t a.chunk.now a.room.now) (replaced (a.d.taken - a.d.held) is) s.0 s.1
    (c.feed-answer.ensures.0 ∙ ap (λ (o : Outcome). o.answer) ((fed_out_lem a.d t a.chunk.now []).refused s.1))

pub returns-then-answer-ne0 : goal.returns-then-answer-ne0
unfolding feed_telling feed_tell_refusal
returns-then-answer-ne0 c =
    let a = c.args in
    let t = lent a.t1.now a.t2.now in
    let n = length a.chunk.now + a.d.held in
    let is = (read_on a.d t a.chunk.now).items in
    let O = fed_out_lem a.d t a.chunk.now a.room.now in
    tells_none a.d a.d.mode (feed_refusal a.d t a.chunk.now a.room.now) n is a.room.now a.spans.now _ O
    (replaced (a.d.taken - a.d.held) is)
    (sym c.short.ensures ∙
    c.if-short.false) c.feed-answer-2.ensures.0 c.feed-answer-2.ensures.1 c.if-answer-ne0.true

pub slice_bounds-tell-end : goal.slice_bounds-tell-end
slice_bounds-tell-end c =
    let a = c.args in
    let t = lent a.t1.now a.t2.now in
    let n = length a.chunk.now + a.d.held in
    let is = (read_on a.d t a.chunk.now).items in
    let O = fed_out_lem a.d t a.chunk.now a.room.now in
    let z = taken_0 a.d a.d.mode (feed_refusal a.d t a.chunk.now a.room.now) n is a.room.now a.spans.now _ O
    (replaced (a.d.taken - a.d.held) is)
    (sym c.short.ensures ∙
    c.if-short.false) c.feed-answer-2.ensures.0 (omega arith) in
    let w = ap (λ (b : Answer). b.written) c.feed-answer-2.ensures.0 in
    let r = ap length c.feed-answer-2.ensures.1 in
    let k = O.fits z (sym (ap (λ (b : Answer). b.refusal) c.feed-answer-2.ensures.0) ∙ omega arith) in
    omega (arith, w, r, k)

pub slice_bounds-tell-end-2 : goal.slice_bounds-tell-end-2
slice_bounds-tell-end-2 c =
    let a = c.args in
    let t = lent a.t1.now a.t2.now in
    let n = length a.chunk.now + a.d.held in
    let is = (read_on a.d t a.chunk.now).items in
    let O = fed_out_lem a.d t a.chunk.now a.room.now in
    let z = taken_0 a.d a.d.mode (feed_refusal a.d t a.chunk.now a.room.now) n is a.room.now a.spans.now _ O
    (replaced (a.d.taken - a.d.held) is)
    (sym c.short.ensures ∙
    c.if-short.false) c.feed-answer-2.ensures.0 (omega arith) in
    let w = ap (λ (b : Answer). b.written) c.feed-answer-2.ensures.0 in
    let r = ap length c.feed-answer-2.ensures.1 in
    let k = O.fits z (sym (ap (λ (b : Answer). b.refusal) c.feed-answer-2.ensures.0) ∙ omega arith) in
    simp length-take (omega (arith, w, r, k))

pub tell-count-requires : goal.tell-count-requires
tell-count-requires c =
    let a = c.args in
    let t = lent a.t1.now a.t2.now in
    let n = length a.chunk.now + a.d.held in
    let is = (read_on a.d t a.chunk.now).items in
    let O = fed_out_lem a.d t a.chunk.now a.room.now in
    let k = sym c.short.ensures ∙
    c.if-short.false in
    let z = taken_0 a.d a.d.mode (feed_refusal a.d t a.chunk.now a.room.now) n is a.room.now a.spans.now _ O
    (replaced (a.d.taken - a.d.held) is) k c.feed-answer-2.ensures.0 (omega arith) in
    record {
      accepted = (a.room.now, z);
      space = omega (arith, ltb-false (length a.spans.now) (2 * n) k);
      wrote = λ h. rw (c.feed-answer-2.ensures.0, c.feed-answer-2.ensures.1) (O.wrote z h);
    }

pub returns : goal.returns
unfolding feed_telling feed_tell_refusal
returns c =
    let a = c.args in
    let t = lent a.t1.now a.t2.now in
    let n = length a.chunk.now + a.d.held in
    let is = (read_on a.d t a.chunk.now).items in
    let O = fed_out_lem a.d t a.chunk.now a.room.now in
    tells_some a.d a.d.mode (feed_refusal a.d t a.chunk.now a.room.now) n is a.room.now a.spans.now _ O
    (replaced (a.d.taken - a.d.held) is)
    (sym c.short.ensures ∙
    c.if-short.false) c.feed-answer-2.ensures.0
    c.feed-answer-2.ensures.1 (omega arith) c.tell-count.ensures
