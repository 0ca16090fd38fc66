use Rattle.std.proofs.Common.{◌≡◌, sym, ◌∙◌, ◌≤◌, ◌<◌, [], length, length-take-le, arith}
use Rattle.std.proofs.KnownBytes.{Consumes-nil}
use Rattle.std.proofs.lemmas.Result.{on_ok_weaker}
use Rattle.showtext.proofs.Buffers.{begun_few, went_few}
use Rattle.showtext.proofs.Runs.{State, StateAt, most, any, starting, enough, first, first_out, further, further_out, closed, first_turns, further_turns, known_first, known_next, known_end, known_last, known_whole}
use Rattle.showtext.proofs.run.Goals as goal

pub slice_bounds-write_all-end : goal.slice_bounds-write_all-end
slice_bounds-write_all-end g c =
    let f = begun_few _ c.args.room.now c.args.out.now (omega arith) c.in-Ok.ensures in omega (arith, f.1, c.begin.auto.out)

pub slice_bounds-write_all-end-2 : goal.slice_bounds-write_all-end-2
slice_bounds-write_all-end-2 g c =
    let f = begun_few _ c.args.room.now c.args.out.now (omega arith) c.in-Ok.ensures in
    sym (length-take-le _ _ (omega (arith, f.1, c.begin.auto.out)))

pub slice_bounds-write_all-end-in-loop : goal.slice_bounds-write_all-end-in-loop
slice_bounds-write_all-end-in-loop g c =
    let l = c.loop in
    let f = went_few l.s.decoder l.s.count _ l.room l.out (omega arith) c.in-Ok-go_on.ensures in omega (arith, f.1, c.go_on.auto.out)

pub slice_bounds-write_all-end-in-loop-2 : goal.slice_bounds-write_all-end-in-loop-2
slice_bounds-write_all-end-in-loop-2 g c =
    let l = c.loop in
    let f = went_few l.s.decoder l.s.count _ l.room l.out (omega arith) c.in-Ok-go_on.ensures in
    sym (length-take-le _ _ (omega (arith, f.1, c.go_on.auto.out)))

pub loop-init : goal.loop-init
loop-init g c =
    let a = c.args in
    let full = length a.buffer.now in
    let read = c.in_ok-n.ensures in
    let f = begun_few _ a.room.now a.out.now (omega arith) c.in-Ok.ensures in
    record {
      buffer = c.fill.auto.buffer;
      count = omega (arith, f.0, c.requires.0);
      turns = λ f. first_turns _ a.room.now a.out.now c.in-Ok.ensures;
      known = known_next _ _ _ _ _ _ 0 c.in_ok-n.n full _ _ (λ all xs written. State full a.room.now a.out.now all 0 any a.room.now a.out.now most xs written)
          (StateAt full a.room.now a.out.now c.in_ok-n.n 0 c.in-Ok.s c.begin.new.room c.begin.new.out)
          read.bytes (λ z m. read.end m) c.in_ok-write_all.ensures.bytes
          (λ all xs xs' written x short t. first c.fill.new.buffer c.fill.auto.buffer read.few all xs xs' written x short t c.in-Ok.ensures)
          (known_first _ _ _ (λ all. starting full any a.room.now a.out.now all));
    }

pub returns-in-Err : goal.returns-in-Err
returns-in-Err g c =
    let a = c.args in
    let full = length a.buffer.now in
    let read = c.in_ok-n.ensures in
    let steps = on_ok_weaker c.refuse.result
    (λ e. known_last _ _ _ _ _ _ 0 c.in_ok-n.n full _ _ (λ all xs written. State full a.room.now a.out.now all 0 any a.room.now a.out.now most xs written) _ _
    read.bytes (λ z m. read.end m) e
    (λ all xs xs' written x short t f. first_out c.fill.new.buffer c.fill.auto.buffer read.few all xs xs' written x short t.prints f c.in-Err.ensures)
    (known_first _ _ _ (λ all. starting full any a.room.now a.out.now all)))
    c.refuse.ensures in
    record { bytes = on_ok_weaker c.refuse.result (known_whole _ _ _ full a.room.now a.out.now) steps; steps = steps }

pub loop-preserved : goal.loop-preserved
loop-preserved g c =
    let l = c.loop in
    let i = l.invariant in
    let full = length c.args.buffer.now in
    let read = c.in_ok-n-2.ensures in
    let buffer = c.fill-in-loop.new.buffer in
    let size : length buffer ≡ full = c.fill-in-loop.auto.buffer ∙ i.buffer in
    let few : c.in_ok-n-2.n ≤ full = omega (arith, read.few, i.buffer) in
    let filled : full ≤ l.n = omega (arith, c.if-n-buffer.false, i.buffer) in
    let f = went_few l.s.decoder l.s.count _ l.room l.out (omega arith) c.in-Ok-go_on.ensures in
    record {
      buffer = size;
      count = omega (arith, f.0, i.count, c.requires.0, l.auto.room, c.loop-test.true);
      turns = λ f. further_turns l.s.count buffer l.room l.out f size few filled (i.turns f) c.in-Ok-go_on.ensures;
      known = known_next _ _ _ _ _ _ 1 c.in_ok-n-2.n full _ _ _ _
          read.bytes (λ z m. read.end (omega (arith, m, i.buffer))) c.in_ok-write_all-3.ensures.bytes
          (λ all xs xs' written x short t. further buffer size few all xs xs' written x l.n l.counter filled (omega (arith, c.loop-test.true)) short t
          c.in-Ok-go_on.ensures) i.known;
    }

pub returns-in-Err-go_on : goal.returns-in-Err-go_on
returns-in-Err-go_on g c =
    let a = c.args in
    let l = c.loop in
    let i = l.invariant in
    let full = length a.buffer.now in
    let read = c.in_ok-n-2.ensures in
    let buffer = c.fill-in-loop.new.buffer in
    let size : length buffer ≡ full = c.fill-in-loop.auto.buffer ∙ i.buffer in
    let few : c.in_ok-n-2.n ≤ full = omega (arith, read.few, i.buffer) in
    let filled : full ≤ l.n = omega (arith, c.if-n-buffer.false, i.buffer) in
    let steps = on_ok_weaker c.refuse-in-Err-go_on.result
    (λ e. known_last _ _ _ _ _ _ 1 c.in_ok-n-2.n full _ _ _ _ _
    read.bytes (λ z m. read.end (omega (arith, m, i.buffer))) e
    (λ all xs xs' written x short t f. further_out l.n all xs xs' written t.prints f buffer size few filled x short c.in-Err-go_on.ensures) i.known)
    c.refuse-in-Err-go_on.ensures in
    record { bytes = on_ok_weaker c.refuse-in-Err-go_on.result (known_whole _ _ _ full a.room.now a.out.now) steps; steps = steps }

pub returns-then-n-buffer : goal.returns-then-n-buffer
returns-then-n-buffer g c =
    let a = c.args in
    let l = c.loop in
    let i = l.invariant in
    let full = length a.buffer.now in
    let short : l.n < full = omega (arith, c.if-n-buffer.true, i.buffer) in
    let steps = known_last _ _ _ _ _ _ 2 0 full [] _ (StateAt full a.room.now a.out.now l.n l.counter l.s l.room l.out) _ _
    (Consumes-nil _) (λ z m. absurd (omega (arith, z))) c.in_ok-write_all-2.ensures.bytes
    (λ all xs xs' written x none t f. closed l.n all xs xs' written t.prints f short x c.close-length.ensures) i.known in
    record { bytes = known_whole _ _ _ full a.room.now a.out.now steps; steps = steps }

pub returns : goal.returns
returns g c =
    let a = c.args in
    let l = c.loop in
    let i = l.invariant in
    let full = length a.buffer.now in
    let steps = known_end _ _ _ _ (StateAt full a.room.now a.out.now l.n l.counter l.s l.room l.out) _ _
    (λ all xs written t f. absurd (enough (i.turns f) (omega (arith, c.loop-test.false)))) i.known in
    record { bytes = known_whole _ _ _ full a.room.now a.out.now steps; steps = steps }
