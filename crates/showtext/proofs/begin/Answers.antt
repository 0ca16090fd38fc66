use Rattle.showtext.proofs.Buffers.{begun_refused, begun_text}
use Rattle.showtext.proofs.begin.Goals as goal

pub returns-then-found-eq1 : goal.returns-then-found-eq1
returns-then-found-eq1 c =
    let a = c.args in
    begun_refused a.input.now a.room.now a.out.now c.first_label-found.ensures.1 c.if-found-eq1.true

pub returns : goal.returns
returns c =
    let a = c.args in
    let l = c.first_label-found in
    begun_text a.input.now a.room.now a.out.now l.ensures.0 l.ensures.1 c.open-opened.ensures c.if-found-eq1.false
    c.after_line.ensures c.begin_text.result c.begin_text.new.room c.begin_text.new.out c.begin_text.ensures
