use Rattle.std.proofs.Common.{◌+◌, ◌*◌, ◌≤◌, length, take, length-take, length-take-le, arith}
use Rattle.standard.specs.Text.{bytes}
use Rattle.program_text.proofs.Texts.{number_few}
use Rattle.program_text.proofs.Utf8Texts.{utf8_few}
use Rattle.mend_spec.proofs.Report.{lines_few}
use Rattle.mend.proofs.Wrote.{wrote_refused}
use Rattle.mend.proofs.write_step.Goals as goal
use Rattle.mend.proofs.write_step.Goals.{After-put_spans-told, After-put_text-written}

-- the text and the lines leave room
text_room : (c : After-put_text-written) → let a = c.args in 0 + 4 * length (take a.a.answer.written a.rooms.now.room) ≤ length a.rooms.now.out
text_room c = let a = c.args in omega (arith, length-take a.a.answer.written a.rooms.now.room)

text_few : (c : After-put_text-written) → c.put_text-written.result ≤ length c.put_text-written.new.out
text_few c =
    let a = c.args in
    let p = c.put_text-written in
    let few = length-take a.a.answer.written a.rooms.now.room in
    omega (arith, (p.ensures.put (text_room c)).behind, utf8_few (take a.a.answer.written a.rooms.now.room), few, p.auto.out)

line_room : (c : After-put_spans-told) → c.put_spans-told.result + (7 + 22) ≤ length c.put_spans-told.new.report
line_room c =
    let a = c.args in
    let t = c.requires.count in
    let n = 2 * a.a.count in
    omega (arith, lines_few a.a.count (take n a.rooms.now.spans) (length-take-le n a.rooms.now.spans t), t, c.put_spans-told.ensures.behind, c.put_spans-told.auto.report)

pub returns-in-Err : goal.returns-in-Err
unfolding bytes
returns-in-Err c =
    let a = c.args in
    let shown = (goal.at.returns-in-Err c).After-put_text-written in
    let room = line_room (goal.at.returns-in-Err c).After-put_spans-told in
    let put = c.put_number-end.ensures.put room in
    let last = rw c.from.ensures at put in
    record {
      wrote = wrote_refused a.a a.rooms.now.room a.rooms.now.spans a.more (c.put_text-written.ensures.put (text_room shown)) c.put_spans-told.ensures c.in-Err.ensures last;
      few = record {
        text = text_few shown;
        lines = omega (arith, put.behind, room, number_few (bytes "refused") c.from.result, c.put_number-end.auto.out);
      };
      sized = record {
        room = omega arith;
        spans = omega arith;
        out = omega (arith, c.put_text-written.auto.out);
        report = omega (arith, c.put_number-end.auto.out, c.put_spans-told.auto.report);
      };
    }

pub returns-clause-few : goal.returns-clause-few
returns-clause-few c = record {
  text = text_few (goal.at.returns-clause-few c).After-put_text-written;
  lines = let room = line_room (goal.at.returns-clause-few c).After-put_spans-told in omega (arith, room);
}

pub returns-clause-sized : goal.returns-clause-sized
returns-clause-sized c = record {
  room = omega arith;
  spans = omega arith;
  out = omega (arith, c.put_text-written.auto.out);
  report = omega (arith, c.put_spans-told.auto.report);
}
