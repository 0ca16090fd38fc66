use Rattle.list.specs.Faults.{number_of}
use Rattle.list.proofs.Judging.{number_pos}
use Rattle.list.proofs.Answers.{answered_fault, answered_small, room_fits, answered_good}
use Rattle.list.proofs.read_list.Goals as goal

pub write-requires : goal.write-requires
write-requires c =
    room_fits c.args.text.now c.args.names.now c.args.room.now c.in-Ok.ensures.0 c.in-Ok.options c.in-Ok.ensures.1 c.if-options-room.true

pub returns-in-Ok : goal.returns-in-Ok
returns-in-Ok c =
    answered_good c.args.text.now c.args.names.now c.args.room.now c.in-Ok.ensures.0 c.in-Ok.options c.in-Ok.ensures.1 c.if-options-room.true
    c.write.new.room c.write.ensures

pub returns-in-Ok-2 : goal.returns-in-Ok-2
returns-in-Ok-2 c =
    answered_small c.args.text.now c.args.names.now c.args.room.now c.in-Ok.ensures.0 c.in-Ok.options c.in-Ok.ensures.1 c.if-options-room.false

pub returns-in-Err : goal.returns-in-Err
returns-in-Err c =
    rw c.from.ensures (answered_fault c.args.text.now c.args.names.now c.args.room.now (number_of c.in-Err.at.fault) c.in-Err.at.line
    (number_pos c.in-Err.at.fault) c.in-Err.ensures)
