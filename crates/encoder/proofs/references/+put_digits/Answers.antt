use Rattle.encoder.proofs.Rooms.{put_one_digit, put_more_digits, digits_room, digits_one_length}
use Rattle.std.proofs.Common.{arith, rules}
use Rattle.encoder.proofs.references.+put_digits.Goals as goal

pub bounds-room-at : goal.bounds-room-at
bounds-room-at t c = omega (arith, digits_one_length c.args.c (search rules))

pub returns-then-c-lt10 : goal.returns-then-c-lt10
returns-then-c-lt10 t c =
    let a = c.args in
    put_one_digit a.room.now a.at a.c _ (search rules) (search rules)

pub put_digits-last-requires : goal.put_digits-last-requires
put_digits-last-requires t c =
    let a = c.args in
    (omega arith, omega (arith, digits_room a.room.now a.at a.c _ (search rules) c.requires))

pub bounds-room-last : goal.bounds-room-last
bounds-room-last t c =
    let a = c.args in
    omega (arith, digits_room a.room.now a.at a.c _ (search rules) c.requires, c.put_digits-last.ensures.0)

pub overflow_add-result-2 : goal.overflow_add-result-2
overflow_add-result-2 t c =
    let a = c.args in
    record { fits = omega (arith, digits_room a.room.now a.at a.c _ (search rules) c.requires, c.put_digits-last.ensures.0) }

pub returns : goal.returns
returns t c =
    let a = c.args in
    put_more_digits a.room.now a.at a.c _ _ _ (search rules) c.put_digits-last.ensures.0 c.put_digits-last.ensures.1 (search rules)
