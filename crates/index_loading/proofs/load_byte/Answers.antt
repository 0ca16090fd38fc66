use Rattle.index_loading.proofs.Bytes.{byte_ends, byte_kept, byte_left}
use Rattle.index_loading.proofs.load_byte.Goals as goal

pub returns-then-b-eq10-clause-stands : goal.returns-then-b-eq10-clause-stands
returns-then-b-eq10-clause-stands c =
    let a = c.args in
    let e = c.close.ensures.stands in
    byte_ends a.line.now a.table.now a.n c.close.result _ e.0 e.1 a.b c.if-b-eq10.true

pub returns-then-n-eq-ROOM-clause-stands : goal.returns-then-n-eq-ROOM-clause-stands
returns-then-n-eq-ROOM-clause-stands c =
    let a = c.args in
    byte_left a.n a.b a.line.now a.table.now c.requires.room c.requires.few c.if-b-eq10.false c.if-n-eq-ROOM.true

pub returns-clause-stands : goal.returns-clause-stands
returns-clause-stands c =
    let a = c.args in
    byte_kept a.n a.b a.line.now a.table.now c.requires.room c.requires.few c.if-b-eq10.false c.if-n-eq-ROOM.false
