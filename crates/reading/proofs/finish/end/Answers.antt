use mathlib.Core.Path.{sym, ap, ◌∙◌}
use native.Mathlib.Omega.{arith}
use Rattle.standard.specs.Encodings.{lent}
use Rattle.reading.specs.Reading.{ReadOutcome}
use Rattle.reading.proofs.Guards.{end_5, end_7, end_read}
use Rattle.reading.proofs.Staged.{end_chosen, end_first}
use Rattle.reading.proofs.finish.end.Goals as goal

pub returns-then-held-gt3 : goal.returns-then-held-gt3
returns-then-held-gt3 c =
    let a = c.args in
    let e = end_5 a.encoding a.mode a.stage a.state a.flag a.held (lent a.t1.now a.t2.now) a.room.now
    (omega arith) in
    (ap (λ (r : ReadOutcome). r.left) (sym e), ap (λ (r : ReadOutcome). r.room) (sym e))

pub returns-then-room-held : goal.returns-then-room-held
returns-then-room-held c =
    let a = c.args in
    let e = end_7 a.encoding a.mode a.stage a.state a.flag a.held (lent a.t1.now a.t2.now) a.room.now
    (omega arith) (omega arith) in
    (ap (λ (r : ReadOutcome). r.left) (sym e), ap (λ (r : ReadOutcome). r.room) (sym e))

pub returns-then-stage-eq1 : goal.returns-then-stage-eq1
returns-then-stage-eq1 c =
    let a = c.args in
    let t = lent a.t1.now a.t2.now in
    let e = end_read a.encoding a.mode a.stage a.state a.flag a.held t a.room.now (omega arith) (omega arith) in
    let k = end_first a.encoding a.mode a.held t a.room.now a.stage a.state a.flag (omega arith) ∙ sym e in
    (c.end_waiting.ensures.0 ∙ ap (λ (r : ReadOutcome). r.left) k, c.end_waiting.ensures.1 ∙ ap (λ (r : ReadOutcome). r.room) k)

pub returns : goal.returns
returns c =
    let a = c.args in
    let t = lent a.t1.now a.t2.now in
    let e = end_read a.encoding a.mode a.stage a.state a.flag a.held t a.room.now (omega arith) (omega arith) in
    let k = end_chosen a.encoding a.mode a.held t a.room.now a.stage a.state a.flag
    c.reader-reads.ensures (omega arith) ∙ sym e in
    (c.rest.ensures.0 ∙ ap (λ (r : ReadOutcome). r.left) k, c.rest.ensures.1 ∙ ap (λ (r : ReadOutcome). r.room) k)
