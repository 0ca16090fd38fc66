use mathlib.Core.Path.{◌≡◌, sym, ap, ◌∙◌}
use native.Mathlib.Omega.{arith}
use Rattle.std.specs.Prelude.{Ok}
use Rattle.standard.specs.Encodings.{lent}
use Rattle.reading.specs.Reading.{ReadOutcome, reached, read_chunk}
use Rattle.reading.proofs.Guards.{chunk_5, chunk_8, chunk_14, chunk_7, chunk_read}
use Rattle.reading.proofs.Staged.{starts_waiting, started}
use Rattle.reading.proofs.feed.read.Goals as goal
use Rattle.reading.proofs.feed.read.Goals.{After-start_of}

pub returns-then-held-gt3 : goal.returns-then-held-gt3
returns-then-held-gt3 c =
    let a = c.args in
    let e = chunk_5 a.encoding a.mode a.stage a.state a.flag a.held (lent a.t1.now a.t2.now) a.room.now
    a.most a.chunk.now (omega arith) in
    (ap (λ (r : ReadOutcome). r.left) (sym e), ap (λ (r : ReadOutcome). r.room) (sym e))

pub returns-then-chunk-gt65536 : goal.returns-then-chunk-gt65536
returns-then-chunk-gt65536 c =
    let a = c.args in
    let e = chunk_8 a.encoding a.mode a.stage a.state a.flag a.held (lent a.t1.now a.t2.now) a.room.now
    a.most a.chunk.now (omega arith) (omega arith) in
    (ap (λ (r : ReadOutcome). r.left) (sym e), ap (λ (r : ReadOutcome). r.room) (sym e))

pub returns-then-most-chunk : goal.returns-then-most-chunk
returns-then-most-chunk c =
    let a = c.args in
    let e = chunk_14 a.encoding a.mode a.stage a.state a.flag a.held (lent a.t1.now a.t2.now) a.room.now
    a.most a.chunk.now (omega arith) (omega arith) (omega arith) in
    (ap (λ (r : ReadOutcome). r.left) (sym e), ap (λ (r : ReadOutcome). r.room) (sym e))

pub returns-then-room-all : goal.returns-then-room-all
returns-then-room-all c =
    let a = c.args in
    let e = chunk_7 a.encoding a.mode a.stage a.state a.flag a.held (lent a.t1.now a.t2.now) a.room.now
    a.most a.chunk.now (omega arith) (omega arith) (omega arith) (omega arith) in
    (ap (λ (r : ReadOutcome). r.left) (sym e), ap (λ (r : ReadOutcome). r.room) (sym e))

abbrev Asked : After-start_of → Type 0
Asked c = let a = c.args in
    let t = lent a.t1.now a.t2.now in
    read_chunk a.encoding a.mode a.stage a.state a.flag a.held a.most t a.chunk.now a.room.now ≡
    reached a.encoding a.mode a.stage a.state a.flag a.held t a.chunk.now a.room.now

asked : (c : After-start_of) → Asked c
asked c = let a = c.args in
    chunk_read a.encoding a.mode a.stage a.state a.flag a.held (lent a.t1.now a.t2.now) a.room.now
    a.most a.chunk.now (omega arith) (omega arith) (omega arith) (omega arith)

pub holds-requires : goal.holds-requires
holds-requires c =
    let a = c.args in
    let waiting = starts_waiting a.encoding a.mode a.stage a.state a.flag a.held (lent a.t1.now a.t2.now) a.chunk.now
    a.room.now (omega arith) c.in_default.ensures in
    (omega arith, omega arith, omega arith, omega (arith, waiting.few))

pub returns-in_default : goal.returns-in_default
returns-in_default c =
    let a = c.args in
    let waiting = starts_waiting a.encoding a.mode a.stage a.state a.flag a.held (lent a.t1.now a.t2.now) a.chunk.now
    a.room.now (omega arith) c.in_default.ensures in
    let k = asked (goal.at.returns-in_default c).After-start_of ∙ waiting.waits in
    (ap Ok c.holds.ensures ∙ ap (λ (r : ReadOutcome). r.left) (sym k), ap (λ (r : ReadOutcome). r.room) (sym k))

pub read_all-requires : goal.read_all-requires
read_all-requires c =
    let a = c.args in
    let begun = started a.encoding a.mode a.stage a.state a.flag a.held (lent a.t1.now a.t2.now) a.chunk.now
    a.room.now (omega arith) c.in-Some.s c.in-Some.ensures in
    (omega arith, omega arith, omega arith, omega (arith, begun.there))

pub returns : goal.returns
returns c =
    let a = c.args in
    let begun = started a.encoding a.mode a.stage a.state a.flag a.held (lent a.t1.now a.t2.now) a.chunk.now
    a.room.now (omega arith) c.in-Some.s c.in-Some.ensures in
    let k = begun.reads ∙ sym (asked (goal.at.returns c).After-start_of) in
    let done = c.read_all.ensures in
    (done.0 ∙ ap (λ (r : ReadOutcome). r.left) k, done.1 ∙ ap (λ (r : ReadOutcome). r.room) k)
