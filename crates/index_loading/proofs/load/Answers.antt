use native.Mathlib.Omega.{arith}
use Rattle.index_loading.proofs.Bytes.{loads_stay, loads_by}
use Rattle.index_loading.proofs.load.Goals as goal

pub returns-then-place-ne0 : goal.returns-then-place-ne0
returns-then-place-ne0 c = let m = c.most-place in
    record {
      goes = λ h. loads_stay c.args.s c.args.line.now c.args.table.now m.ensures.0 c.args.bytes.now c.if-place-ne0.true m.ensures.1;
      short = λ h. absurd (omega arith);
    }

pub returns : goal.returns
returns c = record {
  goes = λ h. rw c.told.ensures (loads_by c.args.s c.args.line.now c.args.table.now c.most-place.ensures.0 c.args.bytes.now c.if-place-ne0.false c.load_bytes.ensures);
  short = λ h. absurd (omega arith);
}
