use native.Mathlib.Omega.{arith}
use Rattle.index_loading.proofs.Bytes.{close_stands, end_stays, end_by}
use Rattle.index_loading.proofs.load_end.Goals as goal

pub returns-then-place-ne0 : goal.returns-then-place-ne0
returns-then-place-ne0 c = let m = c.most-place in
    record {
      goes = λ h. end_stays c.args.s c.args.line.now c.args.table.now m.ensures.0 c.if-place-ne0.true m.ensures.1;
      short = λ h. absurd (omega arith);
    }

pub returns : goal.returns
returns c =
    let m = c.most-place in
    let e = c.close.ensures.stands in
    record {
      goes = λ h. end_by c.args.s c.args.line.now c.args.table.now m.ensures.0 c.if-place-ne0.false
          (rw c.told.ensures (close_stands c.args.line.now c.args.table.now m.result.length c.close.result _ e.0 e.1));
      short = λ h. absurd (omega arith);
    }
