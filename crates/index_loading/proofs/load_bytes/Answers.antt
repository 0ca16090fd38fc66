use native.Mathlib.Omega.{arith}
use mathlib.Core.Path.{◌≡◌, refl, sym, ap, ◌∙◌}
use mathlib.Core.List.{[]}
use lib.Dec.{lit≤}
use lib.ListN.{drop, drop_of_length-le}
use Rattle.std.proofs.Common.{rules, Err}
use Rattle.index_loading.specs.Steps.{at, placed, on_bytes}
use Rattle.index_loading.proofs.Bytes.{step_on, step_fault}
use Rattle.index_loading.proofs.load_bytes.Goals as goal

pub returns-in_err-n : goal.returns-in_err-n
returns-in_err-n c =
    let fault = c.in_err-n.ensures in
    let e : c.from_residual.result ≡ Err c.in_err-n.field-0.0 = search rules in
    rw e (record {
      few = lit≤ tt;
      stands = sym (c.loop-b.invariant.same ∙ step_fault _ _ c.loop-b.b-index c.loop-b-test.true _ _ _ fault.stands (fault.fault _ refl));
    })

pub loop-b-preserved : goal.loop-b-preserved
loop-b-preserved c =
    let inv = c.loop-b.invariant in
    let step = c.in_ok-n.ensures.stands in
    record {
      few = step.few;
      room = omega (arith, c.load_byte.auto.line, inv.room);
      same = inv.same ∙ step_on _ _ c.loop-b.b-index c.loop-b-test.true _ _ _ step;
    }

pub returns : goal.returns
unfolding on_bytes
returns c =
    let l = c.loop-b in
    let e : drop l.b-index c.args.bytes.now ≡ [] = drop_of_length-le c.args.bytes.now {i = l.b-index} c.loop-b-test.false in
    record { few = l.invariant.few; stands = sym (l.invariant.same ∙ ap (on_bytes (placed (at l.n 0) l.line l.table)) e) }
