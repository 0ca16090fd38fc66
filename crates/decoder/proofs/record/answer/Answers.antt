use mathlib.Core.Path.{◌≡◌, ap, ◌∙◌}
use Prim.Native.Nat.{◌+◌}
use Rattle.reading.specs.declared.Left.{Left}
use Rattle.decoder.specs.Code.{accepting, fed}
use Rattle.decoder.proofs.record.answer.Goals as goal

pub returns-in-Ok : goal.returns-in-Ok
returns-in-Ok c =
    let d = c.args.d in
    let l = c.in-Ok.left in
    rw c.in-Ok.is (λ w k p xs q.
    let holds : c.holding-decoder.result ≡ fed d (d.taken + c.args.n) (d.lines + k) p xs =
    c.holding-decoder.ensures w k p xs q ∙ ap (λ (l : Left). fed d (d.taken + c.args.n) (d.lines + l.lines) p xs) q in
    c.accepted.ensures ∙ (λ i. accepting (q i).written (holds i)))
